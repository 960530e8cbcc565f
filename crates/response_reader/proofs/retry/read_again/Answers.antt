-- A read that was made again when it was interrupted goes on from the one before.
use Rattle.std.proofs.Common.{◌∙◌, refl}
use Rattle.response_reader.proofs.WireLemmas.{keeps_consumes, keeps_same, keeps_trans}
use Rattle.response_reader.proofs.retry.read_again.Goals as goal

pub loop-count-init : goal.loop-count-init
loop-count-init g c = record {
  same = keeps_same (g.W.Wire.incoming c.args.wire.now);
  written = keeps_same (g.W.Wire.outgoing c.args.wire.now);
  all = λ base h. h;
  lost = refl;
  unfailing = λ h. h;
  none = λ h. refl;
  unerring = λ h. h;
}

pub returns-in-Ok : goal.returns-in-Ok
returns-in-Ok g c =
    let e = c.in-Ok.ensures in
    let before = c.loop-count.invariant in
    record {
      bound = e.bound.0;
      bytes = keeps_consumes (g.W.Wire.incoming c.args.wire.now) (g.W.Wire.incoming c.loop-count.wire) (g.W.Wire.incoming c.read.new.self) _ before.same e.bytes.0;
      end = e.bytes.1;
      few = c.loop-count-test.true;
      counts = record {
        all = λ base h. e.counted ∙ before.all base h;
        unfailing = λ h. e.steady (before.unfailing h);
        unerring = λ h. e.quiet (before.unerring h);
        kept = keeps_trans (g.W.Wire.outgoing c.args.wire.now) (g.W.Wire.outgoing c.loop-count.wire) (g.W.Wire.outgoing c.read.new.self) before.written e.written;
        lost = e.lost ∙ before.lost;
        few = λ h. c.loop-count-test.true;
      };
      device = tt;
      same = tt;
      gives_up = tt;
    }
