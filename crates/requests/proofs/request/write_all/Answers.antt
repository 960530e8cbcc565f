use Rattle.std.proofs.Common.{rules, tests}
use Rattle.std.proofs.lemmas.List.{take_rest}
use Rattle.response_reader.proofs.RequestLemmas.{all_sent, sent_more, sent_none}
use Rattle.response_reader.proofs.WireLemmas.{goes_on_same}
use Rattle.requests.proofs.request.write_all.Goals as goal

pub writes-preserved-in-Ok : goal.writes-preserved-in-Ok
writes-preserved-in-Ok g c = record {
  sent = sent_more _ _ _ c.args.bytes.now c.writes.rest.now _ c.in-Ok.taken c.writes.invariant.sent c.in-Ok.ensures.bytes (simp take_rest);
  few = c.writes.invariant.few;
  counts = search rules;
}

pub writes-init : goal.writes-init
writes-init g c = record {
  sent = sent_none (g.W.Wire.outgoing c.args.wire.now) c.args.bytes.now;
  few = c.requires;
  counts = goes_on_same _;
}

pub returns : goal.returns
returns g c =
    let before = c.writes.invariant in
    record {
      written = all_sent (g.W.Wire.outgoing c.args.wire.now) (g.W.Wire.outgoing c.writes.wire) c.args.bytes.now c.writes.rest.now before.sent (search (rules, tests));
      part = tt;
      few = before.few;
      counts = before.counts;
      gives_up = tt;
    }
