-- Why a write of all bytes gave up.
use Rattle.std.proofs.Common.{refl}
use Rattle.response_reader.proofs.RequestLemmas.{none_counted}
use Rattle.requests.proofs.request.write_text.Goals as goal

pub returns-in-Err-clause-device : goal.returns-in-Err-clause-device
returns-in-Err-clause-device g c =
    let gave = c.in-Err.ensures.gives_up 0 in
    (refl, gave.risen (g.W.Wire.failed c.args.wire.now) (none_counted (g.W.Wire.failed c.args.wire.now)))

pub returns-in-Err-clause-read : goal.returns-in-Err-clause-read
returns-in-Err-clause-read g c = (c.in-Err.ensures.gives_up 0).kept
