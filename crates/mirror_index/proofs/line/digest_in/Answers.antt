-- Hex digits that were written are read back.
use Rattle.std.proofs.Common.{ℕ, List, ap}
use Rattle.hex.specs.Hex.{decode_sized}
use Rattle.hex.proofs.HexLemmas.{decode_sized-encode_lower}
use Rattle.mirror_index.proofs.line.digest_in.Goals as goal

pub returns-in-Ok : goal.returns-in-Ok
returns-in-Ok c d digest is =
    let all = decode_sized-encode_lower d 32 digest.size digest.bytes in
    let same = ap (λ (x : List ℕ). decode_sized x 32) is in
    cc (c.in-Ok.ensures, all, same)

pub returns-in-Err : goal.returns-in-Err
returns-in-Err c d digest is =
    let all = decode_sized-encode_lower d 32 digest.size digest.bytes in
    let same = ap (λ (x : List ℕ). decode_sized x 32) is in
    cc (c.in-Err.ensures, all)
