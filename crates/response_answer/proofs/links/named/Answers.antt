use Rattle.std.proofs.Common.{◌≡◌, ℕ, Bool, true, false, List, refl, rules}
use Rattle.std.specs.Str.{IsUtf8, is_utf8}
use Rattle.std.proofs.lemmas.Str.{is_utf8-from_IsUtf8, IsUtf8-from_is_utf8}
use Rattle.response_answer.specs.Digests.{named_from}
use Rattle.response_answer.proofs.links.named.Goals as goal

false_unless : (b : Bool) → ¬ (b ≡ true) → b ≡ false
false_unless true h = absurd (h refl)
false_unless false h = refl

not_text : (bs : List ℕ) → ¬ (IsUtf8 bs) → is_utf8 bs ≡ false
not_text bs h = false_unless (is_utf8 bs) (λ t. h (IsUtf8-from_is_utf8 bs t))

pub returns-in-Ok : goal.returns-in-Ok
unfolding named_from
returns-in-Ok c =
    let text = is_utf8-from_IsUtf8 c.args.text.now c.in-Ok.ensures.cases.1 in
    search (rules, text)

pub returns-in-Err : goal.returns-in-Err
unfolding named_from
returns-in-Err c =
    let fails : is_utf8 c.args.text.now ≡ false = not_text c.args.text.now c.in-Err.ensures.cases.0 in
    rw fails refl
