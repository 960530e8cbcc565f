use Rattle.std.proofs.Common.{◌≡◌, ℕ, ◌+◌, ◌<◌, List, ◌++◌, ◌∷◌, [], length, take, get_or, sym, ap, ◌∙◌, append_assoc}
use Rattle.std.proofs.lemmas.List.{take_more, take_all, map-append}
use Rattle.std.specs.Char.{to_ascii_lowercase}
use Rattle.html_links.specs.Pieces.{lower}
use Rattle.html_links.proofs.lexer.tags.push_lower.Goals as goal

one_more : (front text now next : List ℕ) (i low : ℕ) → i < length text → low ≡ to_ascii_lowercase (get_or text i 0) → now ≡ front ++ lower (take i text) → next ≡ now ++ low ∷ [] → next ≡ front ++ lower (take (i + 1) text)
one_more front text now next i low below is so pushed =
    pushed
    ∙ ap (λ xs. xs ++ low ∷ []) so
    ∙ append_assoc front (lower (take i text)) (low ∷ [])
    ∙ ap (λ x. front ++ (lower (take i text) ++ x ∷ [])) is
    ∙ sym (ap (λ xs. front ++ xs) (ap lower (take_more text i 0 below) ∙ map-append to_ascii_lowercase (take i text) (get_or text i 0 ∷ [])))

pub loop-byte-preserved : goal.loop-byte-preserved
loop-byte-preserved c =
    one_more c.args.name.now.items c.args.text.now c.loop-byte.name.items c.push.new.self.items c.loop-byte.byte-index c.to_ascii_lowercase.result c.loop-byte-test.true c.to_ascii_lowercase.ensures.value c.loop-byte.invariant c.in_ok-push.ensures.items

pub returns : goal.returns
returns c = c.loop-byte.invariant ∙ ap (λ xs. c.args.name.now.items ++ lower xs) (take_all c.loop-byte.byte-index c.args.text.now c.loop-byte-test.false)
