use Rattle.std.proofs.Common.{inl, inr, refl, sym, ◌∙◌}
use Rattle.std.proofs.lemmas.Bool.{both_ways}
use Rattle.local_names.proofs.free_name.is_taken.Goals as goal

pub returns-then-contains_key : goal.returns-then-contains_key
returns-then-contains_key c =
    (λ found. inr (sym c.contains_key.ensures ∙ c.if-contains_key.true), λ taken. refl)

pub returns : goal.returns
returns c = (
  λ found. inl (c.is_directory.ensures.0 found),
  λ taken. elim taken [
    | inl inside ↦ c.is_directory.ensures.1 inside
    | inr has ↦ absurd (both_ways c.contains_key.result c.if-contains_key.false (c.contains_key.ensures ∙ has))
  ],
)
