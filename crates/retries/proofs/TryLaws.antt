-- A fetcher that tries again asks as often as it received something, and its tries can be added to.
use Rattle.std.proofs.Common.{◌≡◌, ◌∙◌, ◌+◌, ◌≤◌, ℕ, Bool, true, false, inl, inr, List, [], ◌∷◌, ◌++◌, length, length-append, Option, arith, ap, refl}
use Rattle.std.specs.Prelude.{IfOk, Result, Ok, Err}
use Rattle.run_failures.specs.declared.loss_kind.LossKind.{LossKind}
use Rattle.fetcher.specs.declared.fetcher.Ask.{Ask}
use Rattle.retries.specs.Tries.{AreTries, IsLastOf, IsTry, TriesSoFar}

-- what follows for a value from one or two things that hold of it
pub if_ok_map : {X E : Type 0} (r : Result X E) (P Q : X → Type 0) → IfOk r P → ((x : X) → P x → Q x) → IfOk r Q
if_ok_map (Ok x) P Q p follows = follows x p
if_ok_map (Err e) P Q p follows = tt

pub if_ok_both : {X E : Type 0} (r : Result X E) (P Q R : X → Type 0) → IfOk r P → IfOk r Q → ((x : X) → P x → Q x → R x) → IfOk r R
if_ok_both (Ok x) P Q R p q follows = follows x p q
if_ok_both (Err e) P Q R p q follows = tt

module _ {F X : Type 0} (log : F → List Ask) (lost : F → Option LossKind) (Says : F → X → Type 0) (worth : X → Option LossKind → Bool) (ask : Ask) where
  -- one more try, after what was worth it
  pub one_more : (old : F) (earlier : List (X × F)) (mid new : F) (told more : X) → AreTries log lost Says worth ask old earlier mid told → worth told (lost mid) ≡ true → IsTry log lost Says worth ask mid new more
      → AreTries log lost Says worth ask old (earlier ++ (told, mid) ∷ []) new more
  one_more old [] mid new told more tries is_worth next = (tries, is_worth, next)
  one_more old (e ∷ es) mid new told more tries is_worth next = (tries.0, tries.1, one_more e.1 es mid new told more tries.2 is_worth next)

  -- the log gained the ask once for each try
  pub logged : (old : F) (earlier : List (X × F)) (new : F) (told : X) → AreTries log lost Says worth ask old earlier new told → length (log new) ≡ length (log old) + length earlier + 1
  logged old [] new told tries = omega (arith, ap length tries.0, length-append (log old) (ask ∷ []))
  logged old (e ∷ es) new told tries = omega (arith, logged e.1 es new told tries.2, ap length tries.0.0, length-append (log old) (ask ∷ []))

  -- a first try, one more, and the last
  pub first : (old new : F) (told : X) → IsTry log lost Says worth ask old new told → TriesSoFar log lost Says worth ask 0 old new told
  first old new told try = ([], try, refl)

  pub goes_on : (made : ℕ) (old mid new : F) (told more : X) → TriesSoFar log lost Says worth ask made old mid told → worth told (lost mid) ≡ true → IsTry log lost Says worth ask mid new more → TriesSoFar log lost Says worth ask (made + 1) old new more
  goes_on made old mid new told more tries is_worth next =
      (tries.0 ++ (told, mid) ∷ [], one_more old tries.0 mid new told more tries.1 is_worth next, omega (arith, tries.2, length-append tries.0 ((told, mid) ∷ [])))

  pub stops : (made most : ℕ) (old new : F) (told : X) → TriesSoFar log lost Says worth ask made old new told → worth told (lost new) ≡ false → made ≤ most → IsLastOf log lost Says worth ask most old new told
  stops made most old new told tries is_worthless within = (tries.0, tries.1, omega (arith, tries.2, within), inl is_worthless)

  pub ends : (made most : ℕ) (old new : F) (told : X) → TriesSoFar log lost Says worth ask made old new told → made ≡ most → IsLastOf log lost Says worth ask most old new told
  ends made most old new told tries all = (tries.0, tries.1, omega (arith, tries.2, all), inr (tries.2 ∙ all))
