-- Where redirects end, a step at a time.
use Rattle.std.proofs.Common.{◌≡◌, ◌∙◌, ℕ, List, Some, None, suc, ap}
use Rattle.std.specs.Option.{option_map_or}
use Rattle.moved_starts.specs.Moves.{Recorded, end_of, next_in}

pub end_of-next : (records : List Recorded) (left k : ℕ) (at target : List ℕ) → left ≡ suc k → next_in records at ≡ Some target → end_of records left at ≡ end_of records k target
end_of-next records left k at target more next =
    ap (λ n. end_of records n at) more ∙ ap (λ found. option_map_or (λ t. end_of records k t) found at) next

pub end_of-last : (records : List Recorded) (left k : ℕ) (at : List ℕ) → left ≡ suc k → next_in records at ≡ None → end_of records left at ≡ at
end_of-last records left k at more next = ap (λ n. end_of records n at) more ∙ ap (λ found. option_map_or (λ t. end_of records k t) found at) next

pub end_of-none : (records : List Recorded) (left : ℕ) (at : List ℕ) → left ≡ 0 → end_of records left at ≡ at
end_of-none records left at none = ap (λ n. end_of records n at) none
