-- What one more loss makes of a list of losses.
use Rattle.std.proofs.Common.{◌≡◌, ◌<◌, ◌≤◌, ◌+◌, ◌-◌, ◌^◌, ℕ, min, zero, suc, Bool, true, false, not, List, [], ◌∷◌, ◌++◌, set, length, cond, nat_lt, Some, None, refl, ap, ◌∙◌, arith}
use Rattle.std.proofs.lemmas.Bool.Decides.{nat_tests}
use Rattle.std.specs.Prelude.{find, slice_index_or, position}
use Rattle.std.specs.List.{position_or_len}
use Rattle.address.specs.Address.{AddressText}
use Rattle.run_failures.specs.Losses.{LosesOne, is_kind, is_loss_of, lost, one_more, raised}
use Rattle.run_failures.specs.declared.loss_kind.LossKind.{LossKind}
use Rattle.run_failures.specs.declared.losses.Loss.{Loss}

-- the losses with one more of a kind: that of the kind raised, or a new one at the end
abbrev pub added : List Loss → LossKind → AddressText → List Loss
added [] kind at = one_more None kind at ∷ []
added (loss ∷ losses) kind at = cond (is_loss_of kind loss) (raised loss ∷ losses) (loss ∷ added losses kind at)

-- one loss in front of others, by whether it is of the kind, of the asked one, and whether these are one
front : (loss : Loss) (losses more : List Loss) (kind asked : LossKind) (at : AddressText) (b c d : Bool)
    → is_loss_of kind loss ≡ b → is_loss_of asked loss ≡ c → is_kind kind asked ≡ d
    → find (is_loss_of asked) more ≡ cond d (Some (one_more (find (is_loss_of asked) losses) kind at)) (find (is_loss_of asked) losses)
    → find (is_loss_of asked) (cond b (raised loss ∷ losses) (loss ∷ more)) ≡ cond d (Some (one_more (cond c (Some loss) (find (is_loss_of asked) losses)) kind at)) (cond c (Some loss) (find (is_loss_of asked) losses))
front loss losses more kind asked at true true true is_b is_c is_d rest = ap (λ z. cond z (Some (raised loss)) (find (is_loss_of asked) losses)) is_c
front loss losses more kind asked at true true false is_b is_c is_d rest = absurd (grind (arith, nat_tests))
front loss losses more kind asked at true false true is_b is_c is_d rest = absurd (grind (arith, nat_tests))
front loss losses more kind asked at true false false is_b is_c is_d rest = ap (λ z. cond z (Some (raised loss)) (find (is_loss_of asked) losses)) is_c
front loss losses more kind asked at false true true is_b is_c is_d rest = absurd (grind (arith, nat_tests))
front loss losses more kind asked at false true false is_b is_c is_d rest = ap (λ z. cond z (Some loss) (find (is_loss_of asked) more)) is_c
front loss losses more kind asked at false false true is_b is_c is_d rest = ap (λ z. cond z (Some loss) (find (is_loss_of asked) more)) is_c ∙ rest
front loss losses more kind asked at false false false is_b is_c is_d rest = ap (λ z. cond z (Some loss) (find (is_loss_of asked) more)) is_c ∙ rest

-- what is found of each kind then
pub added_one : (losses : List Loss) (kind : LossKind) (at : AddressText) → LosesOne losses (added losses kind at) kind at
added_one [] kind at asked = refl
added_one (loss ∷ losses) kind at asked =
    front loss losses (added losses kind at) kind asked at (is_loss_of kind loss) (is_loss_of asked loss) (is_kind kind asked) refl refl refl (added_one losses kind at asked)

-- at the place of the first of the kind, it is raised
pub set_added : (losses : List Loss) (kind : LossKind) (at : AddressText) (default : Loss) → position_or_len (is_loss_of kind) losses < length losses
    → set losses (position_or_len (is_loss_of kind) losses) (raised (slice_index_or losses (position_or_len (is_loss_of kind) losses) default)) ≡ added losses kind at
set_added [] kind at default within = absurd (omega (arith, within))
set_added (loss ∷ losses) kind at default within = go (is_loss_of kind loss) refl (λ low. set_added losses kind at default low)
  where
    go : (b : Bool) → is_loss_of kind loss ≡ b
        → (position_or_len (is_loss_of kind) losses < length losses → set losses (position_or_len (is_loss_of kind) losses) (raised (slice_index_or losses (position_or_len (is_loss_of kind) losses) default)) ≡ added losses kind at)
        → set (loss ∷ losses) (cond (not b) (1 + position_or_len (is_loss_of kind) losses) 0) (raised (slice_index_or (loss ∷ losses) (cond (not b) (1 + position_or_len (is_loss_of kind) losses) 0) default))
        ≡ cond b (raised loss ∷ losses) (loss ∷ added losses kind at)
    go true is rest = refl
    go false is rest =
        let next : position_or_len (is_loss_of kind) (loss ∷ losses) ≡ 1 + position_or_len (is_loss_of kind) losses = ap (λ b. cond (not b) (1 + position_or_len (is_loss_of kind) losses) 0) is in
        let step : 1 + position_or_len (is_loss_of kind) losses ≡ suc (position_or_len (is_loss_of kind) losses) = omega arith in
        ap (λ m. set (loss ∷ losses) m (raised (slice_index_or (loss ∷ losses) m default))) step
        ∙ ap (λ z. loss ∷ z) (rest (omega (arith, next, within)))

-- if none is of the kind, a new one is at the end
pub last_added : (losses : List Loss) (kind : LossKind) (at : AddressText) → length losses ≤ position_or_len (is_loss_of kind) losses
    → losses ++ one_more None kind at ∷ [] ≡ added losses kind at
last_added [] kind at past = refl
last_added (loss ∷ losses) kind at past = go (is_loss_of kind loss) refl (λ high. last_added losses kind at high)
  where
    go : (b : Bool) → is_loss_of kind loss ≡ b
        → (length losses ≤ position_or_len (is_loss_of kind) losses → losses ++ one_more None kind at ∷ [] ≡ added losses kind at)
        → (loss ∷ losses) ++ one_more None kind at ∷ [] ≡ cond b (raised loss ∷ losses) (loss ∷ added losses kind at)
    go true is rest =
        let here : position_or_len (is_loss_of kind) (loss ∷ losses) ≡ 0 = ap (λ b. cond (not b) (1 + position_or_len (is_loss_of kind) losses) 0) is in
        absurd (omega (arith, here, past))
    go false is rest =
        let next : position_or_len (is_loss_of kind) (loss ∷ losses) ≡ 1 + position_or_len (is_loss_of kind) losses = ap (λ b. cond (not b) (1 + position_or_len (is_loss_of kind) losses) 0) is in
        ap (λ z. loss ∷ z) (rest (omega (arith, next, past)))

-- the place of the first of a kind
found_at : (losses : List Loss) (kind : LossKind) (place : ℕ) → Some place ≡ position (is_loss_of kind) losses → (place ≡ position_or_len (is_loss_of kind) losses) × (place < length losses)
found_at losses kind place is = go (nat_lt (position_or_len (is_loss_of kind) losses) (length losses)) refl is
  where
    go : (b : Bool) → nat_lt (position_or_len (is_loss_of kind) losses) (length losses) ≡ b → Some place ≡ cond b (Some (position_or_len (is_loss_of kind) losses)) None
        → (place ≡ position_or_len (is_loss_of kind) losses) × (place < length losses)
    go true within there =
        let same : place ≡ position_or_len (is_loss_of kind) losses = cc in
        let low : position_or_len (is_loss_of kind) losses < length losses = grind (arith, nat_tests) in
        (same, omega (arith, same, low))
    go false past there = cc

-- a loss of the list is the same whatever is in place of those that aren't there
same_at : (losses : List Loss) (place : ℕ) (default asked : Loss) → place < length losses → slice_index_or losses place default ≡ slice_index_or losses place asked
same_at [] place default asked within = absurd (omega (arith, within))
same_at (loss ∷ losses) zero default asked within = refl
same_at (loss ∷ losses) (suc place) default asked within = same_at losses place default asked (omega (arith, within))

-- what is found once the loss at the place of its kind is raised
placed : (losses : List Loss) (kind : LossKind) (at : AddressText) (place : ℕ) (default : Loss) → Some place ≡ position (is_loss_of kind) losses
    → LosesOne losses (set losses place (raised (slice_index_or losses place default))) kind at
placed losses kind at place default is asked =
    let there = found_at losses kind place is in
    let low : position_or_len (is_loss_of kind) losses < length losses = omega (arith, there.0, there.1) in
    ap (λ n. lost (set losses n (raised (slice_index_or losses n default))) asked) there.0
    ∙ ap (λ z. lost z asked) (set_added losses kind at default low)
    ∙ added_one losses kind at asked

-- a loss with another count
abbrev pub raised_to : Loss → ℕ → Loss
raised_to loss count = record { kind = loss.kind; count = count; first = loss.first }

-- the same if the loss was looked at twice
pub raised_by : (losses : List Loss) (kind : LossKind) (at : AddressText) (place : ℕ) (read written d e : Loss) (count : ℕ) → Some place ≡ position (is_loss_of kind) losses
    → read ≡ slice_index_or losses place d → written ≡ slice_index_or losses place e → count ≡ min (read.count + 1) (2 ^ 64 - 1)
    → LosesOne losses (set losses place (raised_to written count)) kind at
raised_by losses kind at place read written d e count is read_is written_is count_is asked =
    let there = found_at losses kind place is in
    let number : count ≡ min ((slice_index_or losses place e).count + 1) (2 ^ 64 - 1) =
    count_is ∙ ap (λ (z : Loss). min (z.count + 1) (2 ^ 64 - 1)) (read_is ∙ same_at losses place d e there.1) in
    let made : raised_to written count ≡ raised (slice_index_or losses place e) =
    ap (λ (n : ℕ). raised_to written n) number
    ∙ ap (λ (z : Loss). raised_to z (min ((slice_index_or losses place e).count + 1) (2 ^ 64 - 1))) written_is in
    ap (λ z. lost (set losses place z) asked) made ∙ placed losses kind at place e is asked

-- what is found once a loss is at the end, if none was of its kind
pub unplaced : (losses : List Loss) (kind : LossKind) (at : AddressText) → None ≡ position (is_loss_of kind) losses
    → LosesOne losses (losses ++ one_more None kind at ∷ []) kind at
unplaced losses kind at is asked = go (nat_lt (position_or_len (is_loss_of kind) losses) (length losses)) refl is
  where
    go : (b : Bool) → nat_lt (position_or_len (is_loss_of kind) losses) (length losses) ≡ b → None ≡ cond b (Some (position_or_len (is_loss_of kind) losses)) None
        → lost (losses ++ one_more None kind at ∷ []) asked ≡ cond (is_kind kind asked) (Some (one_more (lost losses asked) kind at)) (lost losses asked)
    go true within none = cc
    go false past none =
        let high : length losses ≤ position_or_len (is_loss_of kind) losses = grind (arith, nat_tests) in
        ap (λ z. lost z asked) (last_added losses kind at high) ∙ added_one losses kind at asked
