-- Which of several entries of an address is the last.
use Rattle.std.proofs.Common.{◌≡◌, ◌≢◌, ◌∙◌, ◌&&◌, ℕ, zero, suc, Bool, true, false, not, List, [], ◌∷◌, ◌++◌, Option, Some, None, cond, length, get_or, refl, sym, ap, subst, arith}
use Rattle.std.specs.Prelude.{All, bytes_eq}
use Rattle.std.specs.List.{filter}
use Rattle.std.specs.List.Sorted.{IsStableBy, ties}
use Rattle.std.specs.Cmp.Lexicographic.{slice_cmp}
use Rattle.std.specs.Ordering.{is_lt, nat_cmp}
use Rattle.std.proofs.lemmas.List.Elements.{All-head, All-tail}
use Rattle.std.proofs.lemmas.Slice.Eq.{bytes_eq-Decides}
use Rattle.address.specs.Address.{AddressText}
use Rattle.address.proofs.AddressOrderLaws.{not_before_itself}
use Rattle.mirror_index.specs.Entries.{Entry}
use Rattle.mirror_index.specs.declared.entry.Mark.TheVariants.{Changed}
use Rattle.mirror_upkeep.specs.Latest.{if_of, later_or, latest}

pub later_or-none : (o : Option Entry) → later_or o None ≡ o
later_or-none None = refl
later_or-none (Some e) = refl

later_or-assoc : (a b c : Option Entry) → later_or (later_or a b) c ≡ later_or a (later_or b c)
later_or-assoc None b c = refl
later_or-assoc (Some e) b c = refl

pub latest-append : (xs ys : List Entry) (at : AddressText) → latest (xs ++ ys) at ≡ later_or (latest ys at) (latest xs at)
latest-append [] ys at = sym (later_or-none (latest ys at))
latest-append (x ∷ xs) ys at =
    ap (λ (o : Option Entry). later_or o (if_of at x)) (latest-append xs ys at) ∙ later_or-assoc (latest ys at) (latest xs at) (if_of at x)

pub not_true : (b : Bool) → (b ≡ true → ⊥) → b ≡ false
not_true true never = absurd (never refl)
not_true false never = refl

pub eq_itself : (u : List ℕ) → bytes_eq u u ≡ true
eq_itself u = (bytes_eq-Decides u u).1 refl

pub eq_same : (u v : List ℕ) → bytes_eq u v ≡ true → u ≡ v
eq_same u v e = (bytes_eq-Decides u v).0 e

pub eq_other : (u v : List ℕ) → u ≢ v → bytes_eq u v ≡ false
eq_other u v other = not_true (bytes_eq u v) (λ e. other (eq_same u v e))

pub if_of-own : (e : Entry) (at : AddressText) → e.address ≡ at → if_of at e ≡ Some e
if_of-own e at is = ap (λ (b : Bool). cond b (Some e) None) ((bytes_eq-Decides e.address at).1 is)

pub if_of-other : (e : Entry) (at : AddressText) → e.address ≢ at → if_of at e ≡ None
if_of-other e at other = ap (λ (b : Bool). cond b (Some e) None) (eq_other e.address at other)

-- a filter that keeps all of an address keeps its last
pub latest-filter : (p : Entry → Bool) (at : AddressText) → ((e : Entry) → e.address ≡ at → p e ≡ true) → (xs : List Entry) → latest (filter p xs) at ≡ latest xs at
latest-filter p at keeps [] = refl
latest-filter p at keeps (x ∷ xs) = go (p x) refl (latest-filter p at keeps xs)
  where
    go : (b : Bool) → p x ≡ b → latest (filter p xs) at ≡ latest xs at → latest (cond b (x ∷ filter p xs) (filter p xs)) at ≡ later_or (latest xs at) (if_of at x)
    go true e rest = ap (λ (o : Option Entry). later_or o (if_of at x)) rest
    go false e rest =
        let other : x.address ≢ at = λ same. (let kept : p x ≡ true = keeps x same in cc) in
        rest ∙ sym (ap (later_or (latest xs at)) (if_of-other x at other) ∙ later_or-none (latest xs at))

-- falling order, and a sort by it that keeps the order of entries of one address
abbrev pub falls : Entry → Entry → Bool
falls x y = is_lt (slice_cmp nat_cmp y.address x.address)

pub latest-stable : (xs ys : List Entry) → IsStableBy falls xs ys → (at : AddressText) → latest ys at ≡ latest xs at
latest-stable xs ys stable at =
    let one : Entry = record { address = at; name = []; size = 0; mark = Changed 0; head = record { status = 0; content_type = None; etag = None; last_modified = None } } in
    let none : (u v : List ℕ) → u ≡ at → v ≡ at → is_lt (slice_cmp nat_cmp u v) ≡ false =
    λ u v first second. not_true (is_lt (slice_cmp nat_cmp u v)) (λ e. not_before_itself at (subst (λ (w : List ℕ). is_lt (slice_cmp nat_cmp w at) ≡ true) first (subst (λ (w : List ℕ). is_lt (slice_cmp nat_cmp u w) ≡ true) second e))) in
    let keeps : (e : Entry) → e.address ≡ at → ties falls one e ≡ true =
    λ e same. ap (λ (b : Bool). not b && not (falls e one)) (none e.address at same refl) ∙ ap (λ (b : Bool). not b) (none at e.address refl same) in
    sym (latest-filter (ties falls one) at keeps ys) ∙ ap (λ (zs : List Entry). latest zs at) (stable one) ∙ latest-filter (ties falls one) at keeps xs

-- what the last of an address is
pub latest-is : (P : Entry → Type 0) (es : List Entry) (at : AddressText) (e : Entry) → All P es → latest es at ≡ Some e → P e × (e.address ≡ at)
latest-is P [] at e all is = cc
latest-is P (x ∷ es) at e all is = go (latest es at) refl (bytes_eq x.address at) refl is (λ found. latest-is P es at e (All-tail P x es all) found)
  where
    go : (o : Option Entry) → latest es at ≡ o → (b : Bool) → bytes_eq x.address at ≡ b → later_or o (cond b (Some x) None) ≡ Some e → (latest es at ≡ Some e → P e × (e.address ≡ at)) → P e × (e.address ≡ at)
    go (Some y) found b eq same later = later (found ∙ same)
    go None found true eq same later = let this : x ≡ e = cc in (subst P this (All-head P x es all), sym (ap (λ (z : Entry). z.address) this) ∙ eq_same x.address at eq)
    go None found false eq same later = cc

-- the one at the end is the last of its address
pub latest-end : (es : List Entry) (k : ℕ) (d : Entry) → suc k ≡ length es → latest es (get_or es k d).address ≡ Some (get_or es k d)
latest-end [] k d at = absurd (omega arith)
latest-end (x ∷ []) zero d at = if_of-own x x.address refl
latest-end (x ∷ []) (suc k) d at = absurd (omega arith)
latest-end (x ∷ (y ∷ es)) zero d at = absurd (omega arith)
latest-end (x ∷ (y ∷ es)) (suc k) d at =
    let z : Entry = get_or (y ∷ es) k d in
    ap (λ (o : Option Entry). later_or o (if_of z.address x)) (latest-end (y ∷ es) k d (omega arith))

pub none_left : (es : List Entry) → length es ≡ 0 → es ≡ []
none_left [] at = refl
none_left (e ∷ es) at = absurd (omega arith)

pub nothing_left : {X : Type 0} (xs : List X) → length xs ≡ 0 → xs ≡ []
nothing_left [] at = refl
nothing_left (x ∷ xs) at = absurd (omega arith)
