-- An index that is made of entries in falling order, the last one first.
use Rattle.std.proofs.Common.{◌≡◌, ◌≢◌, ◌∙◌, ◌+◌, ◌≤◌, ◌-◌, ◌&&◌, ℕ, suc, Bool, true, false, List, [], ◌∷◌, ◌++◌, Option, Some, None, cond, length, get_or, refl, sym, ap, subst, arith, append_assoc}
use Rattle.std.specs.Prelude.{All, MatchBool, bytes_eq}
use Rattle.std.specs.Cmp.Lexicographic.{slice_cmp, nat_list_cmp_total}
use Rattle.std.specs.Ordering.{is_lt, nat_cmp, ordering_reverse}
use Rattle.std.specs.List.Sorted.{IsPermutation}
use Rattle.std.specs.declared.cmp.Ordering.{Ordering}
use Rattle.std.specs.declared.cmp.Ordering.TheVariants.{Less, Equal, Greater}
use Rattle.std.proofs.lemmas.Bool.{false≢true}
use Rattle.std.proofs.lemmas.List.{append-nil, length-append}
use Rattle.std.proofs.lemmas.List.Elements.{All-cons, All-head, All-nil, All-tail}
use Rattle.std.proofs.lemmas.List.Sorted.{All-permutation, length_permutation}
use Rattle.std.proofs.lemmas.Map.Lookups.{exact_bytes}
use Rattle.address.specs.Address.{AddressText}
use Rattle.address.specs.AddressOrder.{IsBefore}
use Rattle.address.proofs.AddressOrderLaws.{not_before_itself}
use Rattle.local_names.proofs.OrderLaws.{before_trans}
use Rattle.mirror_index.specs.Entries.{Entry, IsEntry}
use Rattle.mirror_index.specs.Indexes.{Follows, IsIndex}
use Rattle.mirror_index.specs.declared.index.TheConstants.{MAX_ENTRIES}
use Rattle.mirror_index.proofs.IndexLaws.{one_more}
use Rattle.mirror_upkeep.specs.Latest.{ArePages, IsIndexOf, IsWholeIndexOf, if_of, later_or, latest}
use Rattle.mirror_upkeep.specs.inner.Taking.{IsFalling, IsTaken, LastIs, Taking}
use Rattle.mirror_upkeep.proofs.LatestLaws.{eq_itself, eq_same, if_of-own, later_or-none, latest-append, latest-end, latest-is}

-- ---- falling order

behind : (o r : Ordering) → r ≡ ordering_reverse o → is_lt r ≡ false → (o ≡ Equal → ⊥) → is_lt o ≡ true
behind Less r e h ne = refl
behind Equal r e h ne = absurd (ne refl)
behind Greater r e h ne = absurd (false≢true (sym h ∙ ap is_lt e))

-- of two different texts one is before the other
pub before_other : (u v : List ℕ) → is_lt (slice_cmp nat_cmp v u) ≡ false → u ≢ v → IsBefore u v
before_other u v e other =
    behind (slice_cmp nat_cmp u v) (slice_cmp nat_cmp v u) (nat_list_cmp_total.antisymm v u) e (λ same. other (exact_bytes u v same))

falling-rest : (e : Entry) (es : List Entry) → IsFalling (e ∷ es) → IsFalling es
falling-rest e es falling k d low high =
    let next : suc k + 1 ≡ suc (k + 1) = omega arith in
    subst (λ (n : ℕ). is_lt (slice_cmp nat_cmp (get_or es k d).address (get_or (e ∷ es) n d).address) ≡ false) next (falling (suc k) d (omega arith) (omega arith))

pub falling-after : (xs ys : List Entry) → IsFalling (xs ++ ys) → IsFalling ys
falling-after [] ys falling = falling
falling-after (x ∷ xs) ys falling = falling-after xs ys (falling-rest x (xs ++ ys) falling)

-- an address that isn't the one before is before all later ones
pub all_before : (e : Entry) (es : List Entry) → IsFalling (e ∷ es) → ((d : Entry) (ds : List Entry) → es ≡ d ∷ ds → d.address ≢ e.address) → All (λ d. IsBefore d.address e.address) es
all_before e [] falling other = All-nil (λ d. IsBefore d.address e.address)
all_before e (d ∷ ds) falling other =
    let first : IsBefore d.address e.address = before_other d.address e.address (falling 0 d (omega arith) (omega arith)) (other d ds refl) in
    All-cons (λ x. IsBefore x.address e.address) d ds first (below ds d first (falling-rest e (d ∷ ds) falling))
  where
    below : (xs : List Entry) (x : Entry) → IsBefore x.address e.address → IsFalling (x ∷ xs) → All (λ d. IsBefore d.address e.address) xs
    below [] x before falls = All-nil (λ d. IsBefore d.address e.address)
    below (y ∷ ys) x before falls =
        let next : is_lt (slice_cmp nat_cmp x.address y.address) ≡ false = falls 0 y (omega arith) (omega arith) in
        let this : IsBefore y.address e.address = go (bytes_eq y.address x.address) refl next in
        All-cons (λ d. IsBefore d.address e.address) y ys this (below ys y this (falling-rest x (y ∷ ys) falls))
      where
        go : (b : Bool) → bytes_eq y.address x.address ≡ b → is_lt (slice_cmp nat_cmp x.address y.address) ≡ false → IsBefore y.address e.address
        go true same next = subst (λ (u : List ℕ). IsBefore u e.address) (sym (eq_same y.address x.address same)) before
        go false differs next =
            before_trans y.address x.address e.address (before_other y.address x.address next (λ same. let is : bytes_eq y.address x.address ≡ true = subst (λ (u : List ℕ). bytes_eq y.address u ≡ true) same (eq_itself y.address) in cc)) before

none_of : (e : Entry) (es : List Entry) → All (λ d. IsBefore d.address e.address) es → (o : Option Entry) → latest es e.address ≡ o → o ≡ None
none_of e es all None is = refl
none_of e es all (Some d) is =
    let found = latest-is (λ x. IsBefore x.address e.address) es e.address d all is in
    absurd (not_before_itself e.address (subst (λ (u : List ℕ). IsBefore u e.address) found.1 found.0))

-- ---- what was taken

no_entries : IsIndex []
no_entries = record { each = λ k d within. absurd (omega arith); order = λ k d within. absurd (omega arith); few = omega arith }

pub none_taken : IsTaken [] [] true
none_taken = record {
  good = no_entries;
  count = omega arith;
  among = λ at e is. cc;
  all = λ at e few is entry. cc;
  whole = λ yes at. refl;
  fit = λ written. refl;
}

written-rest : (e : Entry) (es : List Entry) → ArePages (e ∷ es) → ArePages es
written-rest e es written = let few = written.few in record { each = All-tail IsEntry e es written.each; few = omega arith }

-- one more of the address before
pub passed : (d e : Entry) (ds index : List Entry) (whole : Bool) → d.address ≡ e.address → IsTaken (d ∷ ds) index whole → IsTaken (e ∷ (d ∷ ds)) index whole
passed d e ds index whole same taken =
    let done = d ∷ ds in
    let is : (at : AddressText) → latest (e ∷ done) at ≡ latest done at = λ at. go at (bytes_eq e.address at) refl in
    record {
      good = taken.good;
      count = let few = taken.count in omega arith;
      among = λ at x found. is at ∙ taken.among at x found;
      all = λ at x few found entry. taken.all at x (omega arith) (sym (is at) ∙ found) entry;
      whole = λ yes at. taken.whole yes at ∙ sym (is at);
      fit = λ written. taken.fit (written-rest e done written);
    }
  where
    has : (o : Option Entry) → later_or (later_or o (Some d)) (Some e) ≡ later_or o (Some d)
    has None = refl
    has (Some x) = refl

    go : (at : AddressText) (b : Bool) → bytes_eq e.address at ≡ b → later_or (latest (d ∷ ds) at) (if_of at e) ≡ latest (d ∷ ds) at
    go at true eq =
        let own : e.address ≡ at = eq_same e.address at eq in
        ap (λ (o : Option Entry). later_or (later_or (latest ds at) o) (if_of at e)) (if_of-own d at (same ∙ own))
        ∙ ap (λ (o : Option Entry). later_or (later_or (latest ds at) (Some d)) o) (if_of-own e at own)
        ∙ has (latest ds at)
        ∙ sym (ap (later_or (latest ds at)) (if_of-own d at (same ∙ own)))
    go at false eq =
        ap (λ (b : Bool). later_or (latest (d ∷ ds) at) (cond b (Some e) None)) eq ∙ later_or-none (latest (d ∷ ds) at)

-- an entry whose address is after all of these
at_each : (e : Entry) (es : List Entry) → latest es e.address ≡ None → (at : AddressText) (b : Bool) → bytes_eq e.address at ≡ b → later_or (latest es at) (cond b (Some e) None) ≡ cond b (Some e) (latest es at)
at_each e es none at true eq = ap (λ (o : Option Entry). later_or o (Some e)) (subst (λ (u : List ℕ). latest es u ≡ None) (eq_same e.address at eq) none)
at_each e es none at false eq = later_or-none (latest es at)

at_push : (e : Entry) (es : List Entry) (at : AddressText) (b : Bool) → later_or (cond b (Some e) None) (latest es at) ≡ cond b (Some e) (latest es at)
at_push e es at true = refl
at_push e es at false = refl

pub now_latest : (e : Entry) (done : List Entry) → latest done e.address ≡ None → (at : AddressText) → latest (e ∷ done) at ≡ cond (bytes_eq e.address at) (Some e) (latest done at)
now_latest e done none at = at_each e done none at (bytes_eq e.address at) refl

pub pushed_latest : (e : Entry) (index : List Entry) (at : AddressText) → latest (index ++ e ∷ []) at ≡ cond (bytes_eq e.address at) (Some e) (latest index at)
pushed_latest e index at = latest-append index (e ∷ []) at ∙ at_push e index at (bytes_eq e.address at)

none_in : (done index : List Entry) (at : AddressText) (o : Option Entry) → ((e : Entry) → latest index at ≡ Some e → latest done at ≡ Some e) → latest done at ≡ None → latest index at ≡ o → latest index at ≡ None
none_in done index at None among none is = is
none_in done index at (Some x) among none is = let there : latest done at ≡ Some x = among x is in cc

-- its address is after that of the index's last entry
follows : (e : Entry) (done index : List Entry) (whole : Bool) → All (λ d. IsBefore d.address e.address) done → IsTaken done index whole → Follows index e
follows e done index whole all taken d some =
    let last = latest-end index (length index - 1) d (omega arith) in
    (latest-is (λ x. IsBefore x.address e.address) done (get_or index (length index - 1) d).address (get_or index (length index - 1) d) all (taken.among (get_or index (length index - 1) d).address (get_or index (length index - 1) d) last)).0

pub added : (e : Entry) (done index after : List Entry) (whole b now : Bool) → All (λ d. IsBefore d.address e.address) done → IsTaken done index whole
    → MatchBool b ((after ≡ index ++ e ∷ []) × IsIndex after) ((after ≡ index) × (¬ IsIndex (index ++ e ∷ []))) → now ≡ (whole && b) → IsTaken (e ∷ done) after now
added e done index after whole true now all taken says is =
    let none : latest done e.address ≡ None = none_of e done all (latest done e.address) refl ∙ refl in
    let count = taken.count in
    let more : length (index ++ e ∷ []) ≡ length index + 1 = length-append index (e ∷ []) in
    let new : (at : AddressText) → latest after at ≡ cond (bytes_eq e.address at) (Some e) (latest index at) = λ at. ap (λ (es : List Entry). latest es at) says.0 ∙ pushed_latest e index at in
    let old : (at : AddressText) → latest (e ∷ done) at ≡ cond (bytes_eq e.address at) (Some e) (latest done at) = now_latest e done none in
    record {
      good = says.1;
      count = let long = ap (λ (es : List Entry). length es) says.0 in omega arith;
      among = λ at x found. old at ∙ (go at x (bytes_eq e.address at) (sym (new at) ∙ found));
      all = λ at x few found entry. new at ∙ (back at x few entry (bytes_eq e.address at) (sym (old at) ∙ found));
      whole = λ yes at. new at ∙ ap (λ (o : Option Entry). cond (bytes_eq e.address at) (Some e) o) (taken.whole (was whole (sym is ∙ yes)) at) ∙ sym (old at);
      fit = λ written. is ∙ ap (λ (w : Bool). w && true) (taken.fit (written-rest e done written));
    }
  where
    go : (at : AddressText) (x : Entry) (b : Bool) → cond b (Some e) (latest index at) ≡ Some x → cond b (Some e) (latest done at) ≡ Some x
    go at x true found = found
    go at x false found = taken.among at x found

    back : (at : AddressText) (x : Entry) → length (e ∷ done) ≤ MAX_ENTRIES → IsEntry x → (b : Bool) → cond b (Some e) (latest done at) ≡ Some x → cond b (Some e) (latest index at) ≡ Some x
    back at x few entry true found = found
    back at x few entry false found = taken.all at x (omega arith) found entry

    was : (w : Bool) → (w && true) ≡ true → w ≡ true
    was true e = refl
    was false e = e
added e done index after whole false now all taken says is =
    let none : latest done e.address ≡ None = none_of e done all (latest done e.address) refl ∙ refl in
    let count = taken.count in
    let same : (at : AddressText) → latest after at ≡ latest index at = λ at. ap (λ (es : List Entry). latest es at) says.0 in
    let old : (at : AddressText) → latest (e ∷ done) at ≡ cond (bytes_eq e.address at) (Some e) (latest done at) = now_latest e done none in
    record {
      good = subst IsIndex (sym says.0) taken.good;
      count = let long = ap (λ (es : List Entry). length es) says.0 in omega arith;
      among = λ at x found. let there : latest done at ≡ Some x = taken.among at x (sym (same at) ∙ found) in ap (λ (o : Option Entry). later_or o (if_of at e)) there;
      all = λ at x few found entry. same at ∙ back at x few entry (bytes_eq e.address at) (sym (old at) ∙ found);
      whole = λ yes at. absurd (never whole (sym is ∙ yes));
      fit = λ written. absurd (says.1 (fits (All-head IsEntry e done written.each) written.few));
    }
  where
    never : (w : Bool) → (w && false) ≡ true → ⊥
    never true e = false≢true e
    never false e = false≢true e

    fits : IsEntry e → length (e ∷ done) ≤ MAX_ENTRIES → IsIndex (index ++ e ∷ [])
    fits entry few = let count = taken.count in one_more index e taken.good (omega arith) (follows e done index whole all taken) entry

    back : (at : AddressText) (x : Entry) → length (e ∷ done) ≤ MAX_ENTRIES → IsEntry x → (b : Bool) → cond b (Some e) (latest done at) ≡ Some x → latest index at ≡ Some x
    back at x few entry true found = let this : e ≡ x = cc in absurd (says.1 (fits (subst IsEntry (sym this) entry) few))
    back at x few entry false found = taken.all at x (omega arith) found entry

-- ---- the loop

pub begun : (es left : List Entry) → left ≡ es → Taking es left [] true None
begun es left is = record { done = []; all = sym is ∙ sym (append-nil left); taken = none_taken; latest = refl }

pub passed_on : (es left rest index : List Entry) (whole : Bool) (last : Option AddressText) (e : Entry) → Taking es left index whole last → left ≡ rest ++ e ∷ [] → last ≡ Some e.address → Taking es rest index whole last
passed_on es left rest index whole last e t is same = go t.done t.all t.taken t.latest
  where
    go : (done : List Entry) → es ≡ left ++ done → IsTaken done index whole → LastIs done last → Taking es rest index whole last
    go [] all taken none = cc
    go (d ∷ ds) all taken at =
        let own : d.address ≡ e.address = cc in
        record {
          done = e ∷ (d ∷ ds);
          all = all ∙ ap (λ (l : List Entry). l ++ (d ∷ ds)) is ∙ append_assoc rest (e ∷ []) (d ∷ ds);
          taken = passed d e ds index whole own taken;
          latest = same;
        }

pub gone_on : (es left rest index after : List Entry) (whole b now : Bool) (last : Option AddressText) (e : Entry) → IsFalling es → Taking es left index whole last → left ≡ rest ++ e ∷ [] → (last ≡ Some e.address → ⊥)
    → MatchBool b ((after ≡ index ++ e ∷ []) × IsIndex after) ((after ≡ index) × (¬ IsIndex (index ++ e ∷ []))) → now ≡ (whole && b) → Taking es rest after now (Some e.address)
gone_on es left rest index after whole b now last e falling t is other says new =
    let all : es ≡ rest ++ (e ∷ t.done) = t.all ∙ ap (λ (l : List Entry). l ++ t.done) is ∙ append_assoc rest (e ∷ []) t.done in
    let falls : IsFalling (e ∷ t.done) = falling-after rest (e ∷ t.done) (subst IsFalling all falling) in
    record {
      done = e ∷ t.done;
      all = all;
      taken = added e t.done index after whole b now (all_before e t.done falls (λ d ds done same. other (go d ds t.done done same t.latest))) t.taken says new;
      latest = refl;
    }
  where
    go : (d : Entry) (ds done : List Entry) → done ≡ d ∷ ds → d.address ≡ e.address → LastIs done last → last ≡ Some e.address
    go d ds [] is same at = cc
    go d ds (x ∷ xs) is same at = let this : x ≡ d = cc in cc

all_taken : (es index : List Entry) (whole : Bool) (last : Option AddressText) → Taking es [] index whole last → IsTaken es index whole
all_taken es index whole last t = subst (λ (done : List Entry). IsTaken done index whole) (sym t.all) t.taken

pub made_index : (first es left index : List Entry) (whole : Bool) (last : Option AddressText) → IsPermutation first es → ((at : AddressText) → latest es at ≡ latest first at) → left ≡ [] → Taking es left index whole last → IsIndexOf first index
made_index first es left index whole last moved same none t =
    let taken = all_taken es index whole last (subst (λ (l : List Entry). Taking es l index whole last) none t) in
    record {
      good = taken.good;
      among = λ at e found. sym (same at) ∙ taken.among at e found;
      all = λ at e few found entry. taken.all at e (let long = length_permutation first es moved in omega arith) (same at ∙ found) entry;
    }

pub made_whole : (first es left index : List Entry) (whole : Bool) (last : Option AddressText) → ((at : AddressText) → latest es at ≡ latest first at) → left ≡ [] → Taking es left index whole last → whole ≡ true → IsWholeIndexOf first index
made_whole first es left index whole last same none t is =
    let taken = all_taken es index whole last (subst (λ (l : List Entry). Taking es l index whole last) none t) in
    record { good = taken.good; each = λ at. taken.whole is at ∙ same at }

pub made_all : (first es left index : List Entry) (whole : Bool) (last : Option AddressText) → IsPermutation first es → left ≡ [] → Taking es left index whole last → ArePages first → whole ≡ true
made_all first es left index whole last moved none t written =
    let taken = all_taken es index whole last (subst (λ (l : List Entry). Taking es l index whole last) none t) in
    taken.fit (record { each = All-permutation IsEntry first es moved written.each; few = let long = length_permutation first es moved in let few = written.few in omega arith })
