-- Files of a site that are put one after another.
use Rattle.std.proofs.Common.{◌≡◌, ◌≢◌, ◌⊎◌, ℕ, ◌+◌, ◌≤◌, ◌<◌, ◌-◌, ◌^◌, max, min, cond, true, false, List, [], ◌∷◌, length, get_or, take, Contains, Option, Some, None, Result, Ok, Err, OnOk, OnErr, inl, inr, refl, sym, ap, ◌∙◌, subst, arith}
use Rattle.std.proofs.lemmas.Bool.{cases_lt, cond-true, cond-false, false_from_ne_true, false≢true}
use Rattle.std.proofs.lemmas.List.{take_more}
use Rattle.std.proofs.lemmas.List.Elements.{Contains-append_left, Contains-push}
use Rattle.std.proofs.lemmas.Slice.Eq.{bytes_eq-Decides}
use Rattle.std.specs.Result.{is_err}
use Rattle.std.specs.Str.{bytes_eq}
use Rattle.local_names.specs.Names.{AreDistinct}
use Rattle.local_tree.specs.Folders.{Files, Puts, KeepsOthers, CountsRefusedPut, HasMoreRefused, one_more_refused}
use Rattle.local_tree.specs.SiteFiles.{AreWritten, OfFiles}

-- what the result of a put says
pub made : {A E : Type 0} (r : Result A E) (P : Type 0) → is_err r ≡ false → OnOk r P → P
made (Ok a) P is held = held
made (Err e) P is held = absurd (false≢true (sym is))

pub failed : {A E : Type 0} (r : Result A E) (P : Type 0) → is_err r ≡ true → OnErr r P → P
failed (Ok a) P is held = absurd (false≢true is)
failed (Err e) P is held = held

pub same_count : {A E : Type 0} (r : Result A E) (old new : ℕ) → is_err r ≡ false → CountsRefusedPut old new r → new ≡ old
same_count (Ok a) old new is counts = counts
same_count (Err e) old new is counts = absurd (false≢true (sym is))

pub one_more : {A E : Type 0} (r : Result A E) (old new : ℕ) → is_err r ≡ true → CountsRefusedPut old new r → new ≡ one_more_refused old
one_more (Ok a) old new is counts = absurd (false≢true is)
one_more (Err e) old new is counts = counts

pub none_written : (names bodies : List (List ℕ)) (files : Option Files) → OfFiles files files (AreWritten 0 0 names bodies)
none_written names bodies None = tt
none_written names bodies (Some files) = record { files = λ i below. absurd (omega arith); others = λ name none. refl }

-- a name at a place that is taken in
pub taken_in : (names : List (List ℕ)) (k : ℕ) → k < length names → Contains (take (k + 1) names) (get_or names k [])
taken_in names k below = subst (λ xs. Contains xs (get_or names k [])) (sym (take_more names k [] below)) (Contains-push (take k names) (get_or names k []))

pub still_in : (names : List (List ℕ)) (k : ℕ) (name : List ℕ) → k < length names → Contains (take k names) name → Contains (take (k + 1) names) name
still_in names k name below held = subst (λ xs. Contains xs name) (sym (take_more names k [] below)) (Contains-append_left (take k names) (get_or names k [] ∷ []) name held)

more_written : (names bodies : List (List ℕ)) (k : ℕ) (name body : List ℕ) (old mid new : Files) → AreDistinct names → k < length names → name ≡ get_or names k [] → body ≡ get_or bodies k [] → AreWritten k k names bodies old mid → ((other : List ℕ) → new other ≡ cond (bytes_eq name other) (Some body) (mid other)) → AreWritten (k + 1) (k + 1) names bodies old new
more_written names bodies k name body old mid new apart below is holds so put =
    let differs : (other : List ℕ) → other ≢ name → new other ≡ mid other = λ other other_is. put other ∙ cond-false (bytes_eq name other) (Some body) (mid other) (false_from_ne_true (bytes_eq name other) (λ e. other_is (sym ((bytes_eq-Decides name other).0 e)))) in
    record {
      files = λ i less. elim (cases_lt i k) [
        | inl early ↦ differs (get_or names i []) (λ same. apart i k early below (same ∙ is)) ∙ so.files i early
        | inr late ↦ (
            let at : i ≡ k = omega arith in
            let own : get_or names i [] ≡ name = ap (λ j. get_or names j []) at ∙ sym is in
            ap new own ∙ put name ∙ cond-true (bytes_eq name name) (Some body) (mid name) ((bytes_eq-Decides name name).1 refl) ∙ ap Some holds ∙ ap (λ j. Some (get_or bodies j [])) (sym at))
      ];
      others = λ other none. differs other (λ same. none (subst (Contains (take (k + 1) names)) (sym (same ∙ is)) (taken_in names k below))) ∙ so.others other (λ held. none (still_in names k other below held));
    }

pub put_written : (names bodies : List (List ℕ)) (k : ℕ) (name body : List ℕ) (old mid new : Option Files) → AreDistinct names → k < length names → name ≡ get_or names k [] → body ≡ get_or bodies k [] → OfFiles old mid (AreWritten k k names bodies) → Puts mid new name body → OfFiles old new (AreWritten (k + 1) (k + 1) names bodies)
put_written names bodies k name body None None None apart below is holds so put = tt
put_written names bodies k name body (Some old) (Some mid) (Some new) apart below is holds so put = more_written names bodies k name body old mid new apart below is holds so put
put_written names bodies k name body None (Some mid) new apart below is holds so put = absurd so
put_written names bodies k name body (Some old) None new apart below is holds so put = absurd so
put_written names bodies k name body None None (Some new) apart below is holds so put = absurd put
put_written names bodies k name body (Some old) (Some mid) None apart below is holds so put = absurd put

torn_files : (names bodies : List (List ℕ)) (k : ℕ) (name : List ℕ) (old mid new : Files) → AreDistinct names → k < length names → name ≡ get_or names k [] → AreWritten k k names bodies old mid → ((other : List ℕ) → other ≢ name → new other ≡ mid other) → AreWritten k (k + 1) names bodies old new
torn_files names bodies k name old mid new apart below is so kept =
    record {
      files = λ i early. kept (get_or names i []) (λ same. apart i k early below (same ∙ is)) ∙ so.files i early;
      others = λ other none. kept other (λ same. none (subst (Contains (take (k + 1) names)) (sym (same ∙ is)) (taken_in names k below))) ∙ so.others other (λ held. none (still_in names k other below held));
    }

pub put_torn : (names bodies : List (List ℕ)) (k : ℕ) (name : List ℕ) (old mid new : Option Files) → AreDistinct names → k < length names → name ≡ get_or names k [] → OfFiles old mid (AreWritten k k names bodies) → KeepsOthers mid new name → OfFiles old new (AreWritten k (k + 1) names bodies)
put_torn names bodies k name None None None apart below is so kept = tt
put_torn names bodies k name (Some old) (Some mid) (Some new) apart below is so kept = torn_files names bodies k name old mid new apart below is so kept
put_torn names bodies k name None (Some mid) new apart below is so kept = absurd so
put_torn names bodies k name (Some old) None new apart below is so kept = absurd so
put_torn names bodies k name None None (Some new) apart below is so kept = absurd kept
put_torn names bodies k name (Some old) (Some mid) None apart below is so kept = absurd kept

-- a call that failed and was counted has raised the count
pub risen : (old new : ℕ) → new ≡ max old (min (old + 1) (2 ^ 64 - 1)) → HasMoreRefused old new
risen old new = go (2 ^ 64 - 1)
  where
    go : (most : ℕ) → new ≡ max old (min (old + 1) most) → (old < new) ⊎ (most ≤ new)
    go most is = elim (cases_lt old most) [ inl few ↦ inl (omega (arith, is)) | inr many ↦ inr (omega (arith, is)) ]
