-- Files that are put one after another with other bytes in place of some bodies.
use Rattle.std.proofs.Common.{◌≡◌, ◌≢◌, ◌⊎◌, ℕ, ◌+◌, ◌≤◌, ◌<◌, Bool, true, false, cond, List, [], ◌∷◌, length, get_or, take, Contains, Option, Some, None, Result, Ok, Err, OnErr, inl, inr, refl, sym, ap, ◌∙◌, subst, arith}
use Rattle.std.specs.Prelude.{◌&&◌, IfOk, IsSomeAnd, MatchOption, slice_get}
use Rattle.std.specs.List.{AllZip}
use Rattle.std.proofs.lemmas.Bool.{cases_lt, cond-true, cond-false, false_from_ne_true}
use Rattle.std.proofs.lemmas.List.{take_more}
use Rattle.std.proofs.lemmas.List.Elements.{Contains-append_left, Contains-push}
use Rattle.std.proofs.lemmas.Slice.Eq.{bytes_eq-Decides}
use Rattle.std.proofs.lemmas.Slice.Zip.{AllZip-left}
use Rattle.std.specs.Str.{bytes_eq}
use Rattle.kept_bodies.specs.Bodies.{BodyValue}
use Rattle.local_names.specs.Names.{AreDistinct}
use Rattle.local_tree.specs.Changes.{Becomes, HasText, PutsChanged, AreChanged}
use Rattle.local_tree.specs.Folders.{Files, Puts, KeepsOthers}
use Rattle.local_tree.specs.SiteFiles.{OfFiles}
use Rattle.local_tree.proofs.SiteFilesLaws.{taken_in, still_in}

-- a text that a file has still is one that it may have if not all are changed
left_text : (becomes : Becomes) (all : Bool) (place : ℕ) (body : BodyValue) (text : List ℕ) → HasText becomes all place body text → HasText becomes false place body text
left_text becomes true place body text has = inl has
left_text becomes false place body text has = has

fewer_text : (becomes : Becomes) (all one : Bool) (place : ℕ) (body : BodyValue) (text : List ℕ) → HasText becomes all place body text → HasText becomes (all && one) place body text
fewer_text becomes true true place body text has = has
fewer_text becomes true false place body text has = inl has
fewer_text becomes false one place body text has = has

other_text : (becomes : Becomes) (all one : Bool) (place : ℕ) (body : BodyValue) (text : List ℕ) → HasText becomes one place body text → HasText becomes (all && one) place body text
other_text becomes true one place body text has = has
other_text becomes false one place body text has = left_text becomes one place body text has

-- the body at a place, which the kept one there may be
pub body_there : {B : Type 0} (holds : B → BodyValue → Type 0) (kept : List B) (bodies : List BodyValue) (i : ℕ) (k : B) → slice_get kept i ≡ Some k → AllZip holds kept bodies
    → (body : BodyValue) × (slice_get bodies i ≡ Some body) × holds k body
body_there {B} holds kept bodies i k at are =
    pick (slice_get bodies i) refl (subst (λ (o : Option B). MatchOption o (Unit {0}) (λ x. IsSomeAnd (slice_get bodies i) (holds x))) at (AllZip-left holds kept bodies are i))
  where
    pick : (o : Option BodyValue) → slice_get bodies i ≡ o → IsSomeAnd o (holds k) → (body : BodyValue) × (slice_get bodies i ≡ Some body) × holds k body
    pick None is held = absurd held
    pick (Some body) is held = (body, is, held)

-- a file that was put has its bytes
puts_changed : (becomes : Becomes) (one : Bool) (place : ℕ) (body : BodyValue) (text name : List ℕ) (old new : Option Files) → HasText becomes one place body text → Puts old new name text
    → PutsChanged becomes one place body name old new
puts_changed becomes one place body text name (Some old) (Some new) has put = (text, has, put)
puts_changed becomes one place body text name None None has put = tt
puts_changed becomes one place body text name None (Some new) has put = absurd put
puts_changed becomes one place body text name (Some old) None has put = absurd put

pub put_answered : {E : Type 0} (becomes : Becomes) (one : Bool) (place : ℕ) (kept : BodyValue) (text name : List ℕ) (old new : Option Files) (r : Result Bool E) → HasText becomes one place kept text
    → IfOk r (λ all. (all ≡ one) × Puts old new name text) → IfOk r (λ all. (body : BodyValue) → body ≡ kept → PutsChanged becomes all place body name old new)
put_answered becomes one place kept text name old new (Err e) has put = put
put_answered becomes one place kept text name old new (Ok all) has (is, put) = λ body same.
    subst (λ (b : Bool). PutsChanged becomes b place body name old new) (sym is)
    (subst (λ (x : BodyValue). PutsChanged becomes one place x name old new) (sym same) (puts_changed becomes one place kept text name old new has put))

pub none_changed : (becomes : Becomes) (names : List (List ℕ)) (bodies : List BodyValue) (files : Option Files) → OfFiles files files (AreChanged becomes true 0 0 names bodies)
none_changed becomes names bodies None = tt
none_changed becomes names bodies (Some files) = record { files = λ i below. absurd (omega arith); others = λ name none. refl }

some_is : {X : Type 0} (x y : X) → Some x ≡ Some y → x ≡ y
some_is x y is = cc

module _ (becomes : Becomes) (all : Bool) (names : List (List ℕ)) (bodies : List BodyValue) (k : ℕ) (name : List ℕ) (apart : AreDistinct names) (below : k < length names) (is : name ≡ get_or names k []) where
  -- one more file
  more_changed : (one : Bool) (body : BodyValue) (text : List ℕ) (old mid new : Files) → slice_get bodies k ≡ Some body → HasText becomes one k body text → AreChanged becomes all k k names bodies old mid
      → ((other : List ℕ) → new other ≡ cond (bytes_eq name other) (Some text) (mid other)) → AreChanged becomes (all && one) (k + 1) (k + 1) names bodies old new
  more_changed one body text old mid new there has so put =
      let differs : (other : List ℕ) → other ≢ name → new other ≡ mid other = λ other other_is. put other ∙ cond-false (bytes_eq name other) (Some text) (mid other) (false_from_ne_true (bytes_eq name other) (λ e. other_is (sym ((bytes_eq-Decides name other).0 e)))) in
      record {
        files = λ i less b at. elim (cases_lt i k) [
          | inl early ↦ (let (t, may, held) = so.files i early b at in
              (t, fewer_text becomes all one i b t may, differs (get_or names i []) (λ same. apart i k early below (same ∙ is)) ∙ held))
          | inr late ↦ (
              let same : i ≡ k = omega arith in
              let own : get_or names i [] ≡ name = ap (λ j. get_or names j []) same ∙ sym is in
              let sole : body ≡ b = some_is body b (sym there ∙ ap (slice_get bodies) (sym same) ∙ at) in (
                text,
                subst (λ (j : ℕ). HasText becomes (all && one) j b text) (sym same) (subst (λ (x : BodyValue). HasText becomes (all && one) k x text) sole (other_text becomes all one k body text has)),
                ap new own ∙ put name ∙ cond-true (bytes_eq name name) (Some text) (mid name) ((bytes_eq-Decides name name).1 refl),
              ))
        ];
        others = λ other none. differs other (λ same. none (subst (Contains (take (k + 1) names)) (sym (same ∙ is)) (taken_in names k below))) ∙ so.others other (λ held. none (still_in names k other below held));
      }

  pub put_changed : (one : Bool) (body : BodyValue) (old mid new : Option Files) → slice_get bodies k ≡ Some body → OfFiles old mid (AreChanged becomes all k k names bodies)
      → PutsChanged becomes one k body name mid new → OfFiles old new (AreChanged becomes (all && one) (k + 1) (k + 1) names bodies)
  put_changed one body None None None there so put = tt
  put_changed one body (Some old) (Some mid) (Some new) there so (text, has, put) = more_changed one body text old mid new there has so put
  put_changed one body None (Some mid) new there so put = absurd so
  put_changed one body (Some old) None new there so put = absurd so
  put_changed one body None None (Some new) there so put = absurd put
  put_changed one body (Some old) (Some mid) None there so put = absurd put

  -- a put that failed
  torn_changed : (old mid new : Files) → AreChanged becomes all k k names bodies old mid → ((other : List ℕ) → other ≢ name → new other ≡ mid other) → AreChanged becomes false k (k + 1) names bodies old new
  torn_changed old mid new so kept =
      record {
        files = λ i early b at. (let (t, may, held) = so.files i early b at in
            (t, left_text becomes all i b t may, kept (get_or names i []) (λ same. apart i k early below (same ∙ is)) ∙ held));
        others = λ other none. kept other (λ same. none (subst (Contains (take (k + 1) names)) (sym (same ∙ is)) (taken_in names k below))) ∙ so.others other (λ held. none (still_in names k other below held));
      }

  pub put_torn_changed : (old mid new : Option Files) → OfFiles old mid (AreChanged becomes all k k names bodies) → KeepsOthers mid new name → OfFiles old new (AreChanged becomes false k (k + 1) names bodies)
  put_torn_changed None None None so kept = tt
  put_torn_changed (Some old) (Some mid) (Some new) so kept = torn_changed old mid new so kept
  put_torn_changed None (Some mid) new so kept = absurd so
  put_torn_changed (Some old) None new so kept = absurd so
  put_torn_changed None None (Some new) so kept = absurd kept
  put_torn_changed (Some old) (Some mid) None so kept = absurd kept
