-- Names are by the kinds of the kept bodies, if names have endings.
use Rattle.std.proofs.Common.{◌≡◌, ◌∙◌, ◌+◌, ◌++◌, ◌<◌, ℕ, Bool, true, false, List, [], ◌∷◌, map, take, Some, refl, sym, ap, subst, length}
use Rattle.std.specs.Prelude.{IfOk, Result, Ok, Err, slice_get}
use Rattle.std.proofs.lemmas.List.{take_more}
use Rattle.std.proofs.lemmas.Option.{get_or_from_slice_get}
use Rattle.kept_bodies.specs.declared.body_kind.BodyKind.{BodyKind}
use Rattle.frontier_core.specs.Tables.{Text}
use Rattle.harvest.specs.Harvests.{Harvested}
use Rattle.local_names.specs.Endings.{ended_names}
use Rattle.local_names.specs.Names.{IsNaming, IsNamingBy}
use Rattle.local_names.specs.PlainNames.{plain_name_of}
use Rattle.options.specs.declared.naming.PageNames.{PageNames}
use Rattle.retriever.specs.Keeping.{kinds_of}
use Rattle.retriever.specs.Site.{AreNamesOf, plain_names_by}

kinds_push : {B : Type 0} (kind_of : B → BodyKind) (bodies : List B) (body : B) → kinds_of kind_of (bodies ++ body ∷ []) ≡ kinds_of kind_of bodies ++ kind_of body ∷ []
kinds_push kind_of [] body = refl
kinds_push kind_of (b ∷ bodies) body = ap (λ (kinds : List BodyKind). kind_of b ∷ kinds) (kinds_push kind_of bodies body)

-- the kind of one body more
pub kinds_more : {B : Type 0} (kind_of : B → BodyKind) (bodies : List B) (i : ℕ) (body : B) (kinds new : List BodyKind) (kind : BodyKind) → i < length bodies → slice_get bodies i ≡ Some body → kind ≡ kind_of body
    → new ≡ kinds ++ kind ∷ [] → kinds ≡ kinds_of kind_of (take i bodies) → new ≡ kinds_of kind_of (take (i + 1) bodies)
kinds_more {B = B} kind_of bodies i body kinds new kind within at is pushed so_far =
    let one : take (i + 1) bodies ≡ take i bodies ++ body ∷ [] = take_more bodies i body within ∙ ap (λ (b : B). take i bodies ++ b ∷ []) (get_or_from_slice_get bodies i body body at) in
    pushed
    ∙ ap (λ (ks : List BodyKind). ks ++ kind ∷ []) so_far
    ∙ ap (λ (k : BodyKind). kinds_of kind_of (take i bodies) ++ k ∷ []) is
    ∙ sym (kinds_push kind_of (take i bodies) body)
    ∙ ap (λ (bs : List B). kinds_of kind_of bs) (sym one)

-- names with endings
pub ended_are : {B X E : Type 0} (kind_of : B → BodyKind) (naming : PageNames) (h : Harvested B) (pages : List Text) (kinds : List BodyKind) (r : Result X E) (names : X → List (List ℕ)) → naming.has_endings ≡ true → pages ≡ h.kept
    → kinds ≡ kinds_of kind_of h.bodies → IfOk r (λ x. IsNamingBy true (ended_names naming.rules pages kinds) (names x)) → IfOk r (λ x. AreNamesOf naming h.kept (kinds_of kind_of h.bodies) (names x))
ended_are kind_of naming h pages kinds (Ok x) names on same kinds_same given =
    subst (λ (b : Bool). IsNamingBy b (plain_names_by b naming.rules h.kept (kinds_of kind_of h.bodies)) (names x)) (sym on)
    (subst (λ (ks : List BodyKind). IsNamingBy true (ended_names naming.rules h.kept ks) (names x)) kinds_same
    (subst (λ (ps : List Text). IsNamingBy true (ended_names naming.rules ps kinds) (names x)) same given))
ended_are kind_of naming h pages kinds (Err e) names on same kinds_same given = tt

-- names without
pub plain_are : {B X E : Type 0} (kind_of : B → BodyKind) (naming : PageNames) (h : Harvested B) (pages : List Text) (r : Result X E) (names : X → List (List ℕ)) → naming.has_endings ≡ false → pages ≡ h.kept
    → IfOk r (λ x. IsNaming (map (plain_name_of naming.rules) pages) (names x)) → IfOk r (λ x. AreNamesOf naming h.kept (kinds_of kind_of h.bodies) (names x))
plain_are kind_of naming h pages (Ok x) names off same given =
    subst (λ (b : Bool). IsNamingBy b (plain_names_by b naming.rules h.kept (kinds_of kind_of h.bodies)) (names x)) (sym off)
    (subst (λ (ps : List Text). IsNaming (map (plain_name_of naming.rules) ps) (names x)) same given)
plain_are kind_of naming h pages (Err e) names off same given = tt
