-- What came over connections that were kept.
use Rattle.std.proofs.Common.{◌≡◌, ◌⊎◌, ◌∙◌, Bool, true, Option, Result, Ok, Err, Some, None, inl, inr, subst}
use Rattle.std.specs.Prelude.{IfOk, IfSome, IsTrue, OnOk}
use Rattle.kept_bodies.specs.Bodies.{BodyValue}
use Rattle.response_reader.specs.Wire.{counted}
use Rattle.response_reader.specs.Limits.{Limited}
use Rattle.response_reader.specs.declared.wire.Wire.{Ghosts as Wires}
use Rattle.address.specs.Address.{AddressText, OriginText, origin_of}
use Rattle.fetcher.specs.declared.answer.Answer.{Answer}
use Rattle.connect.specs.declared.connect.Connect.{Ghosts as Connects}
use Rattle.connect.specs.Connects.{Stays}
use Rattle.http_fetcher.specs.Fetching.{AnsweredOnNew, AnsweredWithRetry, ComesOver, Fetching, IsKeptAfter, LeavesUsable, NoAnswerOnKept, NoConnectionMade, Question, StandsBehind, StandsBy, question_of}

pub if_ok_some_map : {T E : Type 0} (r : Result (Option T) E) (P Q : T → Type 0) → IfOk r (λ o. IfSome o P) → ((a : T) → P a → Q a) → IfOk r (λ o. IfSome o Q)
if_ok_some_map (Ok None) P Q p step = tt
if_ok_some_map (Ok (Some a)) P Q p step = step a p
if_ok_some_map (Err e) P Q p step = tt

pub if_ok_on : {T E : Type 0} (r : Result T E) (X : Type 0) (P Q : T → Type 0) → OnOk r X → IfOk r P → (X → (a : T) → P a → Q a) → IfOk r Q
if_ok_on (Ok a) X P Q x p step = step x a p
if_ok_on (Err e) X P Q x p step = tt

-- a fetcher with the same settings asks the same question
same_question : {C : Type 0} (limits : Limited) (old mid : Fetching C) (at : AddressText) → mid.links ≡ old.links → mid.keeps ≡ old.keeps → mid.sends ≡ old.sends → question_of limits mid at ≡ question_of limits old at
same_question limits old mid at links keeps sends i = record { at = at; links = links i; keeps = keeps i; sends = sends i; limits = limits }

module _ {C W : Type 0} (connects : Connects C W) (wires : Wires W) (limits : Limited) where
  -- a wire that is kept after a question was kept before, or was left by it
  pub stands_by : (old mid new : OriginText → W → Type 0) (question : Question) (of : OriginText) (reusable : Bool) (given left : W)
      → of ≡ origin_of question.at → Stays old mid
      → ((o : OriginText) (w : W) → new o w → mid o w ⊎ ((o ≡ of) × (question.keeps ≡ true) × (reusable ≡ true) × connects.again left w))
      → (IsTrue reusable → LeavesUsable wires question given left)
      → (o : OriginText) (w : W) → new o w → old o w ⊎ IsKeptAfter connects wires limits question o w
  stands_by old mid new question of reusable given left is stays put leaves o w now = by (put o w now)
    where
      by : mid o w ⊎ ((o ≡ of) × (question.keeps ≡ true) × (reusable ≡ true) × connects.again left w) → old o w ⊎ IsKeptAfter connects wires limits question o w
      by (inl was) = inl (stays o w was)
      by (inr x) = inr (x.0 ∙ is, x.1, given, left, leaves x.2, x.3)

  -- an answer over a new connection, if before it none was taken, or one over which no byte came
  pub told_second : (old mid new : Fetching C) (at : AddressText) (answer : Answer BodyValue) → connects.made mid.connect ≡ connects.made old.connect
      → connects.refused mid.connect ≡ connects.refused old.connect → mid.links ≡ old.links → mid.keeps ≡ old.keeps → mid.sends ≡ old.sends
      → Stays (connects.gives old.connect) (connects.gives mid.connect) → NoAnswerOnKept connects wires limits old mid at
      → connects.taken new.connect ≡ connects.taken mid.connect → connects.made new.connect ≡ counted (connects.made mid.connect) 1
      → AnsweredOnNew connects wires limits mid new at answer → AnsweredWithRetry connects wires limits old new at answer
  told_second old mid new at answer made-is refused-is links-is keeps-is sends-is stays silent taken-is one told =
      inr (subst (λ n. connects.made new.connect ≡ counted n 1) made-is one, before silent, by told)
    where
      before : NoAnswerOnKept connects wires limits old mid at → NoAnswerOnKept connects wires limits old new at
      before (inl none) = inl (taken-is ∙ none)
      before (inr s) = inr (taken-is ∙ s.0, s.1, s.2)

      by : AnsweredOnNew connects wires limits mid new at answer → AnsweredOnNew connects wires limits old new at answer
      by (inl unmade) = inl (subst (λ n. NoConnectionMade n (connects.refused new.connect) answer) refused-is unmade)
      by (inr t) =
          inr (t.0, stays (origin_of at) t.0 t.1, subst (λ q. ComesOver wires q t.0 answer) (same_question limits old mid at links-is keeps-is sends-is) t.2)

  -- what is kept after one more question
  pub stands_more : (old mid new : Fetching C) (at : AddressText) → mid.links ≡ old.links → mid.keeps ≡ old.keeps → mid.sends ≡ old.sends
      → StandsBehind connects wires limits old mid → StandsBy connects wires limits mid new at → StandsBehind connects wires limits old new
  stands_more old mid new at links keeps sends before by of wire stands = go (by of wire stands)
    where
      go : connects.stands mid.connect of wire ⊎ IsKeptAfter connects wires limits (question_of limits mid at) of wire
          → connects.stands old.connect of wire ⊎ ((at : AddressText) × IsKeptAfter connects wires limits (question_of limits old at) of wire)
      go (inl stood) = before of wire stood
      go (inr kept) = inr (at, subst (λ q. IsKeptAfter connects wires limits q of wire) (same_question limits old mid at links keeps sends) kept)

  -- what is kept after the same question put twice
  pub stands_twice : (old mid new : Fetching C) (at : AddressText) → mid.links ≡ old.links → mid.keeps ≡ old.keeps → mid.sends ≡ old.sends
      → StandsBy connects wires limits old mid at → StandsBy connects wires limits mid new at → StandsBy connects wires limits old new at
  stands_twice old mid new at links keeps sends before by of wire stands = go (by of wire stands)
    where
      go : connects.stands mid.connect of wire ⊎ IsKeptAfter connects wires limits (question_of limits mid at) of wire
          → connects.stands old.connect of wire ⊎ IsKeptAfter connects wires limits (question_of limits old at) of wire
      go (inl stood) = before of wire stood
      go (inr kept) = inr (subst (λ q. IsKeptAfter connects wires limits q of wire) (same_question limits old mid at links keeps sends) kept)
