-- A text that is written after another.
use Rattle.std.proofs.Common.{◌≡◌, ◌∙◌, ◌++◌, ℕ, List, Option, inl, inr, sym, ap, append_assoc}
use Rattle.std.specs.Prelude.{Result, Ok, Err}
use Rattle.std.specs.Io.KnownBytes.{Appends}
use Rattle.std.proofs.KnownBytes.{Appends-trans}
use Rattle.retriever.specs.Parts.{IsDelivered}
use Rattle.retriever.specs.inner.Parts.{IsWrittenAs, last_status}
use Rattle.streams.specs.Streams.{AppendsFront}

-- a front of the first of two texts is one of both
pub front_of_first : (old new : Option (List ℕ)) (first second : List ℕ) → AppendsFront old new first → AppendsFront old new (first ++ second)
front_of_first old new first second f = record {
  front = f.front;
  rest = f.rest ++ second;
  parts = ap (λ text. text ++ second) f.parts ∙ append_assoc f.front f.rest second;
  appended = f.appended;
}

-- the first text and a front of the second are a front of both
front_of_second : (old between new : Option (List ℕ)) (first second : List ℕ) → Appends old between first → AppendsFront between new second → AppendsFront old new (first ++ second)
front_of_second old between new first second whole f = record {
  front = first ++ f.front;
  rest = f.rest;
  parts = ap (λ text. first ++ text) f.parts ∙ sym (append_assoc first f.front f.rest);
  appended = Appends-trans old between new first f.front whole f.appended;
}

-- the second is delivered after the first
pub delivered_behind : (old between new : Option (List ℕ)) (first second : List ℕ) (wanted status : ℕ) → Appends old between first → IsDelivered between new second wanted status
    → IsDelivered old new (first ++ second) wanted status
delivered_behind old between new first second wanted status whole (inl (is, appends)) = inl (is, Appends-trans old between new first second whole appends)
delivered_behind old between new first second wanted status whole (inr (is, front)) = inr (is, front_of_second old between new first second whole front)

-- the second is written after the first
pub told_behind : {E : Type 0} (old between new : Option (List ℕ)) (first second : List ℕ) (wanted : ℕ) (told : Result ℕ E) → Appends old between first → IsWrittenAs between new told second wanted
    → IsWrittenAs old new told (first ++ second) wanted
told_behind old between new first second wanted (Ok status) whole (is, appends) = (is, Appends-trans old between new first second whole appends)
told_behind old between new first second wanted (Err failed) whole front = front_of_second old between new first second whole front

-- what is written is delivered, if nothing more is
pub told_delivered : {E : Type 0} (old new : Option (List ℕ)) (told : Result ℕ E) (status : ℕ) → status ≡ last_status told → (text : List ℕ) (wanted : ℕ) → IsWrittenAs old new told text wanted
    → IsDelivered old new text wanted status
told_delivered old new (Ok s) status same text wanted (is, appends) = inl (same ∙ is, appends)
told_delivered old new (Err failed) status same text wanted front = inr (same, front)
