-- The fields of an answer's text.
use Rattle.std.specs.Prelude.{ℕ, List, [], ◌∷◌, Option, Some, None, codes, decimal}
use Rattle.address.specs.Address.{AddressText}
use Rattle.fetcher.specs.declared.outcome.Outcome.{Outcome}
use Rattle.fetcher.specs.declared.outcome.Outcome.TheVariants.{Moved, Leaf}
use Rattle.earlier_answers.specs.Texts.{Text}

-- three fields, and perhaps a fourth
pub record AnswerFields : Type 0 where
  pub word : Text
  pub status : Text
  pub at : Text
  pub target : Option Text

-- the fourth field, if it is there
abbrev pub last_field : Option Text → List Text
last_field None = []
last_field (Some target) = target ∷ []

-- the fields as a list
abbrev pub fields_in : AnswerFields → List Text
fields_in f = f.word ∷ f.status ∷ f.at ∷ last_field f.target

-- the word of an answer that has no file
abbrev pub word_of : Outcome → Text
word_of (Moved status target) = codes "moved"
word_of (Leaf status) = codes "leaf"
word_of other = []

-- its status
abbrev pub status_of : Outcome → ℕ
status_of (Moved status target) = status
status_of (Leaf status) = status
status_of other = 0

-- its target
abbrev pub target_of : Outcome → Option Text
target_of (Moved status target) = Some target
target_of other = None

-- the fields of its text
abbrev pub fields_by : AddressText → Outcome → AnswerFields
fields_by at outcome = record { word = word_of outcome; status = decimal (status_of outcome); at = at; target = target_of outcome }
