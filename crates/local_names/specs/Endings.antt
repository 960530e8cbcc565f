-- Endings of names, by which a browser knows what a file is (GNU Wget manual, HTTP Options: `--adjust-extension`).
use Rattle.std.specs.Prelude.{◌≡◌, ℕ, ◌-◌, ◌<◌, ◌||◌, Bool, true, false, List, [], ◌∷◌, take, drop, length, codes, slice_index_or, if◌then◌else◌}
use Rattle.std.specs.Str.{str_eq_ignore_ascii_case}
use Rattle.kept_bodies.specs.declared.body_kind.BodyKind.{BodyKind}
use Rattle.kept_bodies.specs.declared.body_kind.BodyKind.TheVariants.{Html, Sheet, Other}
use Rattle.address.specs.Address.{AddressText}
use Rattle.local_names.specs.declared.rules.NameRules.{NameRules}
use Rattle.local_names.specs.PlainNames.{plain_name_with, plain_name_of}

-- the name ends so, in any case of its letters
abbrev pub ends_in : List ℕ → List ℕ → Bool
ends_in ending name = str_eq_ignore_ascii_case (drop (length name - length ending) name) ending

-- ---- the ending that a body needs

-- the ending of HTML, and of a style sheet; other bodies have none
abbrev pub ending_for : BodyKind → List ℕ
ending_for Html = codes ".html"
ending_for Sheet = codes ".css"
ending_for Other = []

-- by its end a browser knows that the file is of the kind
abbrev pub shows_kind : BodyKind → List ℕ → Bool
shows_kind Html name = ends_in (codes ".html") name || ends_in (codes ".htm") name
shows_kind Sheet name = ends_in (codes ".css") name
shows_kind Other name = true

-- the plain name of a page whose body is of this kind: the last segment is cut so that the ending is whole
abbrev pub ended_name : NameRules → BodyKind → AddressText → List ℕ
ended_name rules kind page =
    if shows_kind kind (plain_name_of rules page)
    then plain_name_of rules page
    else plain_name_with (ending_for kind) rules page

-- the plain names of pages whose bodies are of these kinds; of a body without a kind nothing is known
abbrev pub ended_names : NameRules → List AddressText → List BodyKind → List (List ℕ)
ended_names rules [] kinds = []
ended_names rules (page ∷ pages) [] = ended_name rules Other page ∷ ended_names rules pages []
ended_names rules (page ∷ pages) (kind ∷ kinds) = ended_name rules kind page ∷ ended_names rules pages kinds

-- each name shows the kind of its page's body
abbrev pub ShowKinds : List BodyKind → List (List ℕ) → Type 0
ShowKinds kinds names = (i : ℕ) → i < length names → shows_kind (slice_index_or kinds i Other) (slice_index_or names i []) ≡ true

-- ---- the ending that a name has

-- how many bytes of a name are an ending
abbrev pub ending_size : List ℕ → ℕ
ending_size name = if ends_in (codes ".html") name then 5 else (if ends_in (codes ".htm") name || ends_in (codes ".css") name then 4 else 0)

-- the name without its ending, if names have endings
abbrev pub stem_of : Bool → List ℕ → List ℕ
stem_of true name = take (length name - ending_size name) name
stem_of false name = name

-- its ending
abbrev pub ending_of : Bool → List ℕ → List ℕ
ending_of true name = drop (length name - ending_size name) name
ending_of false name = []
