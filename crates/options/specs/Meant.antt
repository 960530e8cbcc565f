-- Which form is meant by the front of a long one: fronts are read among Wget's forms first, then among this program's own.
use Rattle.std.specs.Prelude.{◌||◌, Bool, List, [], ◌∷◌, Option, bytes_eq, nat_eq, option_and_then, if◌then◌else◌}
use Rattle.std.specs.List.{filter, list_any, starts_with}
use Rattle.clap.specs.Lexer.{strip_byte}
use Rattle.clap.specs.Walk.{Text}
use Rattle.options.specs.declared.meant.Begun.{Begun}
use Rattle.options.specs.declared.meant.Begun.TheVariants as begun
use Rattle.options.specs.Table.{own, wget}

-- the text after a dash
abbrev pub without_dash : Text → Option Text
without_dash text = strip_byte 45 text

-- the name of a long form
abbrev pub long_name : Text → Option Text
long_name form = option_and_then without_dash (without_dash form)

-- the form is one of these
abbrev pub is_one_of : List Text → Text → Bool
is_one_of forms form = list_any (λ other. bytes_eq other form) forms

-- those of these forms that begin with the front
abbrev pub beginning : Text → List Text → List Text
beginning front forms = filter (λ form. starts_with nat_eq form front) forms

-- of Wget's forms that begin with the front, or else of our own
abbrev pub these_or : List Text → List Text → List Text
these_or [] ours = ours
these_or (form ∷ forms) ours = form ∷ forms

-- the forms of which this is the front
unfoldable pub fronts : Text → List Text
fronts front = these_or (beginning front wget) (beginning front own)

-- none, one or several
abbrev pub begun_of : List Text → Begun Text
begun_of [] = begun.Nothing
begun_of (form ∷ []) = begun.One form
begun_of (form ∷ another ∷ more) = begun.Several

-- the only one of these forms that begins with the front, which stays as it is if there is none, or several
abbrev pub only_of : Text → Begun Text → Text
only_of front (begun.One form) = form
only_of front other = front

-- of no form of Wget's: the only one of our own
abbrev pub either_meant : Text → Begun Text → Begun Text → Text
either_meant front begun.Nothing ours = only_of front ours
either_meant front theirs ours = only_of front theirs

-- the form that is meant: a whole form is itself
unfoldable pub meant : Text → Text
meant form =
    if is_one_of wget form || is_one_of own form then form
    else either_meant form (begun_of (beginning form wget)) (begun_of (beginning form own))
