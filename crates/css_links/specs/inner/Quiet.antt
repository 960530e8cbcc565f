-- Where bytes that aren't loud lead to between tokens: the place and the text after them, by the bytes from the last one back.
use Rattle.std.specs.Prelude.{ℕ, List, [], ◌∷◌, reverse, if◌then◌else◌, ◌==◌}
use Rattle.css_links.specs.inner.Spans.{until, from, ends_span}
use Rattle.css_links.specs.declared.span.Span.TheVariants as span
use Rattle.css_links.specs.declared.place.Lead.{Lead}
use Rattle.css_links.specs.declared.place.Lead.TheVariants as lead
use Rattle.css_links.specs.declared.place.SheetPart.TheVariants.{Word}
use Rattle.css_links.specs.declared.place.Place.{Place}
use Rattle.css_links.specs.declared.place.Place.TheVariants.{Between, Inside}

-- what a word follows
abbrev pub lead_behind : List ℕ → Lead
lead_behind [] = lead.Nothing
lead_behind (b ∷ bs) = if b == 35 then lead.Hash else lead.Nothing

-- the place after such bytes: in the word that they end with, or between words
abbrev pub place_in : List ℕ → List ℕ → List ℕ → Place
place_in plain [] before = Between
place_in [] (n ∷ named) before = Inside (Word (lead_behind before))
place_in (p ∷ plain) (n ∷ named) before = Between

-- the place after a word, by what is before it, from its last byte back, and what is after it
abbrev pub place_after : List ℕ → List ℕ → Place
place_after before [] = Inside (Word (lead_behind before))
place_after before (p ∷ plain) = Between

-- the text after such bytes: the last word, or the text as it was
abbrev pub raw_in : List ℕ → List ℕ → List ℕ → List ℕ
raw_in raw [] word = raw
raw_in raw (n ∷ named) word = reverse word

-- the same by all of the bytes
abbrev pub named_end : List ℕ → List ℕ
named_end back = from (ends_span span.Plain) back

abbrev pub place_behind : List ℕ → Place
place_behind back = place_in (until (ends_span span.Plain) back) (named_end back) (from (ends_span span.Name) (named_end back))

abbrev pub raw_behind : List ℕ → List ℕ → List ℕ
raw_behind raw back = raw_in raw (named_end back) (until (ends_span span.Name) (named_end back))
