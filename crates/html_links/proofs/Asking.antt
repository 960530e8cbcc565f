-- Tags and attributes that no rule names give nothing. No proof names an element or an attribute, so that a row of the link table
-- changes none.
use Rattle.std.proofs.Common.{◌≡◌, ℕ, Bool, true, false, ◌||◌, List, [], ◌∷◌, ◌++◌, Option, Some, None, if◌then◌else◌, refl, sym, ◌∙◌, ap, arith, append-nil}
use Rattle.std.proofs.lemmas.Grind.{flat_map-append}
use Rattle.std.specs.Prelude.{option_map, codes}
use Rattle.std.specs.Option.{option_or}
use Rattle.std.specs.Str.{bytes_eq}
use Rattle.std.specs.List.{flat_map, list_any}
use Rattle.html_links.specs.Pieces.{Attribute, Tag, Source}
use Rattle.html_links.specs.Pieces.Source.{FromTag, FromSheet}
use Rattle.html_links.specs.Values.{value_text_of, written, value_of}
use Rattle.html_links.specs.declared.table.LinkForm.{LinkForm}
use Rattle.html_links.specs.declared.links.LinkKind.{LinkKind}
use Rattle.html_links.specs.declared.links.LinkPlace.{LinkPlace}
use Rattle.html_links.specs.declared.links.LinkPlace.TheVariants as place
use Rattle.html_links.specs.declared.table.LinkForm.TheVariants as form
use Rattle.html_links.specs.Links.{Link, Links, Row, link_table, kind_in, related, pressed, refreshed, link_with, link_by, row_links, table_links, styling, style_links, styling_links, links_of, source_links, base_of, is_nofollow, first_base, any_nofollow, with_tags}
use Rattle.html_links.specs.Asked.{is_asked_element, is_asked_attribute, is_styling, is_wanted, asked_attributes, given, asked}
use Rattle.html_links.specs.declared.asked.Wanted.{Wanted}
use Rattle.html_links.specs.declared.asked.Wanted.TheVariants as wanted
use Rattle.std.proofs.lemmas.Slice.Eq.{bytes_eq-Decides}

-- a name that is kept isn't the name of an attribute that isn't
other_name : (w : Wanted) (name other : List ℕ) → is_wanted w name ≡ true → is_wanted w other ≡ false → bytes_eq other name ≡ false
other_name w name other h e = go (bytes_eq other name) refl where
  go : (t : Bool) → bytes_eq other name ≡ t → t ≡ false
  go false _ = refl
  go true same = let equal : other ≡ name = (bytes_eq-Decides other name).0 same in absurd (cc)

written_asked : (w : Wanted) (name : List ℕ) (all : List Attribute) → is_wanted w name ≡ true → written name (asked_attributes w all) ≡ written name all
written_asked w name [] h = refl
written_asked w name (a ∷ others) h = go (is_wanted w a.name) refl (written_asked w name others h) where
  go : (t : Bool) → is_wanted w a.name ≡ t → written name (asked_attributes w others) ≡ written name others
      → written name (if t then a ∷ asked_attributes w others else asked_attributes w others) ≡ written name (a ∷ others)
  go true e g = rw g refl
  go false e g = rw (other_name w name a.name h e) g

value_kept : (w : Wanted) (name : List ℕ) (all : List Attribute) → is_wanted w name ≡ true → value_of name (asked_attributes w all) ≡ value_of name all
value_kept w name all h = ap (option_map value_text_of) (written_asked w name all h)

-- what is kept of the tags that a rule names
abbrev kept_of : List Attribute → List Attribute
kept_of all = asked_attributes wanted.All all

value_asked : (name : List ℕ) (all : List Attribute) → is_asked_attribute name ≡ true → value_of name (kept_of all) ≡ value_of name all
value_asked name all h = value_kept wanted.All name all h

abbrev kept : Tag → Tag
kept tag = record { name = tag.name; attributes = kept_of tag.attributes }

-- where a value leads to is said by attributes that a rule names
kind_kept : (all : List Attribute) (f : LinkForm) → kind_in (kept_of all) f ≡ kind_in all f
kind_kept all form.Link = refl
kind_kept all form.Shown = refl
kind_kept all form.Related = ap related (value_asked (codes "rel") all refl)
kind_kept all form.Button = ap pressed (value_asked (codes "type") all refl)
kind_kept all form.Set = refl
kind_kept all form.Refresh = ap refreshed (value_asked (codes "http-equiv") all refl)
kind_kept all form.Mention = refl

link_kept : (all : List Attribute) (r : Row) → is_asked_attribute r.attribute ≡ true → link_by (kept_of all) r ≡ link_by all r
link_kept all r h = rw (kind_kept all r.form, value_asked r.attribute all h) refl

row_kept : (tag : Tag) (r : Row) → is_asked_attribute r.attribute ≡ true → row_links (kept tag) r ≡ row_links tag r
row_kept tag r h = rw (link_kept tag.attributes r h) refl

-- whether the attributes of these rows are ones that a rule names
abbrev all_asked : List Row → Bool
all_asked [] = true
all_asked (r ∷ others) = if is_asked_attribute r.attribute then all_asked others else false

table_asked : all_asked link_table ≡ true
unfolding link_table
table_asked = refl

rows_kept : (tag : Tag) (rows : List Row) → all_asked rows ≡ true → flat_map (row_links (kept tag)) rows ≡ flat_map (row_links tag) rows
rows_kept tag [] h = refl
rows_kept tag (r ∷ others) h = go (is_asked_attribute r.attribute) refl h (rows_kept tag others) where
  go : (t : Bool) → is_asked_attribute r.attribute ≡ t → (if t then all_asked others else false) ≡ true
      → (all_asked others ≡ true → flat_map (row_links (kept tag)) others ≡ flat_map (row_links tag) others)
      → flat_map (row_links (kept tag)) (r ∷ others) ≡ flat_map (row_links tag) (r ∷ others)
  go true e h g = rw (row_kept tag r e, g h) refl
  go false e h g = absurd (cc)

-- whether the attributes of these names are kept
abbrev all_wanted : Wanted → List (List ℕ) → Bool
all_wanted w [] = true
all_wanted w (n ∷ others) = if is_wanted w n then all_wanted w others else false

styles_kept : (w : Wanted) (all : List Attribute) (names : List (List ℕ)) → all_wanted w names ≡ true
    → flat_map (style_links (asked_attributes w all)) names ≡ flat_map (style_links all) names
styles_kept w all [] h = refl
styles_kept w all (n ∷ others) h = go (is_wanted w n) refl h (styles_kept w all others) where
  go : (t : Bool) → is_wanted w n ≡ t → (if t then all_wanted w others else false) ≡ true
      → (all_wanted w others ≡ true → flat_map (style_links (asked_attributes w all)) others ≡ flat_map (style_links all) others)
      → flat_map (style_links (asked_attributes w all)) (n ∷ others) ≡ flat_map (style_links all) (n ∷ others)
  go true e h g = rw (value_kept w n all e, g h) refl
  go false e h g = absurd (cc)

-- attributes that are read like a style sheet are kept of any tag
styling_kept : (w : Wanted) (all : List Attribute) → all_wanted w styling ≡ true → styling_links (asked_attributes w all) ≡ styling_links all
unfolding styling_links
styling_kept w all h = styles_kept w all styling h

styling_asked : all_wanted wanted.All styling ≡ true
unfolding styling
styling_asked = refl

styling_wanted : all_wanted wanted.Style styling ≡ true
unfolding styling is_styling
styling_wanted = refl

-- an attribute that is read so isn't there if none is
none_written : (name : List ℕ) (all : List Attribute) → is_styling name ≡ true → list_any (λ a. is_styling a.name) all ≡ false → written name all ≡ None
none_written name [] h none = refl
none_written name (a ∷ others) h none = go (is_styling a.name) refl none (none_written name others h) where
  go : (t : Bool) → is_styling a.name ≡ t → (t || list_any (λ b. is_styling b.name) others) ≡ false
      → (list_any (λ b. is_styling b.name) others ≡ false → written name others ≡ None)
      → written name (a ∷ others) ≡ None
  go true e none g = absurd (cc)
  go false e none g = rw (other_name wanted.Style name a.name h e) (g none)

none_styled : (all : List Attribute) (names : List (List ℕ)) → all_wanted wanted.Style names ≡ true → list_any (λ a. is_styling a.name) all ≡ false
    → flat_map (style_links all) names ≡ []
none_styled all [] h none = refl
none_styled all (n ∷ others) h none = go (is_styling n) refl h (λ more. none_styled all others more none) where
  go : (t : Bool) → is_styling n ≡ t → (if t then all_wanted wanted.Style others else false) ≡ true
      → (all_wanted wanted.Style others ≡ true → flat_map (style_links all) others ≡ [])
      → flat_map (style_links all) (n ∷ others) ≡ []
  go true e h g = rw (none_written n all e none) (g h)
  go false e h g = absurd (cc)

-- such a tag has no style
pub unstyled : (found : List Link) (all : List Attribute) → list_any (λ a. is_styling a.name) all ≡ false → found ≡ found ++ styling_links all
unfolding styling_links
unstyled found all none = rw (none_styled all styling styling_wanted none) (sym (append-nil found))

-- without attributes there is no style
no_styling : styling_links [] ≡ []
unfolding styling_links styling
no_styling = refl

links_kept : (tag : Tag) → links_of (kept tag) ≡ links_of tag
unfolding links_of table_links
links_kept tag = rw (rows_kept tag link_table table_asked, styling_kept wanted.All tag.attributes styling_asked) refl

base_kept : (tag : Tag) → base_of (kept tag) ≡ base_of tag
unfolding base_of
base_kept tag = grind (arith, value_asked)

nofollow_kept : (tag : Tag) → is_nofollow (kept tag) ≡ is_nofollow tag
unfolding is_nofollow
nofollow_kept tag = grind (arith, value_asked)

-- rows of other elements give nothing
rows_nothing : (tag : Tag) (rows : List Row) → list_any (λ r. bytes_eq tag.name r.element) rows ≡ false → flat_map (row_links tag) rows ≡ []
rows_nothing tag [] h = refl
rows_nothing tag (r ∷ others) h = go (bytes_eq tag.name r.element) h (rows_nothing tag others) where
  go : (t : Bool) → (t || list_any (λ r. bytes_eq tag.name r.element) others) ≡ false
      → (list_any (λ r. bytes_eq tag.name r.element) others ≡ false → flat_map (row_links tag) others ≡ [])
      → ((if t then link_by tag.attributes r else []) ++ flat_map (row_links tag) others) ≡ []
  go true h g = absurd (cc)
  go false h g = g h

-- none of the tests holds
record AreFalse (a b c : Bool) : Type 0 where
  first : a ≡ false
  second : b ≡ false
  third : c ≡ false

none_holds : (a b c : Bool) → (a || b || c) ≡ false → AreFalse a b c
none_holds false false c h = record { first = refl; second = refl; third = h }
none_holds false true c h = absurd (cc)
none_holds true b c h = absurd (cc)

-- a tag that no rule names has the links of its style alone
record IsPlain (tag : Tag) : Type 0 where
  links : links_of tag ≡ styling_links tag.attributes
  base : base_of tag ≡ None
  nofollow : is_nofollow tag ≡ false

plain : (tag : Tag) → is_asked_element tag.name ≡ false → IsPlain tag
unfolding links_of table_links base_of is_nofollow is_asked_element
plain tag h =
    let tests : AreFalse (bytes_eq tag.name (codes "base")) (bytes_eq tag.name (codes "meta")) (list_any (λ r. bytes_eq tag.name r.element) link_table)
    = none_holds _ _ _ h in
    record { links = rw (rows_nothing tag link_table tests.third) refl; base = rw tests.first refl; nofollow = rw tests.second refl }

-- a tag without attributes says nothing
kind_alone : (p : LinkPlace) (f : LinkForm) (k : Option LinkKind) → link_with p f k None ≡ []
kind_alone p f None = refl
kind_alone p f (Some k) = refl

rows_alone : (name : List ℕ) (rows : List Row) → flat_map (row_links (record { name = name; attributes = [] })) rows ≡ []
rows_alone name [] = refl
rows_alone name (r ∷ others) = go (bytes_eq name r.element) (rows_alone name others) where
  go : (t : Bool) → flat_map (row_links (record { name = name; attributes = [] })) others ≡ []
      → ((if t then link_by [] r else []) ++ flat_map (row_links (record { name = name; attributes = [] })) others) ≡ []
  go true g = rw (kind_alone (place.Row r.number) r.form (kind_in [] r.form)) g
  go false g = g

-- what a tag without attributes says
record IsSilent (tag : Tag) : Type 0 where
  links : links_of tag ≡ []
  base : base_of tag ≡ None
  nofollow : is_nofollow tag ≡ false

if_same : {X : Type 0} (t : Bool) (x : X) → (if t then x else x) ≡ x
if_same true x = refl
if_same false x = refl

silent : (name : List ℕ) → IsSilent (record { name = name; attributes = [] })
unfolding links_of table_links base_of is_nofollow
silent name = record { links = rw (rows_alone name link_table, no_styling) refl; base = if_same (bytes_eq name (codes "base")) None; nofollow = if_same (bytes_eq name (codes "meta")) false }

-- what is given of a tag that a rule names says the same
all_links : (name : List ℕ) (kept : List Attribute) → flat_map source_links (given wanted.All name kept) ≡ links_of (record { name = name; attributes = kept })
all_links name [] = sym (silent name).links
all_links name (a ∷ others) = append-nil (links_of (record { name = name; attributes = a ∷ others }))

all_base : (name : List ℕ) (kept : List Attribute) (others : List Source)
    → first_base (given wanted.All name kept ++ others) ≡ option_or (base_of (record { name = name; attributes = kept })) (first_base others)
all_base name [] others = rw (silent name).base refl
all_base name (a ∷ more) others = refl

all_nofollow : (name : List ℕ) (kept : List Attribute) (others : List Source)
    → any_nofollow (given wanted.All name kept ++ others) ≡ (is_nofollow (record { name = name; attributes = kept }) || any_nofollow others)
all_nofollow name [] others = rw (silent name).nofollow refl
all_nofollow name (a ∷ more) others = refl

-- so does what is given of another
styled_links : (name : List ℕ) (kept all : List Attribute) → is_asked_element name ≡ false → styling_links kept ≡ styling_links all
    → flat_map source_links (given wanted.Style name kept) ≡ links_of (record { name = name; attributes = all })
styled_links name [] all h same = sym no_styling ∙ same ∙ sym (plain (record { name = name; attributes = all }) h).links
styled_links name (a ∷ others) all h same =
    append-nil (links_of (record { name = name; attributes = a ∷ others }))
    ∙ (plain (record { name = name; attributes = a ∷ others }) h).links ∙ same ∙ sym (plain (record { name = name; attributes = all }) h).links

styled_base : (name : List ℕ) (kept : List Attribute) (others : List Source) → is_asked_element name ≡ false → first_base (given wanted.Style name kept ++ others) ≡ first_base others
styled_base name [] others h = refl
styled_base name (a ∷ more) others h = rw (plain (record { name = name; attributes = a ∷ more }) h).base refl

styled_nofollow : (name : List ℕ) (kept : List Attribute) (others : List Source) → is_asked_element name ≡ false → any_nofollow (given wanted.Style name kept ++ others) ≡ any_nofollow others
styled_nofollow name [] others h = refl
styled_nofollow name (a ∷ more) others h = rw (plain (record { name = name; attributes = a ∷ more }) h).nofollow refl

-- what a tag gives, if a rule names it or none does
abbrev given_if : Bool → Tag → List Source
given_if t tag = given (if t then wanted.All else wanted.Style) tag.name (asked_attributes (if t then wanted.All else wanted.Style) tag.attributes)

links_asked : (tags : List Source) → flat_map source_links (asked tags) ≡ flat_map source_links tags
links_asked [] = refl
links_asked (FromSheet references ∷ others) = ap (λ ls. source_links (FromSheet references) ++ ls) (links_asked others)
links_asked (FromTag tag ∷ others) = go (is_asked_element tag.name) refl (links_asked others) where
  go : (t : Bool) → is_asked_element tag.name ≡ t → flat_map source_links (asked others) ≡ flat_map source_links others
      → flat_map source_links (given_if t tag ++ asked others) ≡ links_of tag ++ flat_map source_links others
  go true e g =
      flat_map-append source_links (given_if true tag) (asked others)
      ∙ rw (all_links tag.name (kept_of tag.attributes), links_kept tag, g) refl
  go false e g =
      flat_map-append source_links (given_if false tag) (asked others)
      ∙ rw (styled_links tag.name (asked_attributes wanted.Style tag.attributes) tag.attributes e (styling_kept wanted.Style tag.attributes styling_wanted), g) refl

base_asked : (tags : List Source) → first_base (asked tags) ≡ first_base tags
base_asked [] = refl
base_asked (FromSheet references ∷ others) = base_asked others
base_asked (FromTag tag ∷ others) = go (is_asked_element tag.name) refl (base_asked others) where
  go : (t : Bool) → is_asked_element tag.name ≡ t → first_base (asked others) ≡ first_base others
      → first_base (given_if t tag ++ asked others) ≡ option_or (base_of tag) (first_base others)
  go true e g = all_base tag.name (kept_of tag.attributes) (asked others) ∙ rw (base_kept tag, g) refl
  go false e g = styled_base tag.name (asked_attributes wanted.Style tag.attributes) (asked others) e ∙ g ∙ rw (plain tag e).base refl

nofollow_asked : (tags : List Source) → any_nofollow (asked tags) ≡ any_nofollow tags
nofollow_asked [] = refl
nofollow_asked (FromSheet references ∷ others) = nofollow_asked others
nofollow_asked (FromTag tag ∷ others) = go (is_asked_element tag.name) refl (nofollow_asked others) where
  go : (t : Bool) → is_asked_element tag.name ≡ t → any_nofollow (asked others) ≡ any_nofollow others
      → any_nofollow (given_if t tag ++ asked others) ≡ (is_nofollow tag || any_nofollow others)
  go true e g = all_nofollow tag.name (kept_of tag.attributes) (asked others) ∙ rw (nofollow_kept tag, g) refl
  go false e g = styled_nofollow tag.name (asked_attributes wanted.Style tag.attributes) (asked others) e ∙ g ∙ rw (plain tag e).nofollow refl

-- what the tags that a rule names add is what all add
pub with_asked : (found : Links) (tags : List Source) → with_tags found (asked tags) ≡ with_tags found tags
with_asked found tags = rw (base_asked tags, links_asked tags, nofollow_asked tags) refl
