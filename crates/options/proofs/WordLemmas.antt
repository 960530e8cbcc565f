-- What words say, one after another, and what is found in the tables by a text.
use Rattle.std.proofs.Common.{◌≡◌, ◌∙◌, ◌++◌, ◌==◌, ◌+◌, ◌<◌, ◌≤◌, ◌↔◌, ℕ, Bool, true, false, Bor, List, [], ◌∷◌, Option, Some, None, drop, take, get_or, codes, if◌then◌else◌, length, map, option_map, refl, sym, ap, arith, rules, IsTrue}
use Rattle.std.specs.Prelude.{MatchOption, bytes_eq, nat_eq}
use Rattle.std.specs.Char.{to_ascii_lowercase}
use Rattle.std.specs.List.{filter, starts_with}
use Rattle.std.specs.Str.Pattern.{FindsTextPrefix}
use Rattle.std.proofs.lemmas.Bool.Decides.{nat_tests}
use Rattle.std.proofs.lemmas.List.{at_drop_more, at_drop_all, map_more}
use Rattle.std.proofs.lemmas.Slice.Eq.{bytes_eq-Decides}
use Rattle.clap.specs.Walk.{Text}
use Rattle.options.specs.declared.said.Letter.TheVariants as letter
use Rattle.options.specs.declared.said.Meaning.{Meaning}
use Rattle.options.specs.declared.said.Meaning.TheVariants as meaning
use Rattle.options.specs.declared.said.Saying.{Saying}
use Rattle.options.specs.declared.said.Saying.TheVariants as saying
use Rattle.options.specs.declared.table.Command.{Command}
use Rattle.options.specs.declared.table.Row.{Row}
use Rattle.options.specs.Asked.{wish_after, wish_in}
use Rattle.options.specs.Meant.{begun_of, beginning}
use Rattle.options.specs.Said.{after_front, beside, command_meaning, commanded, heard_as, heard_letter, heard_letters, is_negative, is_switch, is_word, letter_by, letter_in, letter_or, letter_with, meaning_of, named, named_by, negative, sense, value_meaning, valued}
use Rattle.options.specs.Table.{table}
use Rattle.options.specs.Written.{first_start, first_unread, value_after, value_from}
use Rattle.options.specs.inner.Meant.{joined}
use Rattle.options.specs.inner.Said.{saying_in}
use Rattle.options.specs.inner.Table.{command_in, row_in}

-- ---- fronts

after_front-at : (front rest : List ℕ) → after_front front (front ++ rest) ≡ Some rest
after_front-at [] rest = refl
after_front-at (b ∷ front) rest = go (b == b) refl (grind (arith, nat_tests)) (after_front-at front rest)
  where
    go : (t : Bool) → (b == b) ≡ t → t ≡ true → after_front front (front ++ rest) ≡ Some rest → after_front (b ∷ front) (b ∷ (front ++ rest)) ≡ Some rest
    go t e f more = rw (e, f) more

after_front-is : (front text rest : List ℕ) → after_front front text ≡ Some rest → text ≡ front ++ rest
after_front-is [] text rest e = cc
after_front-is (b ∷ front) [] rest e = cc
after_front-is (b ∷ front) (f ∷ text) rest e = go (b == f) refl (after_front-is front text rest)
  where
    go : (t : Bool) → (b == f) ≡ t → (after_front front text ≡ Some rest → text ≡ front ++ rest) → f ∷ text ≡ b ∷ (front ++ rest)
    go true is more =
        let same : b ≡ f = grind (arith, nat_tests) in
        let tail : after_front front text ≡ Some rest = rw is at e in
        ap (λ n. n ∷ text) (sym same) ∙ ap (λ l. b ∷ l) (more tail)
    go false is more = let none : None ≡ Some rest = rw is at e in cc

pub after_front-from : (front text : List ℕ) (r : Option (Bor (List ℕ)))
    → MatchOption r (FindsTextPrefix front text None) (λ x. (n : ℕ) × FindsTextPrefix front text (Some n) × (x.now ≡ drop n text) × (length x.now + n ≡ length text))
    → option_map (λ s. s.now) r ≡ after_front front text
after_front-from front text None h = go (after_front front text) refl
  where
    go : (t : Option (List ℕ)) → after_front front text ≡ t → None ≡ after_front front text
    go None e = sym e
    go (Some rest) e = absurd (h rest (after_front-is front text rest e))
after_front-from front text (Some x) h =
    sym (ap (after_front front) (h.1.1 ∙ ap (λ l. front ++ l) (sym h.2)) ∙ after_front-at front x.now)

-- ---- words

pub word_is : (one other : List ℕ) (r : Bool) → IsTrue r ↔ (map to_ascii_lowercase one ≡ map to_ascii_lowercase other) → r ≡ is_word one other
word_is one other true h = sym ((bytes_eq-Decides (map to_ascii_lowercase one) (map to_ascii_lowercase other)).1 (h.0 (search rules)))
word_is one other false h = go (is_word one other) refl
  where
    go : (t : Bool) → is_word one other ≡ t → false ≡ is_word one other
    go true e = let bad : false ≡ true = h.1 ((bytes_eq-Decides (map to_ascii_lowercase one) (map to_ascii_lowercase other)).0 e) in bad ∙ sym e
    go false e = sym e

-- ---- tables

pub named-step : (name : Text) (value : Option Text) (rows : List (Row (Bor (List ℕ)))) (i : ℕ) (d : Row (Bor (List ℕ))) (on : Option Bool) → i < length rows → sense name (row_in (get_or rows i d)) ≡ on
    → named name value (map row_in (drop i rows)) ≡ named_by (row_in (get_or rows i d)) value on (named name value (map row_in (drop (i + 1) rows)))
named-step name value rows i d on below is =
    at_drop_more (λ rest. named name value (map row_in rest)) rows i d below
    ∙ ap (λ s. named_by (row_in (get_or rows i d)) value s (named name value (map row_in (drop (i + 1) rows)))) is

pub named-end : (name : Text) (value : Option Text) (rows : List (Row (Bor (List ℕ)))) (i : ℕ) → length rows ≤ i → named name value (map row_in (drop i rows)) ≡ meaning.Unknown
named-end name value rows i past = at_drop_all (λ rest. named name value (map row_in rest)) rows i past

pub negative-step : (text : Text) (rows : List (Row (Bor (List ℕ)))) (i : ℕ) (d : Row (Bor (List ℕ))) (b : Bool) → i < length rows → is_negative text (row_in (get_or rows i d)) ≡ b
    → negative text (map row_in (drop i rows)) ≡ (if b then meaning_of (row_in (get_or rows i d)).name (row_in (get_or rows i d)).kind true None else negative text (map row_in (drop (i + 1) rows)))
negative-step text rows i d b below is =
    at_drop_more (λ rest. negative text (map row_in rest)) rows i d below
    ∙ ap (λ t. if t then meaning_of (row_in (get_or rows i d)).name (row_in (get_or rows i d)).kind true None else negative text (map row_in (drop (i + 1) rows))) is

pub negative-end : (text : Text) (rows : List (Row (Bor (List ℕ)))) (i : ℕ) → length rows ≤ i → negative text (map row_in (drop i rows)) ≡ meaning.Unknown
negative-end text rows i past = at_drop_all (λ rest. negative text (map row_in rest)) rows i past

pub commanded-step : (key value : Text) (commands : List (Command (Bor (List ℕ)))) (i : ℕ) (d : Command (Bor (List ℕ))) (b : Bool) → i < length commands → bytes_eq (command_in (get_or commands i d)).name key ≡ b
    → commanded key value (map command_in (drop i commands)) ≡ (if b then named (command_in (get_or commands i d)).option (Some value) table else commanded key value (map command_in (drop (i + 1) commands)))
commanded-step key value commands i d b below is =
    at_drop_more (λ rest. commanded key value (map command_in rest)) commands i d below
    ∙ ap (λ t. if t then named (command_in (get_or commands i d)).option (Some value) table else commanded key value (map command_in (drop (i + 1) commands))) is

pub commanded-end : (key value : Text) (commands : List (Command (Bor (List ℕ)))) (i : ℕ) → length commands ≤ i → commanded key value (map command_in (drop i commands)) ≡ meaning.Unknown
commanded-end key value commands i past = at_drop_all (λ rest. commanded key value (map command_in rest)) commands i past

-- the letter of the option at a place, or those after it
pub letter_in-step : (letters : Text) (rows : List (Row (Bor (List ℕ)))) (i : ℕ) (d : Row (Bor (List ℕ))) → i < length rows
    → letter_in letters (map row_in (drop i rows))
    ≡ (if length (row_in (get_or rows i d)).short == 1 then letter_or (row_in (get_or rows i d)) (after_front (row_in (get_or rows i d)).short letters) (letter_in letters (map row_in (drop (i + 1) rows)))
    else letter_in letters (map row_in (drop (i + 1) rows)))
letter_in-step letters rows i d below = at_drop_more (λ rest. letter_in letters (map row_in rest)) rows i d below

pub letter_in-end : (letters : Text) (rows : List (Row (Bor (List ℕ)))) (i : ℕ) → length rows ≤ i → letter_in letters (map row_in (drop i rows)) ≡ letter.Is meaning.Unknown
letter_in-end letters rows i past = at_drop_all (λ rest. letter_in letters (map row_in rest)) rows i past

-- the rest after a letter
behind_letter : (short : Text) (c : ℕ) (t rest : Text) → (length short == 1) ≡ true → after_front short (c ∷ t) ≡ Some rest → rest ≡ t
behind_letter [] c t rest one e = let no : false ≡ true = one in cc
behind_letter (l ∷ []) c t rest one e = go (l == c) refl
  where
    go : (b : Bool) → (l == c) ≡ b → rest ≡ t
    go true is = let some : Some t ≡ Some rest = rw is at e in cc
    go false is = let none : None ≡ Some rest = rw is at e in cc
behind_letter (l ∷ m ∷ more) c t rest one e = let bad : length (l ∷ m ∷ more) ≡ 1 = grind (arith, nat_tests) in absurd (omega arith)

with_letter : (said : Meaning Text) (rest name value left : Text) → letter_with rest said ≡ letter.Goes name value left → left ≡ rest
with_letter (meaning.Means n v) rest name value left e = cc
with_letter (meaning.Waits n) rest name value left e = cc
with_letter meaning.Unknown rest name value left e = cc

by_letter : (row : Row Text) (rest name value left : Text) → letter_by row rest ≡ letter.Goes name value left → left ≡ rest
by_letter row rest name value left e = go (is_switch row.kind) refl
  where
    go : (b : Bool) → is_switch row.kind ≡ b → left ≡ rest
    go true is =
        let same : letter_with rest (meaning_of row.name row.kind true None) ≡ letter.Goes name value left = rw is at e in
        with_letter (meaning_of row.name row.kind true None) rest name value left same
    go false is = let same : letter.Is (valued row.name (beside rest)) ≡ letter.Goes name value left = rw is at e in cc

letter_in-rest : (c : ℕ) (t name value rest : Text) (rows : List (Row Text)) → letter_in (c ∷ t) rows ≡ letter.Goes name value rest → rest ≡ t
letter_in-rest c t name value rest [] e = cc
letter_in-rest c t name value rest (row ∷ rows) e = go (length row.short == 1) refl (after_front row.short (c ∷ t)) refl (letter_in-rest c t name value rest rows)
  where
    go : (b : Bool) → (length row.short == 1) ≡ b → (found : Option Text) → after_front row.short (c ∷ t) ≡ found → (letter_in (c ∷ t) rows ≡ letter.Goes name value rest → rest ≡ t) → rest ≡ t
    go true one (Some left) is more =
        let by : letter_by row left ≡ letter.Goes name value rest = rw (one, is) at e in
        by_letter row left name value rest by ∙ behind_letter row.short c t left one is
    go true one None is more = more (rw (one, is) at e)
    go false one found is more = more (rw one at e)

-- letters of which the first one is an option that is on or off
pub heard-goes : (word letters name value rest : Text) → (length letters == 0) ≡ false → letter.Goes name value rest ≡ letter_in letters table
    → heard_letters word letters ≡ record (heard_letters word rest) { said = saying.Says name value ∷ (heard_letters word rest).said }
heard-goes word [] name value rest some e = let bad : (0 == 0) ≡ false = some in absurd (grind (arith, nat_tests))
heard-goes word (c ∷ t) name value rest some e =
    ap (λ l. heard_letter word l (heard_letters word t)) (sym e)
    ∙ ap (λ (left : Text). record (heard_letters word left) { said = saying.Says name value ∷ (heard_letters word left).said }) (sym (letter_in-rest c t name value rest table (sym e)))

-- letters of which the first one ends the word
pub heard-is : (word letters : Text) (is : Meaning Text) → (length letters == 0) ≡ false → letter.Is is ≡ letter_in letters table → heard_letters word letters ≡ heard_as word is
heard-is word [] is some e = let bad : (0 == 0) ≡ false = some in absurd (grind (arith, nat_tests))
heard-is word (c ∷ t) is some e = ap (λ l. heard_letter word l (heard_letters word t)) (sym e)

-- what letters request if the first one is an option that is on or off
pub wishes-goes : (letters name value rest : Text) → (length letters == 0) ≡ false → letter.Goes name value rest ≡ letter_in letters table → wish_in letters ≡ wish_in rest
wishes-goes [] name value rest some e = let bad : (0 == 0) ≡ false = some in absurd (grind (arith, nat_tests))
wishes-goes (c ∷ t) name value rest some e =
    ap (λ l. wish_after (c ∷ t) l (wish_in t)) (sym e) ∙ ap wish_in (sym (letter_in-rest c t name value rest table (sym e)))

-- and of which the first one ends the word
pub wishes-is : (letters : Text) (is : Meaning Text) → (length letters == 0) ≡ false → letter.Is is ≡ letter_in letters table → wish_in letters ≡ wish_after letters (letter.Is is) None
wishes-is [] is some e = let bad : (0 == 0) ≡ false = some in absurd (grind (arith, nat_tests))
wishes-is (c ∷ t) meaning.Unknown some e = ap (λ l. wish_after (c ∷ t) l (wish_in t)) (sym e)
wishes-is (c ∷ t) (meaning.Means name value) some e = ap (λ l. wish_after (c ∷ t) l (wish_in t)) (sym e)
wishes-is (c ∷ t) (meaning.Waits name) some e = ap (λ l. wish_after (c ∷ t) l (wish_in t)) (sym e)

-- the letters after a letter are fewer
pub fewer : (letters name value rest : Text) → (length letters == 0) ≡ false → letter.Goes name value rest ≡ letter_in letters table → length rest < length letters
fewer [] name value rest some e = let bad : (0 == 0) ≡ false = some in absurd (grind (arith, nat_tests))
fewer (c ∷ t) name value rest some e = let same = letter_in-rest c t name value rest table (sym e) in rw same (omega arith)

-- ---- a value with its option

pub value-execute : (name value : Text) → bytes_eq name (codes "execute") ≡ true → value_meaning name value ≡ command_meaning value
unfolding value_meaning
value-execute name value is = rw is refl

pub value-letter : (name value : Text) → bytes_eq name (codes "execute") ≡ false → bytes_eq name (codes "n") ≡ true → value_meaning name value ≡ negative value table
unfolding value_meaning
value-letter name value other is = rw (other, is) refl

pub value-other : (name value : Text) → bytes_eq name (codes "execute") ≡ false → bytes_eq name (codes "n") ≡ false → value_meaning name value ≡ meaning.Means name value
unfolding value_meaning
value-other name value other is = rw (other, is) refl

-- ---- forms that begin with a front

begun_push : (forms : List Text) (form : Text) → begun_of (forms ++ form ∷ []) ≡ joined (begun_of forms) form
begun_push [] form = refl
begun_push (one ∷ []) form = refl
begun_push (one ∷ two ∷ more) form = refl

filter_push : (p : Text → Bool) (forms : List Text) (form : Text) → filter p (forms ++ form ∷ []) ≡ filter p forms ++ (if p form then form ∷ [] else [])
filter_push p [] form = go (p form) refl
  where
    go : (t : Bool) → p form ≡ t → filter p (form ∷ []) ≡ (if p form then form ∷ [] else [])
    go true e = rw e refl
    go false e = rw e refl
filter_push p (first ∷ forms) form = go (p first) refl (filter_push p forms form)
  where
    go : (t : Bool) → p first ≡ t → filter p (forms ++ form ∷ []) ≡ filter p forms ++ (if p form then form ∷ [] else [])
        → filter p (first ∷ (forms ++ form ∷ [])) ≡ filter p (first ∷ forms) ++ (if p form then form ∷ [] else [])
    go true e more = rw e (ap (λ l. first ∷ l) more)
    go false e more = rw e more

append-none : (forms : List Text) → forms ++ [] ≡ forms
append-none [] = refl
append-none (form ∷ forms) = ap (λ l. form ∷ l) (append-none forms)

-- the forms so far and one more
begun_next : (front : Text) (forms : List Text) (form : Text) (b : Bool) → starts_with nat_eq form front ≡ b
    → begun_of (beginning front (forms ++ form ∷ [])) ≡ (if b then joined (begun_of (beginning front forms)) form else begun_of (beginning front forms))
begun_next front forms form true is =
    ap begun_of (filter_push (λ other. starts_with nat_eq other front) forms form ∙ ap (λ (t : Bool). beginning front forms ++ (if t then form ∷ [] else [])) is)
    ∙ begun_push (beginning front forms) form
begun_next front forms form false is =
    ap begun_of (filter_push (λ other. starts_with nat_eq other front) forms form ∙ ap (λ (t : Bool). beginning front forms ++ (if t then form ∷ [] else [])) is ∙ append-none (beginning front forms))

pub begun_more : (front : Text) (forms : List (Bor (List ℕ))) (i : ℕ) (d : Bor (List ℕ)) (b : Bool) → i < length forms → starts_with nat_eq (get_or forms i d).now front ≡ b
    → begun_of (beginning front (map (λ form. form.now) (take (i + 1) forms)))
    ≡ (if b then joined (begun_of (beginning front (map (λ form. form.now) (take i forms)))) (get_or forms i d).now else begun_of (beginning front (map (λ form. form.now) (take i forms))))
begun_more front forms i d b below is =
    ap (λ l. begun_of (beginning front l)) (map_more (λ form. form.now) forms i d below) ∙ begun_next front (map (λ form. form.now) (take i forms)) (get_or forms i d).now b is

-- ---- what is said

pub value_from-step : (name : Text) (adds : Bool) (before : Option Text) (said : List (Saying (Bor (List ℕ)))) (i : ℕ) (d : Saying (Bor (List ℕ))) → i < length said
    → value_from name adds before (map saying_in (drop i said)) ≡ value_from name adds (value_after name adds before (saying_in (get_or said i d))) (map saying_in (drop (i + 1) said))
value_from-step name adds before said i d below = at_drop_more (λ rest. value_from name adds before (map saying_in rest)) said i d below

pub value_from-end : (name : Text) (adds : Bool) (before : Option Text) (said : List (Saying (Bor (List ℕ)))) (i : ℕ) → length said ≤ i → value_from name adds before (map saying_in (drop i said)) ≡ before
value_from-end name adds before said i past = at_drop_all (λ rest. value_from name adds before (map saying_in rest)) said i past

pub first_unread-step : (said : List (Saying (Bor (List ℕ)))) (i : ℕ) (d : Saying (Bor (List ℕ))) → i < length said
    → first_unread (map saying_in (drop i said)) ≡ first_unread (saying_in (get_or said i d) ∷ map saying_in (drop (i + 1) said))
first_unread-step said i d below = at_drop_more (λ rest. first_unread (map saying_in rest)) said i d below

pub first_unread-end : (said : List (Saying (Bor (List ℕ)))) (i : ℕ) → length said ≤ i → first_unread (map saying_in (drop i said)) ≡ None
first_unread-end said i past = at_drop_all (λ rest. first_unread (map saying_in rest)) said i past

pub first_start-step : (said : List (Saying (Bor (List ℕ)))) (i : ℕ) (d : Saying (Bor (List ℕ))) → i < length said
    → first_start (map saying_in (drop i said)) ≡ first_start (saying_in (get_or said i d) ∷ map saying_in (drop (i + 1) said))
first_start-step said i d below = at_drop_more (λ rest. first_start (map saying_in rest)) said i d below

pub first_start-end : (said : List (Saying (Bor (List ℕ)))) (i : ℕ) → length said ≤ i → first_start (map saying_in (drop i said)) ≡ None
first_start-end said i past = at_drop_all (λ rest. first_start (map saying_in rest)) said i past
