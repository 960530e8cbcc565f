-- The innermost of what is open is what was put down last.
use Rattle.std.proofs.Common.{◌≡◌, ℕ, ◌-◌, ◌+◌, ◌<◌, Bool, true, false, List, [], ◌∷◌, ◌++◌, Option, Some, None, MatchOption, length, reverse, refl, sym, ◌∙◌, ap, arith, if◌then◌else◌}
use Rattle.std.proofs.lemmas.List.{reverse-append, reverse-reverse, length-append}
use Rattle.std.specs.Prelude.{slice_get, option_to_list, is_some, codes, ◌||◌}
use Rattle.std.specs.Str.{bytes_eq}
use Rattle.std.specs.List.{list_any}
use Rattle.html_links.specs.Contexts.{Context, reads_html, is_xml, breakouts, broken, left, is_scope, innermost, outer, is_foreign, is_html_within, without_foreign}
use Rattle.html_links.specs.declared.context.Scope.{Scope}

at_end : (xs : List Scope) (s : Scope) → slice_get (xs ++ s ∷ []) (length xs) ≡ Some s
at_end [] s = refl
at_end (x ∷ xs) s = at_end xs s

length_end : (xs : List Scope) (s : Scope) → length (xs ++ s ∷ []) - 1 ≡ length xs
length_end xs s = omega (arith, length-append xs (s ∷ []))

last_of : (xs ys : List Scope) → xs ≡ reverse ys → slice_get xs (length xs - 1) ≡ innermost ys
last_of xs [] e = rw e refl
last_of xs (y ∷ ys) e =
    let is : xs ≡ reverse ys ++ y ∷ [] = e ∙ reverse-append (y ∷ []) ys in
    rw (is, length_end (reverse ys) y) (at_end (reverse ys) y)

pub last_is_innermost : (xs : List Scope) → slice_get xs (length xs - 1) ≡ innermost (reverse xs)
last_is_innermost xs = last_of xs (reverse xs) (sym (reverse-reverse xs))

pub popped : (old new : List Scope) (r : Option Scope) (n m : ℕ) → n ≡ length old → old ≡ new ++ option_to_list r → MatchOption r ((n ≡ 0) × (m ≡ 0)) (λ _. m + 1 ≡ n)
    → reverse new ≡ outer (reverse old)
popped [] [] None n m is e h = refl
popped [] (s ∷ new) None n m is e h = absurd (cc)
popped (s ∷ old) new None n m is e h = let none : n ≡ 0 = h.0 in absurd (omega arith)
popped old new (Some s) n m is e h = sym (ap (λ xs. outer (reverse xs)) e ∙ ap outer (reverse-append new (s ∷ [])))

-- an element that is foreign doesn't count
pub foreign_ended : (scopes : List Scope) → is_html_within (innermost scopes) ≡ false → without_foreign (outer scopes) ≡ without_foreign scopes
foreign_ended [] h = absurd (cc)
foreign_ended (s ∷ scopes) h = go (is_foreign s) h where
  go : (t : Bool) → (if t then false else true) ≡ false → without_foreign scopes ≡ (if t then without_foreign scopes else s ∷ scopes)
  go true h = refl
  go false h = absurd (cc)

pub none_foreign : (scopes : List Scope) → is_html_within (innermost scopes) ≡ true → without_foreign scopes ≡ scopes
none_foreign [] h = refl
none_foreign (s ∷ scopes) h = go (is_foreign s) h where
  go : (t : Bool) → (if t then false else true) ≡ true → (if t then without_foreign scopes else s ∷ scopes) ≡ s ∷ scopes
  go true h = absurd (cc)
  go false h = refl

pub fewer : (scopes : List Scope) → is_html_within (innermost scopes) ≡ false → length (outer scopes) < length scopes
fewer [] h = absurd (cc)
fewer (s ∷ scopes) h = omega arith

-- if the rules of HTML hold, no tag ends foreign content
pub not_broken : (name : List ℕ) (k : Context) → reads_html k ≡ true → broken name k ≡ k
unfolding broken
not_broken name k h = go (list_any (λ b. bytes_eq name b) breakouts) (within (is_xml k.syntax) h) where
  within : (t : Bool) → (if t then false else is_html_within (innermost k.scopes)) ≡ true → is_html_within (innermost k.scopes) ≡ true
  within true e = absurd (cc)
  within false e = e

  go : (t : Bool) → is_html_within (innermost k.scopes) ≡ true → (if t then record k { scopes = without_foreign k.scopes } else k) ≡ k
  go true e = ap (λ xs. record k { scopes = xs }) (none_foreign k.scopes e)
  go false e = refl

-- an end tag outside of all changes nothing
pub nothing_left : (name : List ℕ) (k : Context) → is_some (innermost k.scopes) ≡ false → left name k ≡ k
unfolding left
nothing_left name k h = go k.scopes h (bytes_eq name (codes "p") || bytes_eq name (codes "br")) where
  go : (scopes : List Scope) → is_some (innermost scopes) ≡ false → (t : Bool)
      → (if t then record k { scopes = without_foreign scopes } else if is_scope name (innermost scopes) then record k { scopes = outer scopes } else record k { scopes = scopes })
      ≡ record k { scopes = scopes }
  go [] e true = refl
  go [] e false = refl
  go (s ∷ scopes) e t = absurd (cc)
