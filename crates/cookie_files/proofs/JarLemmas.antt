-- Cookies that are read, and their order.
use Rattle.std.proofs.Common.{◌≡◌, ◌∙◌, ℕ, ◌+◌, ◌<◌, ◌≤◌, suc, Bool, cond, not, List, [], ◌∷◌, ◌++◌, length, take, drop, Option, Some, None, Result, Err, MatchOption, refl, sym, ap, arith, ⊎_elim}
use Rattle.std.proofs.lemmas.Bool.{cases_Bool, lt-ltb, le-ltb}
use Rattle.std.specs.Borrow.{Bor}
use Rattle.std.specs.Prelude.{nat_lt}
use Rattle.std.specs.List.{position_or_len, slice_split}
use Rattle.cookie_files.specs.Lines.{Cookie, Fields, Text, read_line}
use Rattle.cookie_files.specs.Jars.{by_line, is_feed, placed, read_lines, said_by}
use Rattle.cookie_files.specs.declared.fault.CookieFault.{CookieFault}
use Rattle.cookie_files.specs.declared.fault.CookieFault.TheVariants as fault
use Rattle.cookie_files.specs.declared.fault.CookieLineFault.{CookieLineFault}
use Rattle.cookie_files.specs.declared.cookies.TheConstants.{MAX_LINES}

-- a cookie is before the first that has a shorter path
pub placed_at : (cookie : Cookie) (cookies : List Cookie) (n : ℕ) → n ≡ position_or_len (λ other. nat_lt (length other.path) (length cookie.path)) cookies → take n cookies ++ cookie ∷ drop n cookies ≡ placed cookie cookies
placed_at cookie [] n is = rw is refl
placed_at cookie (first ∷ later) n is =
    let p : Cookie → Bool = λ other. nat_lt (length other.path) (length cookie.path) in
    ⊎_elim
    (λ yes.
    let here : n ≡ 0 = is ∙ ap (λ b. cond (not b) (1 + position_or_len p later) 0) yes in
    ap (λ k. take k (first ∷ later) ++ cookie ∷ drop k (first ∷ later)) here
    ∙ sym (ap (λ b. cond b (cookie ∷ first ∷ later) (first ∷ placed cookie later)) yes))
    (λ no.
    let behind : n ≡ suc (position_or_len p later) = is ∙ ap (λ b. cond (not b) (1 + position_or_len p later) 0) no ∙ omega arith in
    ap (λ k. take k (first ∷ later) ++ cookie ∷ drop k (first ∷ later)) behind
    ∙ ap (λ xs. first ∷ xs) (placed_at cookie later (position_or_len p later) refl)
    ∙ sym (ap (λ b. cond b (cookie ∷ first ∷ later) (first ∷ placed cookie later)) no))
    (cases_Bool (p first))

-- ---- lines

abbrev Jar : Type 0
Jar = Result (List Cookie) CookieFault

-- a text has a first line, whatever follows
pub first_line : (parts : List Text) (first : Text) (short : Text → Type 0) (o : Option (Bor Text)) → MatchOption o (parts ≡ first ∷ []) (λ r. (parts ≡ first ∷ slice_split is_feed r.now) × short r.now) → (others : List Text) × (parts ≡ first ∷ others)
first_line parts first short None cut = ([], cut)
first_line parts first short (Some r) cut = (slice_split is_feed r.now, cut.0)

-- a line that is one too many
pub too_many : (number : ℕ) (cookies : List Cookie) (lines : List Text) (line : Text) (others : List Text) → lines ≡ line ∷ others → MAX_LINES < number → read_lines number cookies lines ≡ Err fault.TooManyLines
too_many number cookies lines line others are more =
    ap (read_lines number cookies) are
    ∙ ap (λ b. cond b (Err fault.TooManyLines) (by_line number (read_line line) (λ said. read_lines (number + 1) (said_by cookies said) others))) (lt-ltb MAX_LINES number more)

-- a line, and the others
pub one_more : (number : ℕ) (cookies : List Cookie) (lines : List Text) (line : Text) (others : List Text) (said : Result (Option Fields) CookieLineFault) → lines ≡ line ∷ others → number ≤ MAX_LINES → read_line line ≡ said → read_lines number cookies lines ≡ by_line number said (λ s. read_lines (number + 1) (said_by cookies s) others)
one_more number cookies lines line others said are few is =
    ap (read_lines number cookies) are
    ∙ ap (λ b. cond b (Err fault.TooManyLines) (by_line number (read_line line) (λ s. read_lines (number + 1) (said_by cookies s) others))) (le-ltb MAX_LINES number few)
    ∙ ap (λ r. by_line number r (λ s. read_lines (number + 1) (said_by cookies s) others)) is
