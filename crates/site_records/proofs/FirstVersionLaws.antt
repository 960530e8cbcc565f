-- What notes have for the robots entries of version 1: chains of one hop with the same rules.
use Rattle.std.proofs.Common.{◌≡◌, ℕ, ◌<◌, ◌≤◌, ◌++◌, ◌∙◌, min, Result, Err, IfOk, Bool, true, false, cond, List, [], ◌∷◌, Some, None, Ok, refl, ap, inl, inr, length, take, arith, length-append}
use Rattle.std.specs.Prelude.{fold, map, nat_lt, not}
use Rattle.std.specs.List.{list_all, slice_split, filter_map, before_last}
use Rattle.std.specs.Char.{is_ascii_digit}
use Rattle.std.proofs.lemmas.Bool.{cases_lt, lt-ltb}
use Rattle.std.proofs.lemmas.List.{take_all, take-take, take_min, length-take}
use Rattle.std.proofs.lemmas.List.Elements.{All-nil}
use Rattle.std.proofs.lemmas.List.Sums.{AllPass-from_list_all}
use Rattle.httparse.specs.Grammar.{IsField, crlf, is_value_byte, ResponseHead, IsResponseHead, print_response}
use Rattle.answer_notes.specs.RobotsAnswers.{rules_by_status, all_allowed, none_allowed}
use Rattle.answer_notes.specs.Received.{received_rules}
use Rattle.answer_notes.specs.declared.received.Received.TheVariants.{Whole}
use Rattle.response_reader.specs.Fields.{framing_of, parts_of}
use Rattle.response_reader.specs.declared.limits.TheConstants.{MAX_BODY}
use Rattle.response_reader.specs.Response.{ResponseParts, CanBeGiven}
use Rattle.robots_rules.specs.Lines.{is_line_end, used, without_mark, lines_in, line_of}
use Rattle.robots_rules.specs.Groups.{rules_in, stated_in, rule_of, rules_for_us, groups_of, with_rule}

-- ---- a response without fields can be given

abbrev head_of : ℕ → ℕ → ℕ → ResponseHead
head_of a b c = record { blank = []; minor = 1; digits = a ∷ b ∷ c ∷ []; reason = Some []; line_end = crlf; fields = []; last = crlf }

abbrev pub bare : ℕ → List ℕ → ResponseParts
bare status body = record { head = record { status = status; content_type = None; coded = false; location = None; retry_after = None; last_modified = None; etag = None }; body = body }

bare_head : (a b c : ℕ) → list_all is_ascii_digit (a ∷ b ∷ c ∷ []) ≡ true → IsResponseHead (head_of a b c)
bare_head a b c all = record {
  minor = omega arith;
  digits = (refl, AllPass-from_list_all is_ascii_digit (a ∷ b ∷ c ∷ []) all);
  reason = All-nil (λ (x : ℕ). is_value_byte x ≡ true);
  fields = All-nil IsField;
}

short_print : (a b c : ℕ) → length (print_response (head_of a b c)) ≤ 65536
unfolding print_response
short_print a b c = omega arith

-- a file
pub file_can_be_given : (body : List ℕ) → length body ≤ MAX_BODY → CanBeGiven (bare 200 body)
unfolding parts_of framing_of
file_can_be_given body few =
    let head = head_of 50 48 48 in
    let text = print_response head in
    let long = length-append text body in
    let short = short_print 50 48 48 in (
      text ++ body,
      (
        [],
        record {
          framing = _;
          after = body;
          heads = record {
            last = head;
            heads = record { tail = text ++ body; due = ([], refl); reads = (bare_head 50 48 48 refl, refl); final = omega arith; fields = omega arith; within = omega (arith, long, short) };
            head_is = refl;
            framed = refl;
          };
          body = (refl, refl);
          body_len = few;
          len = omega (arith, long, short, few);
        },
      ),
    )

-- and that there is none
pub missing_can_be_given : (body : List ℕ) → length body ≤ MAX_BODY → CanBeGiven (bare 404 body)
unfolding parts_of framing_of
missing_can_be_given body few =
    let head = head_of 52 48 52 in
    let text = print_response head in
    let long = length-append text body in
    let short = short_print 52 48 52 in (
      text ++ body,
      (
        [],
        record {
          framing = _;
          after = body;
          heads = record {
            last = head;
            heads = record { tail = text ++ body; due = ([], refl); reads = (bare_head 52 48 52 refl, refl); final = omega arith; fields = omega arith; within = omega (arith, long, short) };
            head_is = refl;
            framed = refl;
          };
          body = (refl, refl);
          body_len = few;
          len = omega (arith, long, short, few);
        },
      ),
    )

-- ---- of a robots file no more is looked at than its first bytes

used_front : (file : List ℕ) → used (take 512001 file) ≡ used file
unfolding used
used_front file =
    elim (cases_lt 512000 (length file)) [
      | inl long ↦ longer long
      | inr short ↦ ap (λ f. cond (nat_lt 512000 (length f)) (before_last is_line_end (without_mark (take 512000 f))) (without_mark f)) (take_all 512001 file (omega (arith, short)))
    ]
  where
    longer : 512000 < length file
        → cond (nat_lt 512000 (length (take 512001 file))) (before_last is_line_end (without_mark (take 512000 (take 512001 file)))) (without_mark (take 512001 file))
        ≡ cond (nat_lt 512000 (length file)) (before_last is_line_end (without_mark (take 512000 file))) (without_mark file)
    longer long =
        let front : 512000 < length (take 512001 file) = let k = length-take 512001 file in omega (arith, k, long) in
        rw (lt-ltb 512000 (length (take 512001 file)) front, lt-ltb 512000 (length file) long) (ap (λ f. before_last is_line_end (without_mark f)) (take-take 512000 512001 file (omega arith)))

lines_front : (file : List ℕ) → lines_in (take 512001 file) ≡ lines_in file
unfolding lines_in
lines_front file = ap (λ u. filter_map line_of (slice_split is_line_end u)) (used_front file)

stated_front : (file : List ℕ) → stated_in (take 512001 file) ≡ stated_in file
unfolding stated_in
stated_front file = ap (λ l. map rule_of (rules_for_us (groups_of l).groups)) (lines_front file)

pub rules_front : (file : List ℕ) → rules_in (take 512001 file) ≡ rules_in file
unfolding rules_in
rules_front file = ap (λ s. record { closed = false; rules = fold with_rule [] s }) (stated_front file)

-- ---- the rules of these chains

-- the first bytes of a file, taken for the answer, are its rules
pub file_rules : (r : ResponseParts) (body file : List ℕ) (n : ℕ) → r ≡ bare 200 body → body ≡ take n file → n ≡ min 512001 (length file) → received_rules (Whole r) ≡ rules_in file
unfolding rules_by_status
file_rules r body file n is front kept =
    ap (λ (r : ResponseParts). received_rules (Whole r)) is ∙ ap rules_in (front ∙ ap (λ k. take k file) kept ∙ take_min 512001 file) ∙ rules_front file

-- a file that isn't there allows everything
pub missing_rules : (r : ResponseParts) (body : List ℕ) → r ≡ bare 404 body → received_rules (Whole r) ≡ all_allowed
unfolding rules_by_status
missing_rules r body is = ap (λ (r : ResponseParts). received_rules (Whole r)) is

-- what follows of the value of a call
pub if_ok : {T E : Type 0} {P Q : T → Type 0} (r : Result T E) → ((x : T) → P x → Q x) → IfOk r P → IfOk r Q
if_ok (Ok x) f p = f x p
if_ok (Err e) f p = p

-- ---- what forbids all

-- no file does
pub file_is_open : (file : List ℕ) → (rules_in file).closed ≡ false
unfolding rules_in
file_is_open file = refl

pub bare_is_closed : (allowed : Bool) → (cond allowed all_allowed none_allowed).closed ≡ not allowed
bare_is_closed true = refl
bare_is_closed false = refl
