-- No head ends among bytes in which no line ends.
use Rattle.std.proofs.Common.{◌≡◌, ℕ, ◌<◌, ◌≤◌, ◌⊎◌, true, List, [], ◌∷◌, ◌++◌, length, flat_map, refl, sym, ap, ◌∙◌, arith, append_assoc, length-append, inl, inr}
use Rattle.std.specs.Prelude.{◌==◌}
use Rattle.std.specs.List.{list_any}
use Rattle.std.proofs.lemmas.Bool.{cases_lt}
use Rattle.std.proofs.lemmas.List.{append_cancel_left}
use Rattle.std.proofs.lemmas.List.Folds.{list_any-append}
use Rattle.std.proofs.Math.Bool.{or-true}
use Rattle.httparse.specs.Ascii.{line_feed, carriage_return, space}
use Rattle.httparse.specs.Grammar.{LineEnd, ResponseHead, HasNoResponse, print_response, print_end, print_blank, print_version, print_reason, print_field}
use Rattle.httparse.specs.Grammar.LineEnd.{crlf, lf}
use Rattle.response_reader.specs.inner.Fills.{HasNoLineEnd, line_end}
use Rattle.response_reader.proofs.HeadStageLemmas.{front_in}

end_of : (e : LineEnd) → (front : List ℕ) × (print_end e ≡ front ++ (line_feed ∷ []))
end_of crlf = (carriage_return ∷ [], refl)
end_of lf = ([], refl)

text_ends : (a b : List ℕ) (last : LineEnd) → (front : List ℕ) × (a ++ (b ++ print_end last) ≡ front ++ (line_feed ∷ []))
text_ends a b last =
    let e = end_of last in (
      a ++ (b ++ e.0),
      ap (λ (l : List ℕ). a ++ (b ++ l)) e.1 ∙ ap (λ (l : List ℕ). a ++ l) (sym (append_assoc b e.0 (line_feed ∷ [])))
          ∙ sym (append_assoc a (b ++ e.0) (line_feed ∷ [])),
    )

head_ends : (h : ResponseHead) → (front : List ℕ) × (print_response h ≡ front ++ (line_feed ∷ []))
unfolding print_response
head_ends h =
    text_ends (print_blank h.blank ++ print_version h.minor ++ space ∷ h.digits ++ print_reason h.reason ++ print_end h.line_end)
    (flat_map print_field h.fields) h.last

-- if the bytes that were there had no head, they have none with bytes in which no line ends
pub no_head_more : (first new : List ℕ) → HasNoResponse first → HasNoLineEnd first new → HasNoResponse new
no_head_more first new none x h rest reads = by (cases_lt (length first) (length (print_response h)))
  where
    e : (front : List ℕ) × (print_response h ≡ front ++ (line_feed ∷ []))
    e = head_ends h

    text : first ++ x.got ≡ print_response h ++ rest
    text = sym x.unread ∙ reads.1

    in_got : (q : List ℕ) → x.got ≡ q ++ (line_feed ∷ rest) → ⊥
    in_got q is =
        let found : list_any (λ (b : ℕ). b == line_end) x.got ≡ true =
        ap (λ (l : List ℕ). list_any (λ (b : ℕ). b == line_end) l) is
        ∙ list_any-append (λ (b : ℕ). b == line_end) q (line_feed ∷ rest)
        ∙ or-true (list_any (λ (b : ℕ). b == line_end) q) in
        let never = x.none in
        cc

    by : (length first < length (print_response h)) ⊎ (length (print_response h) ≤ length first) → ⊥
    by (inr short) =
        let found = front_in (print_response h) rest first x.got (sym text) short in
        none h found.0 (reads.0, found.1)
    by (inl long) =
        let len = ap (λ (l : List ℕ). length l) e.1 in
        let fits : length first ≤ length e.0 = omega (arith, len, long, length-append e.0 (line_feed ∷ [])) in
        let whole : first ++ x.got ≡ e.0 ++ (line_feed ∷ rest) =
        text ∙ ap (λ (l : List ℕ). l ++ rest) e.1 ∙ append_assoc e.0 (line_feed ∷ []) rest in
        let found = front_in first x.got e.0 (line_feed ∷ rest) whole fits in
        in_got found.0 (append_cancel_left first x.got (found.0 ++ (line_feed ∷ rest))
        (whole ∙ ap (λ (l : List ℕ). l ++ (line_feed ∷ rest)) found.1 ∙ append_assoc first found.0 (line_feed ∷ rest)))
