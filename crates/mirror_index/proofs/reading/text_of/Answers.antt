-- The first line, the lines of the entries, and the last.
use Rattle.std.proofs.Common.{◌≡◌, ◌∙◌, ◌++◌, ◌∷◌, [], length, ap, sym}
use Rattle.mirror_index.specs.Entries.{Text}
use Rattle.mirror_index.specs.Indexes.{end_text, first_line, lines}
use Rattle.mirror_index.proofs.ReadLaws.{lines_before}
use Rattle.mirror_index.proofs.reading.text_of.Goals as goal

pub returns : goal.returns
returns c =
    let es = c.args.entries.now in
    let front : c.push_lines.new.text.items ≡ first_line ++ 10 ∷ lines es [] =
    c.in_ok-push_lines.ensures
    ∙ ap (λ (t : Text). t ++ lines es []) (c.in_ok-push.ensures.items ∙ ap (λ (t : Text). t ++ 10 ∷ []) (c.in_ok-extend_from_slice.ensures.items ∙ ap (λ (t : Text). t ++ first_line) c.new-text.ensures.items)) in
    let last : c.as_bytes.result.now ≡ end_text (length es) = c.as_bytes.ensures.value ∙ c.in_ok-last.ensures.ok in
    c.in_ok-extend_from_slice-2.ensures.items ∙ ap (λ (t : Text). t ++ c.as_bytes.result.now) front ∙ ap (λ (t : Text). (first_line ++ 10 ∷ lines es []) ++ t) last
    ∙ ap (λ (t : Text). first_line ++ 10 ∷ t) (sym (lines_before es (end_text (length es))))
