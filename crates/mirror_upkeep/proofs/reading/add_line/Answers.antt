-- A line says a page, an answer or nothing.
use Rattle.std.proofs.Common.{◌≡◌, ◌∙◌, Global, Vec, ap, option_map, sym, ℕ}
use Rattle.mirror_index.specs.Entries.{Entry, entry_line, text_line}
use Rattle.mirror_upkeep.proofs.ReadingLaws.{answer_added, items, page_added, some_at}
use Rattle.mirror_upkeep.proofs.reading.add_line.Goals as goal

pub returns-in-Some : goal.returns-in-Some
returns-in-Some c =
    page_added c.args.read.now c.add_page.new.read c.args.line.now c.in-Some.entry (some_at (λ (e : Entry). c.args.line.now ≡ entry_line e) c.in_ok-page.page c.in-Some.entry c.in-Some.is c.in_ok-page.ensures.is)
    (λ x entry same. sym c.in-Some.is ∙ c.in_ok-page.ensures.back x entry same) c.in_ok-add_page.ensures

pub returns-in-Some-answer : goal.returns-in-Some-answer
returns-in-Some-answer c =
    answer_added c.args.read.now c.add_answer.new.read c.args.line.now c.in-Some-answer.answer
    (some_at (λ (v : Vec ℕ Global). c.args.line.now ≡ text_line v.items) c.in_ok-answer.answer c.in-Some-answer.answer c.in-Some-answer.is c.in_ok-answer.ensures.is)
    (λ t same. sym (ap (option_map items) c.in-Some-answer.is) ∙ c.in_ok-answer.ensures.back t same) c.in_ok-add_answer.ensures
