use Rattle.std.proofs.Common.{◌≡◌, ◌≤◌, ◌<◌, ◌∙◌, sym, ap, length, get_or, arith, add-one}
use Rattle.std.proofs.lemmas.List.{get_or_read}
use Rattle.std.proofs.lemmas.Bool.Decides.{nat_tests}
use Rattle.std.specs.Char.{to_ascii_lowercase}
use Rattle.css_links.specs.References.{fed}
use Rattle.html_links.specs.Markup.{closing_text, style}
use Rattle.html_links.specs.Lexing.{in_sheet, in_sheet_end_tag}
use Rattle.html_links.specs.inner.Lexing.{sheet_and_end}
use Rattle.html_links.proofs.Tagging.{handed}
use Rattle.html_links.proofs.Sheets.{sheet_ended, sheet_next, sheet_goes_on, sheet_broken}
use Rattle.html_links.proofs.lexer.Lexer.sheet_end_tag.Goals as goal

pub returns-then-ends_tag_name : goal.returns-then-ends_tag_name
returns-then-ends_tag_name c =
    let l = c.args.self.now in
    let none = c.in-None.ensures.lookup in
    let all : length c.closing.result.now ≤ c.args.matched = grind (arith, nat_tests) in
    let text : c.closing.result.now ≡ closing_text style = c.closing.ensures in
    let whole : length (closing_text style) ≤ c.args.matched = rw text at all in
    handed (in_sheet_end_tag l.context l.sheet.front l.held.items c.args.matched) (sheet_and_end l.context l.sheet.front) c.args.byte c.end_style.new.self c.end_style.result
    (λ rest. sheet_ended l.context l.sheet.front l.held.items c.args.matched c.args.byte rest whole (sym c.ends_tag_name.ensures ∙ c.if-ends_tag_name.true)) c.end_style.ensures

pub returns-in_ok-push-in-Some : goal.returns-in_ok-push-in-Some
returns-in_ok-push-in-Some c =
    let l = c.args.self.now in
    let some = c.in-Some.ensures.lookup in
    let front : c.args.matched < length c.closing.result.now = grind (arith, nat_tests) in
    let text : c.closing.result.now ≡ closing_text style = c.closing.ensures in
    let within : c.args.matched < length (closing_text style) = rw text at front in
    let next : to_ascii_lowercase c.args.byte ≡ get_or (closing_text style) c.args.matched 0 =
    sym c.to_ascii_lowercase.ensures.value ∙ c.if-to_ascii_lowercase-expected.true ∙ get_or_read c.closing.result.now _ _ front some.1 0 ∙ ap (λ xs. get_or xs c.args.matched 0) text in
    λ rest. rw (add-one, c.in_ok-push-in-Some.ensures.items) (sheet_next l.context l.sheet.front l.held.items c.args.matched c.args.byte rest within next)

pub returns-else-ends_tag_name : goal.returns-else-ends_tag_name
returns-else-ends_tag_name c =
    let l = c.args.self.now in
    let none = c.in-None.ensures.lookup in
    let all : length c.closing.result.now ≤ c.args.matched = grind (arith, nat_tests) in
    let text : c.closing.result.now ≡ closing_text style = c.closing.ensures in
    let whole : length (closing_text style) ≤ c.args.matched = rw text at all in
    handed (in_sheet_end_tag l.context l.sheet.front l.held.items c.args.matched) (in_sheet l.context (fed l.sheet.front l.held.items)) c.args.byte c.sheet_again.new.self c.sheet_again.result
    (λ rest. sheet_goes_on l.context l.sheet.front l.held.items c.args.matched c.args.byte rest whole (sym c.ends_tag_name.ensures ∙ c.if-ends_tag_name.false)) c.sheet_again.ensures

pub returns-else-to_ascii_lowercase-expected : goal.returns-else-to_ascii_lowercase-expected
returns-else-to_ascii_lowercase-expected c =
    let l = c.args.self.now in
    let some = c.in-Some.ensures.lookup in
    let front : c.args.matched < length c.closing.result.now = grind (arith, nat_tests) in
    let text : c.closing.result.now ≡ closing_text style = c.closing.ensures in
    let within : c.args.matched < length (closing_text style) = rw text at front in
    let read : c.in-Some.expected.now ≡ get_or (closing_text style) c.args.matched 0 = get_or_read c.closing.result.now _ _ front some.1 0 ∙ ap (λ xs. get_or xs c.args.matched 0) text in
    handed (in_sheet_end_tag l.context l.sheet.front l.held.items c.args.matched) (in_sheet l.context (fed l.sheet.front l.held.items)) c.args.byte c.sheet_again-else-to_ascii_lowercase-expected.new.self c.sheet_again-else-to_ascii_lowercase-expected.result
    (λ rest. sheet_broken l.context l.sheet.front l.held.items c.args.matched c.args.byte rest within (λ same. c.if-to_ascii_lowercase-expected.false (c.to_ascii_lowercase.ensures.value ∙ same ∙ sym read))) c.sheet_again-else-to_ascii_lowercase-expected.ensures
