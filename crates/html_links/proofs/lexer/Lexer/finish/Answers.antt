use Rattle.std.proofs.Common.{◌∙◌, [], ◌++◌, ap}
use Rattle.html_links.specs.Lexing.{remaining, remaining_in, in_markup}
use Rattle.html_links.proofs.RawText.{raw_at_end}
use Rattle.html_links.proofs.Stepping.{start_tag_cut, end_tag_cut, slash_ends, declaration_ends, comment_ends, start_ends}
use Rattle.html_links.proofs.Tagging.{handed_end}
use Rattle.html_links.proofs.lexer.Lexer.finish.Goals as goal

pub returns-in-EndTagOpen-clause-ends : goal.returns-in-EndTagOpen-clause-ends
returns-in-EndTagOpen-clause-ends c =
    let l = c.args.self.now in
    handed_end (remaining l []) (in_markup l []) c.end_markup.new.self c.end_markup.result (ap (λ mode. remaining_in mode l []) c.in-EndTagOpen.is ∙ slash_ends l) c.end_markup.ensures.ends

pub returns-in-MarkupDeclarationOpen-clause-ends : goal.returns-in-MarkupDeclarationOpen-clause-ends
returns-in-MarkupDeclarationOpen-clause-ends c =
    let l = c.args.self.now in
    handed_end (remaining l []) (in_markup l []) c.end_markup-in-MarkupDeclarationOpen.new.self c.end_markup-in-MarkupDeclarationOpen.result (ap (λ mode. remaining_in mode l []) c.in-MarkupDeclarationOpen.is ∙ declaration_ends l) c.end_markup-in-MarkupDeclarationOpen.ensures.ends

pub returns-in-MarkupDeclarationDash-clause-ends : goal.returns-in-MarkupDeclarationDash-clause-ends
returns-in-MarkupDeclarationDash-clause-ends c =
    let l = c.args.self.now in
    handed_end (remaining l []) (in_markup l []) c.end_markup-in-MarkupDeclarationDash.new.self c.end_markup-in-MarkupDeclarationDash.result (ap (λ mode. remaining_in mode l []) c.in-MarkupDeclarationDash.is ∙ comment_ends l) c.end_markup-in-MarkupDeclarationDash.ensures.ends

pub returns-in-MarkupDeclarationCData-clause-ends : goal.returns-in-MarkupDeclarationCData-clause-ends
returns-in-MarkupDeclarationCData-clause-ends c =
    let l = c.args.self.now in
    handed_end (remaining l []) (in_markup l []) c.end_markup-in-MarkupDeclarationCData.new.self c.end_markup-in-MarkupDeclarationCData.result (ap (λ mode. remaining_in mode l []) c.in-MarkupDeclarationCData.is ∙ start_ends l c.in-MarkupDeclarationCData.field-0) c.end_markup-in-MarkupDeclarationCData.ensures.ends

pub returns-in-TagName-clause-ends : goal.returns-in-TagName-clause-ends
returns-in-TagName-clause-ends c =
    let l = c.args.self.now in
    ap (λ mode. remaining_in mode l []) c.in-TagName.is ∙ start_tag_cut l.context (l.name.items ++ [])

pub returns-in-EndTagName-clause-ends : goal.returns-in-EndTagName-clause-ends
returns-in-EndTagName-clause-ends c =
    let l = c.args.self.now in
    ap (λ mode. remaining_in mode l []) c.in-EndTagName.is ∙ end_tag_cut l.context (l.name.items ++ [])

pub returns-in-RawText-clause-ends : goal.returns-in-RawText-clause-ends
returns-in-RawText-clause-ends c =
    let l = c.args.self.now in
    ap (λ mode. remaining_in mode l []) c.in-RawText.is ∙ raw_at_end l.context c.in-RawText.field-0 c.in-RawText.field-1
