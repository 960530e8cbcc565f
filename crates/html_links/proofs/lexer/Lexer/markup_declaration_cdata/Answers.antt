use Rattle.std.proofs.Common.{◌≤◌, ◌<◌, ◌∷◌, ◌∙◌, sym, length, arith, add-one}
use Rattle.std.proofs.lemmas.List.{get_or_read}
use Rattle.std.proofs.lemmas.Bool.Decides.{nat_tests}
use Rattle.html_links.specs.Markup.{section_text}
use Rattle.html_links.specs.Lexing.{in_markup_declaration_cdata, in_section}
use Rattle.html_links.specs.declared.lexer.Section.TheVariants.{CData}
use Rattle.html_links.proofs.Tagging.{handed}
use Rattle.html_links.proofs.Stepping.{declaration_cdata_next, declaration_cdata_other, section_started}
use Rattle.html_links.proofs.lexer.Lexer.markup_declaration_cdata.Goals as goal

pub returns-in-None : goal.returns-in-None
returns-in-None c =
    let none = c.in-None.ensures.lookup in
    let all : length section_text ≤ c.args.matched = grind (arith, nat_tests) in
    handed (in_markup_declaration_cdata c.args.self.now c.args.matched) (in_section c.args.self.now CData) c.args.byte c.section.new.self c.section.result
    (λ rest. section_started c.args.self.now c.args.matched (c.args.byte ∷ rest) all) c.section.ensures

pub returns-then-byte-expected : goal.returns-then-byte-expected
returns-then-byte-expected c =
    let some = c.in-Some.ensures.lookup in
    let within : c.args.matched < length section_text = grind (arith, nat_tests) in
    λ rest. rw add-one (declaration_cdata_next c.args.self.now c.args.matched c.args.byte rest within (c.if-byte-expected.true ∙ get_or_read section_text _ _ within some.1 0))

pub returns-else-byte-expected : goal.returns-else-byte-expected
returns-else-byte-expected c =
    let some = c.in-Some.ensures.lookup in
    let within : c.args.matched < length section_text = grind (arith, nat_tests) in
    λ rest. declaration_cdata_other c.args.self.now c.args.matched c.args.byte rest within (λ same. c.if-byte-expected.false (same ∙ sym (get_or_read section_text _ _ within some.1 0))) ∙ c.bogus_comment.ensures rest
