-- A line is the word, the columns of both addresses, and its end.
use Rattle.std.proofs.Common.{◌≡◌, lit<, ap, ◌∙◌, ◌++◌, List, ℕ}
use Rattle.std.specs.String.{string_bytes}
use Rattle.std.specs.Char.{encode_utf8}
use Rattle.std.proofs.lemmas.Result.{on_ok_weaker}
use Rattle.rejected_links.specs.Lines.{columns}
use Rattle.rejected_links.specs.Reasons.{word_of}
use Rattle.rejected_links.proofs.LineLaws.{joined, on_ok_pushed}
use Rattle.rejected_links.proofs.line.push_line.Goals as goal

pub returns-clause-ok : goal.returns-clause-ok
returns-clause-ok c =
    let before = string_bytes c.args.text.now in
    let word = c.in_ok-push_str.ensures.bytes ∙ ap (λ (w : List ℕ). before ++ w) c.word-reason.ensures in
    on_ok_weaker c.push.result
    (λ (end : string_bytes c.push.new.self ≡ string_bytes c.push_columns-2.new.text ++ encode_utf8 10). end ∙ ap (λ (n : List ℕ). string_bytes c.push_columns-2.new.text ++ n) (c.push.ensures.ascii (lit< tt))
    ∙ joined before _ _ _ (word_of c.args.link.now.reason) (columns c.args.link.now.target.now) (columns c.args.link.now.page.now) _ word c.in_ok-push_columns.ensures.ok c.in_ok-push_columns-2.ensures.ok)
    (on_ok_pushed c.push.result (string_bytes c.push.new.self) (string_bytes c.push_columns-2.new.text) (encode_utf8 10) c.push.ensures.bytes)
