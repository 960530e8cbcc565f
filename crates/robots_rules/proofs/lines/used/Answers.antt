use Rattle.std.proofs.Common.{◌∙◌, length, ap, sym}
use Rattle.std.proofs.lemmas.Bool.{cond-true, cond-false, le-ltb, lt-ltb}
use Rattle.std.specs.List.{before_last}
use Rattle.robots_rules.specs.Lines.{MAX_BYTES, is_line_end, used, without_mark}
use Rattle.robots_rules.proofs.lines.used.Goals as goal

pub returns-then-file-le-MAX_BYTES : goal.returns-then-file-le-MAX_BYTES
unfolding used
returns-then-file-le-MAX_BYTES c =
    c.without_mark.ensures ∙ sym (cond-false _ _ _ (le-ltb MAX_BYTES (length c.args.file.now) c.if-file-le-MAX_BYTES.true))

pub returns : goal.returns
unfolding used
returns c =
    c.without_last_line.ensures
    ∙ ap (before_last is_line_end) (c.without_mark-2.ensures ∙ ap without_mark c.split_at.ensures.front)
    ∙ sym (cond-true _ _ _ (lt-ltb MAX_BYTES (length c.args.file.now) c.if-file-le-MAX_BYTES.false))
