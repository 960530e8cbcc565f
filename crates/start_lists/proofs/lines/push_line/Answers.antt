-- A line is passed over, has its start, or is bad.
use Rattle.std.proofs.Common.{◌∙◌, [], List, Option, option_map, subst, sym, rules}
use Rattle.std.specs.Prelude.{OnOk}
use Rattle.address.specs.Address.{AddressText}
use Rattle.start_lists.specs.inner.Lines.{Adds}
use Rattle.start_lists.proofs.LineLaws.{passed, unpassed}
use Rattle.start_lists.proofs.lines.push_line.Goals as goal

pub returns-then-is_passed-clause-good : goal.returns-then-is_passed-clause-good
returns-then-is_passed-clause-good c =
    let said = passed c.args.by_proxy (option_map (λ b. b.now) c.args.base) c.args.line.now c.trimmed-line.result.now c.trimmed-line.ensures (sym c.is_passed.ensures ∙ c.if-is_passed.true) in
    ([], said, search rules)

pub returns-in-Ok-clause-good : goal.returns-in-Ok-clause-good
returns-in-Ok-clause-good c =
    let said = unpassed c.args.by_proxy (option_map (λ b. b.now) c.args.base) c.args.line.now c.trimmed-line.result.now c.trimmed-line.ensures (sym c.is_passed.ensures ∙ c.if-is_passed.false) c.in-Ok.named c.in-Ok.ensures in
    subst (λ (o : Option (List AddressText)). OnOk c.push_start.result (Adds o c.args.starts.now.items c.push_start.new.starts.items)) (sym said) c.push_start.ensures.good

pub returns-in-Ok-clause-bad : goal.returns-in-Ok-clause-bad
returns-in-Ok-clause-bad c =
    let said = unpassed c.args.by_proxy (option_map (λ b. b.now) c.args.base) c.args.line.now c.trimmed-line.result.now c.trimmed-line.ensures (sym c.is_passed.ensures ∙ c.if-is_passed.false) c.in-Ok.named c.in-Ok.ensures in
    search (rules, said, c.push_start.ensures.bad)
