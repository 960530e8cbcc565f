use Rattle.std.proofs.Common.{ap, ap₂, ◌∙◌, ◌++◌, arith}
use Rattle.css_links.specs.References.{front, fed}
use Rattle.css_links.specs.Scanning.{seen_of}
use Rattle.css_links.proofs.Passing.{quiet_without_words, quiet_with_words}
use Rattle.css_links.proofs.machine.Machine.quiet_run.Goals as goal

pub returns-then-is_empty-clause-gives : goal.returns-then-is_empty-clause-gives
returns-then-is_empty-clause-gives c =
    quiet_without_words c.args.self.now.raw.items (seen_of c.args.self.now) c.split_quiet.result.0.now c.split_quiet.result.1.now c.args.text.now c.split_end.result.0.now
    c.split_quiet.ensures.front c.split_quiet.ensures.left c.split_end.ensures.front (grind arith)

pub returns-clause-gives : goal.returns-clause-gives
returns-clause-gives c =
    let raw = c.in_ok-extend_from_slice.ensures.items ∙ ap (λ xs. xs ++ c.split_end-2.result.1.now) c.clear.ensures.items in
    ap₂ (λ p text. fed (front p text (seen_of c.args.self.now)) c.split_quiet.result.1.now) c.place_after-self.ensures raw
    ∙ quiet_with_words c.args.self.now.raw.items (seen_of c.args.self.now) c.split_quiet.result.0.now c.split_quiet.result.1.now c.args.text.now
    c.split_end.result.0.now c.split_end.result.1.now c.split_end-2.result.0.now c.split_end-2.result.1.now
    c.split_quiet.ensures.front c.split_quiet.ensures.left c.split_end.ensures.front c.split_end.ensures.whole c.split_end-2.ensures.front c.split_end-2.ensures.whole (grind arith)
