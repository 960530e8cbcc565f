use Rattle.std.proofs.Common.{ap, ◌∙◌}
use Rattle.css_links.specs.Scanning.{front_of, seen_of}
use Rattle.css_links.specs.declared.place.Place.TheVariants.{Inside}
use Rattle.css_links.proofs.Passing.{run_gives, other_passed, bad_passed, reference_passed, bare_passed, word_passed}
use Rattle.css_links.proofs.machine.Machine.part_run.Goals as goal

pub returns-in-Word-clause-gives : goal.returns-in-Word-clause-gives
returns-in-Word-clause-gives c =
    run_gives (λ left. left.now) c.text_run.result (front_of c.text_run.new.self) _ _ _ c.text_run.ensures.front c.text_run.ensures.left
    (rw (c.requires ∙ ap Inside c.in-Word.is) (word_passed c.in-Word.field-0 (seen_of c.args.self.now) c.args.self.now.raw.items c.args.text.now))

pub returns-in-Reference-clause-gives : goal.returns-in-Reference-clause-gives
returns-in-Reference-clause-gives c =
    run_gives (λ left. left.now) c.text_run-in-Reference.result (front_of c.text_run-in-Reference.new.self) _ _ _ c.text_run-in-Reference.ensures.front c.text_run-in-Reference.ensures.left
    (rw (c.requires ∙ ap Inside c.in-Reference.is) (reference_passed c.in-Reference.quote (seen_of c.args.self.now) c.args.self.now.raw.items c.args.text.now))

pub returns-in-Other-clause-gives : goal.returns-in-Other-clause-gives
returns-in-Other-clause-gives c = rw (c.requires ∙ ap Inside c.in-Other.is, c.split.ensures.left) (other_passed c.in-Other.quote c.args.self.now.raw.items (seen_of c.args.self.now) c.args.text.now)

pub returns-in-Bare-clause-gives : goal.returns-in-Bare-clause-gives
returns-in-Bare-clause-gives c =
    run_gives (λ left. left.now) c.text_run-in-Bare.result (front_of c.text_run-in-Bare.new.self) _ _ _ c.text_run-in-Bare.ensures.front c.text_run-in-Bare.ensures.left
    (rw (c.requires ∙ ap Inside c.in-Bare.is) (bare_passed (seen_of c.args.self.now) c.args.self.now.raw.items c.args.text.now))

pub returns-in-Bad-clause-gives : goal.returns-in-Bad-clause-gives
returns-in-Bad-clause-gives c = rw (c.requires ∙ ap Inside c.in-Bad.is, c.split-in-Bad.ensures.left) (bad_passed c.args.self.now.raw.items (seen_of c.args.self.now) c.args.text.now)
