use Rattle.std.proofs.Common.{ap, ap₂, ◌∙◌, ◌++◌}
use Rattle.css_links.specs.Escapes.{says, read}
use Rattle.css_links.specs.declared.escape.Reading.TheVariants.{Plain}
use Rattle.css_links.proofs.Passing.{run_says}
use Rattle.css_links.proofs.escape.read_run.Goals as goal

pub returns-in_ok-extend_from_slice-in-Plain-clause-says : goal.returns-in_ok-extend_from_slice-in-Plain-clause-says
returns-in_ok-extend_from_slice-in-Plain-clause-says c =
    rw (c.in-Plain.is, c.before_backslash.ensures.left, c.in_ok-extend_from_slice-in-Plain.ensures.items, c.before_backslash.ensures.front) (run_says c.args.text.now.items c.args.left.now)
