-- What the open page or origin has goes after the others.
use Rattle.std.proofs.Common.{◌++◌, ◌∙◌, sym, ap}
use Rattle.std.specs.Prelude.{string_bytes}
use Rattle.std.specs.Str.{bytes_eq}
use Rattle.std.proofs.lemmas.List.{append-nil}
use Rattle.indexmap.proofs.CallerLemmas.{insert_entry-new}
use Rattle.robots_rules.specs.Groups.{rules_in}
use Rattle.fetcher.specs.declared.outcome.Outcome.TheVariants as outcome
use Rattle.site_maps.specs.inner.Readings.{opened_answer, opened_rules}
use Rattle.site_maps.proofs.reading.MapReading.close.Goals as goal

pub returns-in_ok-insert-in-Some-Page : goal.returns-in_ok-insert-in-Some-Page
returns-in_ok-insert-in-Some-Page c = λ fresh.
    let page = c.in-Some-Page.page in
    let held = c.args.self.now.answers in
    let was = rw c.in-Some-Page.field-0-is at c.in-Some-Page.ensures.value in
    let put = insert_entry-new bytes_eq held page.address (outcome.Page page.status page.edges.items) (fresh.page page (sym was)) in
    record {
      closed = c.take.ensures.after;
      answers = rw c.in_ok-edges-in-Some-Page.ensures at c.in_ok-insert-in-Some-Page.ensures.entries ∙ put ∙ ap (λ o. held.entries ++ opened_answer o) was;
      rules = sym (append-nil c.args.self.now.rules.entries) ∙ ap (λ o. c.args.self.now.rules.entries ++ opened_rules o) was;
    }

pub returns-in_ok-insert-in-Some-Robots : goal.returns-in_ok-insert-in-Some-Robots
returns-in_ok-insert-in-Some-Robots c = λ fresh.
    let robots = c.in-Some-Robots.robots in
    let held = c.args.self.now.rules in
    let was = rw c.in-Some-Robots.field-0-is at c.in-Some-Robots.ensures.value in
    let put = insert_entry-new bytes_eq held robots.origin (rules_in (string_bytes robots.file)) (fresh.origin robots (sym was)) in
    record {
      closed = c.take.ensures.after;
      answers = sym (append-nil c.args.self.now.answers.entries) ∙ ap (λ o. c.args.self.now.answers.entries ++ opened_answer o) was;
      rules =
          rw (c.new-in-Some-Robots.ensures, c.in_ok-rules-in-Some-Robots.ensures) at c.in_ok-insert-in-Some-Robots.ensures.entries
          ∙ put ∙ ap (λ o. held.entries ++ opened_rules o) was;
    }
