use Rattle.std.proofs.Common.{rules, not, ◌∷◌, ◌++◌, ap, sym, ◌∙◌}
use Rattle.robots_rules.specs.Octets.{normal, is_escaped}
use Rattle.robots_rules.proofs.OctetsLemmas.{nothing_left, plain_step, escape_step}
use Rattle.robots_rules.proofs.octets.NormalTextText.split_first.Goals as goal

pub returns-in-Some : goal.returns-in-Some
returns-in-Some c =
    escape_step (is_escaped c.args.self.in_path) c.args.self.ready.now c.args.self.rest.now c.in-Some.octet c.in-Some.rest.now (not c.is_unreserved.result) _ c.in_default.len_below (c.in-Some.ensures (is_escaped c.args.self.in_path)) (ap not c.is_unreserved.ensures)
    (c.first_of.ensures.octets (is_escaped c.args.self.in_path) ∙ ap (λ k. c.first_of.result.0 ∷ (c.first_of.result.1.ready.now ++ normal (is_escaped k) c.first_of.result.1.rest.now)) (sym c.first_of.ensures.kind))

pub returns-in_err-octet : goal.returns-in_err-octet
returns-in_err-octet c = rw c.from_residual.ensures (nothing_left (is_escaped c.args.self.in_path) _ _ c.in_default.len_below (search rules))

pub returns : goal.returns
returns c =
    plain_step (is_escaped c.args.self.in_path) c.args.self.ready.now c.args.self.rest.now c.in_ok-octet.field-0-0.now c.in_ok-octet.rest.now c.is_escaped.result _ c.in_default.len_below (c.in_default-split_escape.ensures (is_escaped c.args.self.in_path)) c.in_ok-octet.ensures.cases.0 c.is_escaped.ensures (c.first_of-2.ensures.octets (is_escaped c.args.self.in_path) ∙ ap (λ k. c.first_of-2.result.0 ∷ (c.first_of-2.result.1.ready.now ++ normal (is_escaped k) c.first_of-2.result.1.rest.now)) (sym c.first_of-2.ensures.kind))
