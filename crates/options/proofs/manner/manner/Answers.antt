-- Each value is what the options say of it.
use Rattle.std.proofs.Common.{◌∙◌, ap, sym}
use Rattle.std.specs.Prelude.{codes}
use Rattle.clap.specs.Words.{first_of, found_of, rows_of}
use Rattle.options.specs.Manners.{body_by, limit_by, limit_of}
use Rattle.options.proofs.MannerLemmas.{good-manner}
use Rattle.options.proofs.manner.manner.Goals as goal

pub returns : goal.returns
returns c =
    let found = rows_of (found_of c.args.matches.now) in
    let usual = c.usual-usual.ensures in
    sym (good-manner found _ _ _ _ _ _ _ _ _ _ c.is_set.ensures (sym c.in_ok-wait.ensures)
    (ap (λ u. limit_of (codes "dns-timeout") u found) (sym (ap (λ m. m.lookup_limit) usual)) ∙ sym c.in_ok-lookup_limit.ensures)
    (ap (λ u. limit_of (codes "connect-timeout") u found) (sym (ap (λ m. m.connect_limit) usual)) ∙ sym c.in_ok-connect_limit.ensures)
    (ap (λ u. limit_of (codes "read-timeout") u found) (sym (ap (λ m. m.read_limit) usual)) ∙ sym c.in_ok-read_limit.ensures)
    (ap (λ u. limit_by u (first_of (codes "answer-timeout") found)) (sym (ap (λ m. m.answer_limit) usual)) ∙ ap (limit_by _) (sym c.given.ensures) ∙ sym c.in_ok-answer_limit.ensures)
    (ap (λ u. body_by u (first_of (codes "max-body") found)) (sym (ap (λ m. m.body_limit) usual)) ∙ sym c.in_ok-body_limit.ensures)
    (sym c.in_ok-rate.ensures) c.is_set-2.ensures (sym c.in_ok-family.ensures))
