-- The command has a value, or it has none.
use Rattle.std.proofs.Common.{◌∙◌, ap, map, option_map, sym}
use Rattle.options.specs.Said.{command_by, command_meaning, commanded, plain, trimmed}
use Rattle.options.specs.inner.Table.{command_in}
use Rattle.options.proofs.said.command_meaning.Goals as goal

pub returns-in_default : goal.returns-in_default
unfolding command_meaning
returns-in_default c =
    sym (ap (λ v. command_by c.split_value.result.0.now (option_map (λ s. s.now) v)) c.in_default.is)
    ∙ ap (λ p. command_by p.0 p.1) c.split_value.ensures

pub returns : goal.returns
unfolding command_meaning
returns c =
    let key = c.as_slice.ensures.value ∙ c.in_ok-key.ensures ∙ ap plain c.trimmed.ensures in
    c.commanded.ensures
    ∙ ap (λ k. commanded k c.trimmed-2.result.now (map command_in c.commands.result.now)) key
    ∙ ap (λ v. commanded (plain (trimmed c.split_value.result.0.now)) v (map command_in c.commands.result.now)) c.trimmed-2.ensures
    ∙ ap (commanded (plain (trimmed c.split_value.result.0.now)) (trimmed c.in-Some.value.now)) c.commands.ensures
    ∙ sym (ap (λ v. command_by c.split_value.result.0.now (option_map (λ s. s.now) v)) c.in-Some.is)
    ∙ ap (λ p. command_by p.0 p.1) c.split_value.ensures
