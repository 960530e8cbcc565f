use Rattle.std.proofs.Common.{◌∙◌, ◌++◌, ap}
use Rattle.cookie_files.proofs.CleanLemmas.{pair_clean, pushed_clean}
use Rattle.cookie_files.proofs.cookie.Cookie.push_pair.Goals as goal

pub returns-clause-clean : goal.returns-clause-clean
returns-clause-clean c clean =
    let name = c.self.inside.name.items in
    let value = c.self.inside.value.items in
    pushed_clean c.args.text.now.items name value c.extend_from_slice.new.self.items c.push.new.self.items c.extend_from_slice-2.new.self.items clean
    (pair_clean name value c.self.invariant.0 c.self.invariant.1)
    (c.in_ok-extend_from_slice.ensures.items ∙ ap (λ xs. c.args.text.now.items ++ xs) c.as_slice.ensures.value)
    c.in_ok-push.ensures.items
    (c.in_ok-extend_from_slice-2.ensures.items ∙ ap (λ xs. c.push.new.self.items ++ xs) c.as_slice-2.ensures.value)
