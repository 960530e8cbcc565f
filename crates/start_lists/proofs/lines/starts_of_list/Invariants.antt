-- The starts of the lines so far, of which none is bad.
use Rattle.std.proofs.Common.{◌≡◌, [], drop, length, map, option_map}
use Rattle.std.specs.Prelude.{All}
use Rattle.start_lists.specs.Lists.{AreGood, starts_of_lines}
use Rattle.start_lists.specs.declared.lines.TheConstants.{MAX_LINES}
use Rattle.start_lists.proofs.lines.starts_of_list.Given as goal

abbrev pub invariant-loop-line : goal.invariant-loop-line
invariant-loop-line l =
    (goal.iterator-loop-line).can_next l.line-iterator ×
    (goal.iterator-loop-line).is_finite l.line-iterator ×
    (l.number ≡ length l.yielded) ×
    AreGood l.by_proxy (option_map (λ b. b.now) l.base) (map (λ x. x.now) l.yielded) ×
    All (λ line. line ≡ []) (drop MAX_LINES (map (λ x. x.now) l.yielded)) ×
    (l.starts.items ≡ starts_of_lines l.by_proxy (option_map (λ b. b.now) l.base) (map (λ x. x.now) l.yielded))
