-- The octets that a cursor over a text in normal form has still to give.
use Rattle.std.specs.Prelude.{ℕ, List, ◌++◌}
use Rattle.robots_rules.specs.Octets.{normal, is_escaped}
use Rattle.robots_rules.specs.declared.octets.NormalText.{NormalText}

-- those that are ready, and then the normal form of the rest
abbrev pub octets_of_text : NormalText → List ℕ
octets_of_text text = text.ready.now ++ normal (is_escaped text.in_path) text.rest.now
