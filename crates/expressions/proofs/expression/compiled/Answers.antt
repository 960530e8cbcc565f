use Rattle.std.proofs.Common.{subst, map, option_map, string_bytes}
use Rattle.regex_syntax.specs.Verdict.{Reads}
use Rattle.expressions.proofs.Compiling.{compiled_is}
use Rattle.expressions.proofs.expression.compiled.Goals as goal

pub returns-in-Ok-compiled_tree : goal.returns-in-Ok-compiled_tree
returns-in-Ok-compiled_tree c = (
  compiled_is c.args.text.now c.in-Ok.parsed.hir (map (option_map string_bytes) c.in-Ok.parsed.names.items) c.in-Ok-compiled_tree.compiled.nfa
      (subst (λ config. Reads config c.args.text.now c.in-Ok.parsed.hir (map (option_map string_bytes) c.in-Ok.parsed.names.items)) c.byte_config.ensures c.in-Ok.ensures.ok) c.in-Ok-compiled_tree.ensures.0,
  c.in-Ok-compiled_tree.ensures.1,
)
