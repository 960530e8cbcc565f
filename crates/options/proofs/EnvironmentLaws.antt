-- What the environment sets is said before what is typed, in the way the option of its name says it.
use Rattle.std.proofs.Common.{◌≡◌, ◌∷◌, List, None, Some, codes, refl}
use Rattle.clap.specs.Walk.{Text}
use Rattle.options.specs.declared.said.Saying.TheVariants as saying
use Rattle.options.specs.Environment.{with_environment}
use Rattle.options.specs.Said.{command_meaning, heard, sayings, trimmed, value_meaning}
use Rattle.options.specs.Table.{commands, table}

-- without variables the words are those that are typed
pub environment_is_silent : (typed : List Text) → with_environment (record { https_proxy = None; http_proxy = None; no_proxy = None }) typed ≡ typed
environment_is_silent typed = refl

-- with them the first words are their options, and each that is typed counts after them
pub environment_is_said : (https http without : Text) (typed : List Text)
    → sayings (with_environment (record { https_proxy = Some https; http_proxy = Some http; no_proxy = Some without }) typed)
    ≡ saying.Says (codes "https-proxy") (trimmed https) ∷ saying.Says (codes "http-proxy") (trimmed http) ∷ saying.Says (codes "without-proxy") (trimmed without) ∷ sayings typed
unfolding sayings heard value_meaning command_meaning table commands
environment_is_said https http without typed = refl
