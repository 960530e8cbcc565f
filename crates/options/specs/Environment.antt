-- What the environment sets, as words (GNU Wget manual, chapters Startup File and Proxies).
use Rattle.std.specs.Prelude.{◌++◌, List, [], ◌∷◌, Option, Some, None, codes}
use Rattle.clap.specs.Walk.{Text}

-- what the variables of these names say, if they are set
pub record Variables : Type 0 where
  pub https_proxy : Option Text
  pub http_proxy : Option Text
  pub no_proxy : Option Text

-- a command of wgetrc with its value, if there is one
abbrev pub command_words : Text → Option Text → List Text
command_words key None = []
command_words key (Some value) = codes "-e" ∷ (key ++ codes "=" ++ value) ∷ []

-- what the variables set: each is the command of its name
abbrev pub environment_words : Variables → List Text
environment_words set =
    command_words (codes "https_proxy") set.https_proxy ++ (command_words (codes "http_proxy") set.http_proxy ++ command_words (codes "no_proxy") set.no_proxy)

-- the words of a run: what the environment sets comes before what is typed, of which the last counts
abbrev pub with_environment : Variables → List Text → List Text
with_environment set typed = environment_words set ++ typed
