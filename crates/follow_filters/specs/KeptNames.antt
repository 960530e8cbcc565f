-- Names of pages as texts that patterns are matched with.
use Rattle.std.specs.Prelude.{ℕ, List, ◌++◌}
use Rattle.follow_filters.specs.declared.kept_name.KeptName.{KeptName}

-- the file name, and the query after it
abbrev pub text_of_name : KeptName → List ℕ
text_of_name name = name.file.now ++ name.query.now
