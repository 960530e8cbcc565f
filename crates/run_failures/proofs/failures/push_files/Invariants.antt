-- The text has gained the lines of the files so far.
use Rattle.std.proofs.Common.{◌≡◌, ◌++◌, string_bytes, take}
use Rattle.std.specs.List.{flat_map}
use Rattle.run_failures.specs.Files.{fault_line}
use Rattle.run_failures.proofs.failures.push_files.Given as goal

abbrev pub invariant-loop-file : goal.invariant-loop-file
invariant-loop-file l = string_bytes l.text ≡ string_bytes l.initial.text ++ flat_map fault_line (take l.file-index l.files)
