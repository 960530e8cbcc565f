-- How it is noted that a sink found no memory.
use Rattle.std.specs.Prelude.{◌≡◌, Bool, true, Result, Ok, Err}

-- a call that finds no memory refuses, and every other leaves it as it was
abbrev pub NotesRefusal : {A E : Type 0} → Bool → Bool → Result A E → Type 0
NotesRefusal old new (Ok a) = new ≡ old
NotesRefusal old new (Err e) = new ≡ true
