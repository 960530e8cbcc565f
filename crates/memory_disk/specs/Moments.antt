-- Moments of a disk in memory.
use Rattle.std.proofs.Common.{◌≡◌, ◌≤◌, ℕ, zero, suc, List, Option, length, arith}
use Rattle.memory_disk.specs.declared.memory.Act.{Act}
use Rattle.memory_disk.specs.Acts.{file_at, Stood}

pub counts : (acts : List Act) (t : ℕ) (n : List ℕ) (c : Option (List ℕ)) → t ≤ length acts → c ≡ file_at acts n → Stood acts t n c
counts acts t n c le now = (0, omega arith, now)

pub only : (acts : List Act) (n : List ℕ) (c : Option (List ℕ)) → Stood acts (length acts) n c → c ≡ file_at acts n
only acts n c (zero, le, is) = is
only acts n c (suc ago, le, is) = absurd (omega arith)
