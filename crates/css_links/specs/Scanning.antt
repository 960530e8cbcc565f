-- What a scanner represents: the front of a sheet that it was fed.
use Rattle.std.specs.Prelude.{◌≡◌, ℕ, Bool, false, List, ◌++◌}
use Rattle.css_links.specs.References.{Seen, Front, front, fed, nothing_read}
use Rattle.css_links.specs.Rewriting.{Change, Rewrite, nothing_written, rewrite_fed}
use Rattle.css_links.specs.declared.machine.Machine.{Machine}
use Rattle.css_links.specs.declared.rewriter.Rewriter.{Rewriter}

-- what a machine has seen
abbrev pub seen_of : Machine → Seen
seen_of m = record { found = m.found.items; depth = m.depth }

-- how far a machine has come
abbrev pub front_of : Machine → Front
front_of m = front m.place m.raw.items (seen_of m)

-- how far a scanner has come
pub record ScanProgress : Type 0 where
  pub front : Front
  pub failed : Bool

-- The scanner hasn't failed and has come as far as this front of a sheet.
pub record StandsFor (s : ScanProgress) (sheet : List ℕ) : Type 0 where
  pub front : s.front ≡ fed nothing_read sheet
  pub working : s.failed ≡ false

-- how far a rewriter has come
abbrev pub rewrite_of : Rewriter → Rewrite
rewrite_of r = record { front = front_of r.machine; out = r.out.items; white = r.white.items }

-- how far a rewriter has come, and whether it failed
pub record RewriteProgress : Type 0 where
  pub rewrite : Rewrite
  pub failed : Bool

-- with these bytes before what is written
abbrev pub behind : List ℕ → Rewrite → Rewrite
behind taken w = record { front = w.front; out = taken ++ w.out; white = w.white }

-- The rewriter hasn't failed, and has come as far as this front of a sheet; of what it wrote these bytes were taken.
pub record Rewrites (change : Change) (r : RewriteProgress) (sheet taken : List ℕ) : Type 0 where
  pub rewrite : behind taken r.rewrite ≡ rewrite_fed change nothing_written sheet
  pub working : r.failed ≡ false
