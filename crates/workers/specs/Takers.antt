-- Who took what, by the lines of a trace: the worker whose fetcher was to request it.
use Rattle.std.specs.Prelude.{◌≡◌, ℕ, suc, List, [], ◌∷◌, All, Contains}
use Rattle.fetcher.specs.declared.fetcher.Ask.{Ask}
use Rattle.fetcher.specs.declared.fetcher.Fetcher.{Ghosts as Meaning}
use Rattle.frontier_core.specs.declared.event.Event.{Event}
use Rattle.frontier_core.specs.declared.event.Event.TheVariants as line
use Rattle.workers.specs.Asks.{gained, pages_asked, origins_asked}

-- if the line says that a worker took what is among these asks, its number is n
abbrev pub IsOwn : ℕ → List Ask → Event → Type 0
IsOwn n asks (line.Opened start) = Unit {0}
IsOwn n asks (line.Page worker address) = Contains (pages_asked asks) address → worker ≡ n
IsOwn n asks (line.Rules worker origin) = Contains (origins_asked asks) origin → worker ≡ n
IsOwn n asks (line.Answer worker address) = Unit {0}
IsOwn n asks (line.Ruled worker origin) = Unit {0}
IsOwn n asks (line.Spread depth address count) = Unit {0}
IsOwn n asks (line.Part depth address count) = Unit {0}
IsOwn n asks (line.Abandon worker address) = Unit {0}
IsOwn n asks (line.AbandonRules worker origin) = Unit {0}
IsOwn n asks (line.Stop cause) = Unit {0}

module _ {F B : Type 0} (m : Meaning F B) where
  -- by the lines each fetcher was to request what its own worker took; the numbers count from n, in the fetchers' order
  abbrev pub AreOwn : ℕ → List F → List F → List Event → Type 0
  AreOwn n [] news trace = Unit {0}
  AreOwn n (old ∷ olds) [] trace = Unit {0}
  AreOwn n (old ∷ olds) (new ∷ news) trace = All (IsOwn n (gained (m.log old) (m.log new))) trace × AreOwn (suc n) olds news trace
