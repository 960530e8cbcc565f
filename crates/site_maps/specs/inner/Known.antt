-- The addresses that lines name, each read once.
use Rattle.std.specs.Prelude.{◌≡◌, ℕ, List, Ok, IfSome}
use Rattle.std.specs.Borrow.{Bor}
use Rattle.std.specs.Map.{lookup}
use Rattle.std.specs.Str.{bytes_eq}
use Rattle.address.specs.Address.{read_address}

-- what was read so far, by the texts that name it
abbrev pub Known : Type 0
Known = List (Bor (List ℕ) × List ℕ)

-- the address that is kept for a text is what the text is read as
abbrev pub AreRead : Known → Type 0
AreRead known = (text : Bor (List ℕ)) → IfSome (lookup (λ k. bytes_eq text.now k.now) known) (λ address. read_address text.now ≡ Ok address)
