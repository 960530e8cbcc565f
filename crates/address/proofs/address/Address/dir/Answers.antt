use Rattle.std.proofs.Common.{◌≡◌, ◌-◌, List, ℕ, take, drop, ap, sym, ◌∙◌, arith}
use Rattle.std.proofs.lemmas.Str.{IsCharBoundary-from_ascii}
use Rattle.address.specs.Address.{dir_of, dir_len}
use Rattle.address.proofs.UrlLemmas.{dir_of-url_text_of}
use Rattle.address.proofs.address.Address.dir.Goals as goal

pub range-requires-clause-end_boundary : goal.range-requires-clause-end_boundary
range-requires-clause-end_boundary c = IsCharBoundary-from_ascii _ _ c.path-path.ensures.ascii c.dir_len.ensures.within

from_start : (xs : List ℕ) (n : ℕ) → take (n - 0) (drop 0 xs) ≡ take n xs
from_start xs n = grind arith

pub returns-clause-value : goal.returns-clause-value
returns-clause-value c =
    c.range.ensures.value ∙ from_start _ _ ∙ ap (λ n. take n c.path-path.result.now) c.dir_len.ensures.value
    ∙ ap (λ p. take (dir_len p) p) c.path-path.ensures.value
    ∙ sym (dir_of-url_text_of c.url.result.now c.url.ensures.http) ∙ ap dir_of c.url.ensures.text
