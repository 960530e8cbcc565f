use Rattle.std.proofs.Common.{◌≡◌, ◌-◌, ℕ, List, true, take, drop, length, bytes_eq, ap, ◌∙◌, subst}
use Rattle.std.proofs.lemmas.Bool.Decides.{same_from_decides}
use Rattle.std.proofs.lemmas.List.{take_rest}
use Rattle.std.proofs.lemmas.Slice.Eq.{bytes_eq-Decides}
use Rattle.std.specs.Str.{str_to_ascii_lowercase}
use Rattle.local_names.proofs.ending.ends_in.Goals as goal

pub returns : goal.returns
returns c =
    let name = c.args.name.now in
    let ending = c.args.ending.now in
    let bytes = c.as_bytes.result.now in
    let start = c.saturating_sub-start.result in
    let result = c.eq_ignore_ascii_case.result in
    let tail = drop (length name - length ending) name in
    let cut : take (length bytes - start) (drop start bytes) ≡ tail = take_rest bytes start ∙ ap (drop start) c.as_bytes.ensures.value ∙ ap (λ n. drop n name) c.saturating_sub-start.ensures in
    let one = subst (λ (xs : List ℕ). (result ≡ true → str_to_ascii_lowercase xs ≡ str_to_ascii_lowercase c.as_bytes-2.result.now) × (str_to_ascii_lowercase xs ≡ str_to_ascii_lowercase c.as_bytes-2.result.now → result ≡ true)) cut c.eq_ignore_ascii_case.ensures.test in
    let both = subst (λ (ys : List ℕ). (result ≡ true → str_to_ascii_lowercase tail ≡ str_to_ascii_lowercase ys) × (str_to_ascii_lowercase tail ≡ str_to_ascii_lowercase ys → result ≡ true)) c.as_bytes-2.ensures.value one in
    same_from_decides result (bytes_eq (str_to_ascii_lowercase tail) (str_to_ascii_lowercase ending)) both (bytes_eq-Decides (str_to_ascii_lowercase tail) (str_to_ascii_lowercase ending))
