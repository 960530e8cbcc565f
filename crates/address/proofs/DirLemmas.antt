-- The place of the last slash of a path.
use Rattle.std.proofs.Common.{false, ◌+◌, ◌-◌, ◌==◌, ◌≢◌, ◌≡◌, ℕ, ◌≤◌, ◌<◌, not, List, length, get_or, take, drop, All, sym, ap, ◌∙◌, ⊎_elim, arith, length-drop, length-take-le}
use Rattle.std.specs.Prelude.{reverse}
use Rattle.std.specs.List.{prefix_len}
use Rattle.std.proofs.lemmas.Bool.{true≢false, cases_eq}
use Rattle.std.proofs.lemmas.Bool.Decides.{nat_tests}
use Rattle.std.proofs.lemmas.List.{get_or-take, get_or-drop, get_or-reverse, length-reverse}
use Rattle.std.proofs.lemmas.List.Elements.{All-from_get_or}
use Rattle.std.proofs.lemmas.List.Sums.{prefix_len_passes, prefix_len_stops, prefix_len-le-length}
use Rattle.address.specs.Address.{dir_len}

-- each byte from `dir_len` on is no slash
after_dir : (path : List ℕ) (k : ℕ) → dir_len path ≤ k → k < length path → get_or path k 0 ≢ 47
after_dir path k from below same =
    let test = λ (b : ℕ). not (b == 47) in
    let back = length path - 1 - k in
    let long = length-reverse path in
    let within = prefix_len-le-length test (reverse path) in
    let passes = prefix_len_passes test (reverse path) back 0 (omega arith) in
    let here : get_or (reverse path) back 0 ≡ get_or path k 0 = get_or-reverse path back 0 (omega arith) ∙ ap (λ j. get_or path j 0) (let e : length path - 1 - back ≡ k = omega arith in e) in
    true≢false (sym passes ∙ ap test (here ∙ same))

-- a path that begins with a slash has a directory, and that ends with one
pub dir_some : (path : List ℕ) → get_or path 0 0 ≡ 47 → 0 < length path → 0 < dir_len path
dir_some path first some =
    ⊎_elim
    (λ (none : dir_len path ≡ 0). absurd (after_dir path 0 (omega arith) some first))
    (λ other. omega arith)
    (cases_eq (dir_len path) 0)

pub dir_within : (path : List ℕ) → dir_len path ≤ length path
dir_within path = omega arith

dir_last : (path : List ℕ) → 0 < dir_len path → get_or path (dir_len path - 1) 0 ≡ 47
dir_last path some =
    let test = λ (b : ℕ). not (b == 47) in
    let n = prefix_len test (reverse path) in
    let long = length-reverse path in
    let stops = prefix_len_stops test (reverse path) 0 (omega arith) in
    let here : get_or (reverse path) n 0 ≡ get_or path (dir_len path - 1) 0 = get_or-reverse path n 0 (omega arith) ∙ ap (λ j. get_or path j 0) (let e : length path - 1 - n ≡ dir_len path - 1 = omega arith in e) in
    let slash : test (get_or path (dir_len path - 1) 0) ≡ false = ap test (sym here) ∙ stops in
    grind (arith, nat_tests)

pub dir_begins : (path : List ℕ) → get_or path 0 0 ≡ 47 → 0 < length path → get_or (take (dir_len path) path) 0 0 ≡ 47
dir_begins path first some = get_or-take (dir_len path) path 0 0 (dir_some path first some) ∙ first

pub dir_ends : (path : List ℕ) → get_or path 0 0 ≡ 47 → 0 < length path → get_or (take (dir_len path) path) (length (take (dir_len path) path) - 1) 0 ≡ 47
dir_ends path first some =
    let dir = dir_some path first some in
    let len = length-take-le (dir_len path) path (dir_within path) in
    ap (λ n. get_or (take (dir_len path) path) (n - 1) 0) len
    ∙ get_or-take (dir_len path) path (dir_len path - 1) 0 (omega arith) ∙ dir_last path dir

pub file_has_no_slash : (path : List ℕ) → All (λ b. b ≢ 47) (drop (dir_len path) path)
file_has_no_slash path =
    let len = length-drop (dir_len path) path in
    All-from_get_or (λ b. b ≢ 47) (drop (dir_len path) path) 0 (λ k inside same. after_dir path (dir_len path + k) (omega arith) (omega arith) (sym (get_or-drop (dir_len path) path k 0) ∙ same))
