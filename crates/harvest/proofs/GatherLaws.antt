-- What is copied of a frontier's entries, and which names occur once.
use Rattle.std.proofs.Common.{◌≡◌, ℕ, ◌+◌, ◌<◌, inl, inr, List, [], ◌∷◌, ◌++◌, length, take, get_or, map, Option, Some, None, zero, refl, sym, ap, ◌∙◌, subst, arith}
use Rattle.std.specs.Prelude.{Contains}
use Rattle.std.specs.List.{filter_map}
use Rattle.std.proofs.lemmas.List.{map-append, map_more, length-map}
use Rattle.std.proofs.lemmas.List.Sorted.{IsPermutation-map, IsPermutation-sym, Contains-permutation}
use Rattle.std.specs.List.Sorted.{IsPermutation}
use Rattle.follow_filters.specs.declared.plan.Plan.{Plan}
use Rattle.frontier_core.specs.Routes.{Answers}
use Rattle.harvest.specs.declared.page.KeptPage.{KeptPage}
use Rattle.address.specs.AddressOrder.{IsAscending}
use Rattle.harvest.specs.Pages.{IsKept}
use Rattle.robots_rules.specs.Access.{RuleSetValue}
use Rattle.fetcher.specs.declared.outcome.Outcome.{Outcome}
use Rattle.frontier_core.specs.Tables.{Text, keys, IsOnce}
use Rattle.frontier_core.specs.Machine.{State, Slot, OriginRules, outcome_in, known_rules_in}
use Rattle.frontier_core.specs.Readers.{HeldEntry, entry_of, record_of, ruled_of, item_entry}
use Rattle.frontier_core.specs.declared.condition.AddressState.{AddressState}
use Rattle.address.specs.declared.address.Address.{Address}
use Rattle.std.specs.Borrow.{Bor}
use Rattle.frontier_core.proofs.RouteLaws.{contains_tail, contains_cases}
use Rattle.harvest.specs.declared.entry.HarvestEntry.{HarvestEntry}
use Rattle.harvest.specs.Entries.{Seen, seen_of, seen_in, said_by, recorded_addresses, ruled_origins}

-- what is held and what is to be said of it
seen_all : (entries : List (Text × Slot)) → map seen_of (map entry_of entries) ≡ map (λ entry. seen_of (entry_of entry)) entries
seen_all [] = refl
seen_all (entry ∷ entries) = ap (λ (rest : List Seen). seen_of (entry_of entry) ∷ rest) (seen_all entries)

seen_is : (s : State) → map seen_of (map entry_of s.entries) ≡ seen_in s
seen_is s = seen_all s.entries

-- what a frontier lends of a held address
abbrev pub Lent : Type 0
Lent = Bor Address × ℕ × AddressState

-- what is to be said of it
abbrev pub seen_lent : Lent → Seen
seen_lent one = seen_of (item_entry one)

-- its address
abbrev pub lent_address : Lent → Text
lent_address one = one.0.now

seen_each : (held : List Lent) → map seen_lent held ≡ map seen_of (map item_entry held)
seen_each [] = refl
seen_each (one ∷ held) = ap (λ (rest : List Seen). seen_lent one ∷ rest) (seen_each held)

-- what is lent of all addresses is to be said of the state
pub seen_held : (s : State) (held : List Lent) → map item_entry held ≡ map entry_of s.entries → map seen_lent held ≡ seen_in s
seen_held s held all = seen_each held ∙ ap (λ (x : List HeldEntry). map seen_of x) all ∙ seen_is s

-- the addresses of entries, by what they say
named_by : (entries : List HarvestEntry) → map (λ entry. entry.address) entries ≡ map (λ (seen : Seen). seen.0) (map said_by entries)
named_by [] = refl
named_by (entry ∷ entries) = ap (λ (rest : List Text). entry.address ∷ rest) (named_by entries)

named_held : (held : List Lent) → map lent_address held ≡ map (λ (seen : Seen). seen.0) (map seen_lent held)
named_held [] = refl
named_held ((address, depth, condition) ∷ held) = ap (λ (rest : List Text). address.now ∷ rest) (named_held held)

keys_by : (entries : List (Text × Slot)) → map (λ (seen : Seen). seen.0) (map (λ entry. seen_of (entry_of entry)) entries) ≡ keys entries
keys_by [] = refl
keys_by (entry ∷ entries) = ap (λ (rest : List Text). entry.0 ∷ rest) (keys_by entries)

-- entries have the addresses of that of which they say what is to be said
pub named_alike : (entries : List HarvestEntry) (held : List Lent) → map said_by entries ≡ map seen_lent held → map lent_address held ≡ map (λ entry. entry.address) entries
named_alike entries held said = named_held held ∙ sym (ap (λ (x : List Seen). map (λ (seen : Seen). seen.0) x) said) ∙ sym (named_by entries)

-- one more entry
pub said_more : (entries : List HarvestEntry) (entry : HarvestEntry) (held : List Lent) (i : ℕ) (d : Lent) → i < length held → map said_by entries ≡ map seen_lent (take i held)
    → said_by entry ≡ seen_lent (get_or held i d) → map said_by (entries ++ entry ∷ []) ≡ map seen_lent (take (i + 1) held)
said_more entries entry held i d within so is =
    map-append said_by entries (entry ∷ [])
    ∙ ap (λ (said : List Seen). said ++ said_by entry ∷ []) so
    ∙ ap (λ (seen : Seen). map seen_lent (take i held) ++ seen ∷ []) is
    ∙ sym (map_more seen_lent held i d within)

-- no address is lent twice
pub once_held : (s : State) (held : List Lent) → map item_entry held ≡ map entry_of s.entries → IsOnce (keys s.entries) → IsOnce (map lent_address held)
once_held s held all once =
    subst IsOnce (sym (named_held held ∙ ap (λ (x : List Seen). map (λ (seen : Seen). seen.0) x) (seen_held s held all) ∙ keys_by s.entries)) once

-- what is recorded is held
pub recorded_held : (entries : List (Text × Slot)) (u : Text) → Contains (recorded_addresses (filter_map record_of entries)) u → Contains (keys entries) u
recorded_held [] u among = among
recorded_held (entry ∷ entries) u among = go (λ later. contains_tail entry.0 u (keys entries) (recorded_held entries u later)) (outcome_in entry.1.progress) refl among
  where
    go : (Contains (recorded_addresses (filter_map record_of entries)) u → Contains (keys (entry ∷ entries)) u) → (o : Option Outcome) → outcome_in entry.1.progress ≡ o
        → Contains (recorded_addresses (filter_map record_of (entry ∷ entries))) u → Contains (keys (entry ∷ entries)) u
    go later None is here = later (rw is at here)
    go later (Some x) is here = elim (contains_cases entry.0 u (recorded_addresses (filter_map record_of entries)) (rw is at here)) [
      | inl first ↦ (zero, omega arith, first)
      | inr among_later ↦ later among_later
    ]

-- no address is recorded twice
pub once_records : (entries : List (Text × Slot)) → IsOnce (keys entries) → IsOnce (recorded_addresses (filter_map record_of entries))
once_records [] once = tt
once_records (entry ∷ entries) once = go (once_records entries once.1) (outcome_in entry.1.progress) refl
  where
    go : IsOnce (recorded_addresses (filter_map record_of entries)) → (o : Option Outcome) → outcome_in entry.1.progress ≡ o
        → IsOnce (recorded_addresses (filter_map record_of (entry ∷ entries)))
    go rest None is = rw is rest
    go rest (Some x) is = rw is ((λ among. once.0 (recorded_held entries entry.0 among)), rest)

-- an origin's rules that are known were requested
pub ruled_asked : (origins : List (Text × OriginRules)) (o : Text) → Contains (ruled_origins (filter_map ruled_of origins)) o → Contains (keys origins) o
ruled_asked [] o among = among
ruled_asked (origin ∷ origins) o among = go (λ later. contains_tail origin.0 o (keys origins) (ruled_asked origins o later)) (known_rules_in (Some origin.1)) refl among
  where
    go : (Contains (ruled_origins (filter_map ruled_of origins)) o → Contains (keys (origin ∷ origins)) o) → (r : Option RuleSetValue) → known_rules_in (Some origin.1) ≡ r
        → Contains (ruled_origins (filter_map ruled_of (origin ∷ origins))) o → Contains (keys (origin ∷ origins)) o
    go later None is here = later (rw is at here)
    go later (Some x) is here = elim (contains_cases origin.0 o (ruled_origins (filter_map ruled_of origins)) (rw is at here)) [
      | inl first ↦ (zero, omega arith, first)
      | inr among_later ↦ later among_later
    ]

-- no origin's rules are known twice
pub once_rules : (origins : List (Text × OriginRules)) → IsOnce (keys origins) → IsOnce (ruled_origins (filter_map ruled_of origins))
once_rules [] once = tt
once_rules (origin ∷ origins) once = go (once_rules origins once.1) (known_rules_in (Some origin.1)) refl
  where
    go : IsOnce (ruled_origins (filter_map ruled_of origins)) → (r : Option RuleSetValue) → known_rules_in (Some origin.1) ≡ r
        → IsOnce (ruled_origins (filter_map ruled_of (origin ∷ origins)))
    go rest None is = rw is rest
    go rest (Some x) is = rw is ((λ among. once.0 (ruled_asked origins origin.0 among)), rest)

-- pages in address order, taken apart
pub are_pages : {B : Type 0} (plan : Plan) (m : Answers) (pages sorted : List (KeptPage B)) (kept : List Text) (bodies : List B)
    → ((u : Text) → (Contains (map (λ page. page.address) pages) u → IsKept plan m u) × (IsKept plan m u → Contains (map (λ page. page.address) pages) u))
    → IsPermutation pages sorted → IsAscending (map (λ page. page.address) sorted) → kept ≡ map (λ page. page.address) sorted → bodies ≡ map (λ page. page.body) sorted
    → IsAscending kept × (length bodies ≡ length kept) × ((u : Text) → (Contains kept u → IsKept plan m u) × (IsKept plan m u → Contains kept u))
are_pages {B = B} plan m pages sorted kept bodies is moved up names parts =
    let address : KeptPage B → Text = λ page. page.address in
    let body : KeptPage B → B = λ page. page.body in
    let there : IsPermutation (map address pages) (map address sorted) = IsPermutation-map address pages sorted moved in
    let back : IsPermutation (map address sorted) (map address pages) = IsPermutation-sym _ _ there in (
      subst IsAscending (sym names) up,
      ap length parts ∙ length-map sorted body ∙ sym (length-map sorted address) ∙ ap length (sym names),
      (λ u. (
        (λ h. (is u).0 (Contains-permutation (map address sorted) (map address pages) u back (subst (λ (us : List Text). Contains us u) names h))),
        (λ h. subst (λ (us : List Text). Contains us u) (sym names) (Contains-permutation (map address pages) (map address sorted) u there ((is u).1 h))),
      )),
    )
