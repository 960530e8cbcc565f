-- The lines of a harvest have the names of its kept pages, in order, and exactly the pages that are to be kept have one.
use Rattle.std.proofs.Common.{◌≡◌, ◌≢◌, ◌↔◌, ℕ, ◌<◌, zero, suc, inl, inr, Bool, true, false, ◌&&◌, List, [], ◌∷◌, Option, Some, None, IsTrue, length, get_or, map, refl, sym, ap, ◌∙◌, subst, arith}
use Rattle.std.specs.Prelude.{Contains, AllPairs, MatchOption, is_some, option_map}
use Rattle.std.specs.List.{filter_map, cons_option}
use Rattle.std.specs.Str.{bytes_eq}
use Rattle.std.proofs.lemmas.Bool.{false≢true, cond-true, cond-false}
use Rattle.std.proofs.lemmas.List.{get_or_default}
use Rattle.std.proofs.lemmas.List.Sorted.{Contains-permutation}
use Rattle.address.specs.AddressOrder.{IsBefore, IsAscending}
use Rattle.address.proofs.AddressOrderLaws.{not_before, not_before_itself}
use Rattle.fetcher.specs.declared.outcome.Outcome.{Outcome}
use Rattle.follow_filters.specs.Rules.{keeps_of}
use Rattle.follow_filters.specs.declared.plan.Plan.{Plan}
use Rattle.frontier_core.specs.Tables.{Text, lookup, keys, IsOnce}
use Rattle.frontier_core.specs.Machine.{State, Slot, answers, slot_outcome, outcome_in}
use Rattle.frontier_core.specs.Readers.{Recorded, entry_of, record_of}
use Rattle.frontier_core.specs.Views.{condition_of}
use Rattle.harvest.specs.Entries.{Seen, seen_of, seen_in, said_by, is_refused, recorded_addresses, IsPlaceOf}
use Rattle.harvest.specs.Gathered.{AreEntries, AreRecords, ArePages}
use Rattle.harvest.specs.Harvests.{Harvested}
use Rattle.harvest.specs.Pages.{IsKept, is_success}
use Rattle.harvest.specs.declared.entry.HarvestEntry.{HarvestEntry}
use Rattle.report.specs.Entries.{fate_at, name_among, line_with, line_at, harvest_lines_of}
use Rattle.report.specs.Named.{has_succeeded, is_to_keep, named_pages, names_in}
use Rattle.report.specs.Report.{Line, Fate, Asked, Refused}
use Rattle.report.proofs.HarvestLaws.{Holds, held, answered, unanswered, FateOf, fate_from, by_rules, by_record, line_is, ascending_lines}
use Rattle.report.proofs.ListLaws.{contains_tail, contains_cases, to_map, from_map, to_given, from_given, given_alike}
use Rattle.report.proofs.NameLaws.{no_name}
use Rattle.report.proofs.TableLaws.{same, other, compare_texts, found_stands}

-- two texts aren't each before the other
not_both : (u v : Text) → IsBefore u v → IsBefore v u → ⊥
not_both u v before after = false≢true (sym (not_before u v before) ∙ after)

-- no text is before one that is it
before_itself : (u v : Text) → u ≡ v → IsBefore u v → ⊥
before_itself u v is before = not_before_itself v (subst (λ (w : Text). IsBefore w v) is before)

-- f of each page and its name
abbrev paired : {Y : Type 0} → (Text → List ℕ → Y) → List Text → List (List ℕ) → List Y
paired f [] names = []
paired f (page ∷ pages) [] = []
paired f (page ∷ pages) (name ∷ names) = f page name ∷ paired f pages names

paired_names : (pages : List Text) (names : List (List ℕ)) → length names ≡ length pages → paired (λ page name. name) pages names ≡ names
paired_names [] [] long = refl
paired_names [] (name ∷ names) long = absurd (omega arith)
paired_names (page ∷ pages) [] long = absurd (omega arith)
paired_names (page ∷ pages) (name ∷ names) long = ap (λ (rest : List (List ℕ)). name ∷ rest) (paired_names pages names (omega arith))

paired_pages : (pages : List Text) (names : List (List ℕ)) → length names ≡ length pages → paired (λ page name. page) pages names ≡ pages
paired_pages [] names long = refl
paired_pages (page ∷ pages) [] long = absurd (omega arith)
paired_pages (page ∷ pages) (name ∷ names) long = ap (λ (rest : List Text). page ∷ rest) (paired_pages pages names (omega arith))

-- an ascending list without its first
later_up : (page : Text) (pages : List Text) → IsAscending (page ∷ pages) → IsAscending pages
later_up page pages up a b d less within = up (suc a) (suc b) d (omega arith) (omega arith)

-- the first of an ascending list is before the others
first_before : (page : Text) (pages : List Text) (u : Text) → IsAscending (page ∷ pages) → Contains pages u → IsBefore page u
first_before page pages u up (k, lt, at) = subst (λ (v : Text). IsBefore page v) at (up 0 (suc k) u (omega arith) (omega arith))

module _ {X Y : Type 0} (key : X → Text) (f : Text → List ℕ → Y) where
  -- what is given of an address by its name
  abbrev of_name : List Text → List (List ℕ) → X → Option Y
  of_name kept names x = option_map (λ name. f (key x) name) (name_among kept names (key x))

  -- an address that isn't the first page is looked for among the others
  passed : (page : Text) (name : List ℕ) (kept : List Text) (names : List (List ℕ)) (x : X) → page ≢ key x → of_name (page ∷ kept) (name ∷ names) x ≡ of_name kept names x
  passed page name kept names x differs =
      elim (compare_texts page (key x)) [
        | same h e ↦ absurd (differs h)
        | other h e ↦ rw e refl
      ]

  -- of addresses that ascend, among which all pages are, the names are those of the pages, in their order
  along : (xs : List X) (kept : List Text) (names : List (List ℕ)) → AllPairs (λ x y. IsBefore (key x) (key y)) xs → IsAscending kept → length names ≡ length kept
      → ((u : Text) → Contains kept u → (x : X) × Contains xs x × (key x ≡ u)) → filter_map (of_name kept names) xs ≡ paired f kept names
  along [] [] names ups up long among = refl
  along [] (page ∷ kept) names ups up long among =
      let (x, (k, lt, at), is) = among page (zero, omega arith, refl) in absurd (omega arith)
  along (x ∷ xs) [] names ups up long among =
      along xs [] names (λ a b d less within. ups (suc a) (suc b) d (omega arith) (omega arith)) up long (λ u held. let (k, lt, at) = held in absurd (omega arith))
  along (x ∷ xs) (page ∷ kept) [] ups up long among = absurd (omega arith)
  along (x ∷ xs) (page ∷ kept) (name ∷ names) ups up long among =
      elim (compare_texts page (key x)) [
        | same h e ↦ (
            let own : name_among (page ∷ kept) (name ∷ names) (key x) ≡ Some name = cond-true (bytes_eq page (key x)) (Some name) (name_among kept names (key x)) e in
            let rest = given_alike (of_name (page ∷ kept) (name ∷ names)) (of_name kept names) xs (λ y there. passed page name kept names y (λ is. before_itself (key x) (key y) (sym h ∙ is) (before y there))) in
            let later = along xs kept names tail (later_up page kept up) (omega arith) (λ u held. past u (λ is. before_itself page u (h ∙ is) (first_before page kept u up held)) (among u (contains_tail page u kept held))) in
            ap (λ (o : Option (List ℕ)). cons_option (option_map (λ n. f (key x) n) o) (filter_map (of_name (page ∷ kept) (name ∷ names)) xs)) own
            ∙ ap (λ (ys : List Y). f (key x) name ∷ ys) (rest ∙ later)
            ∙ ap (λ (u : Text). f u name ∷ paired f kept names) (sym h))
        | other h e ↦ (
            let (y, there, is) = past page (λ at. h (sym at)) (among page (zero, omega arith, refl)) in
            let x_before : IsBefore (key x) page = subst (λ (u : Text). IsBefore (key x) u) is (before y there) in
            let none : name_among (page ∷ kept) (name ∷ names) (key x) ≡ None = no_name (page ∷ kept) (name ∷ names) (key x) (λ i within. absent x_before h i within) in
            ap (λ (o : Option (List ℕ)). cons_option (option_map (λ n. f (key x) n) o) (filter_map (of_name (page ∷ kept) (name ∷ names)) xs)) none
            ∙ along xs (page ∷ kept) (name ∷ names) tail up long (λ u held. past u (λ at. elsewhere x_before h u held at) (among u held)))
      ]
    where
      tail : AllPairs (λ y z. IsBefore (key y) (key z)) xs
      tail a b d less within = ups (suc a) (suc b) d (omega arith) (omega arith)

      before : (y : X) → Contains xs y → IsBefore (key x) (key y)
      before y (k, lt, at) = subst (λ (z : X). IsBefore (key x) (key z)) at (ups 0 (suc k) y (omega arith) (omega arith))

      past : (u : Text) → (key x ≡ u → ⊥) → (y : X) × Contains (x ∷ xs) y × (key y ≡ u) → (y : X) × Contains xs y × (key y ≡ u)
      past u differs (y, there, is) =
          elim (contains_cases x y xs there) [
            | inl first ↦ absurd (differs (ap key first ∙ is))
            | inr later ↦ (y, later, is)
          ]

      elsewhere : IsBefore (key x) page → page ≢ key x → (u : Text) → Contains (page ∷ kept) u → key x ≡ u → ⊥
      elsewhere x_before differs u held at =
          elim (contains_cases page u kept held) [
            | inl first ↦ differs (first ∙ sym at)
            | inr later ↦ not_both (key x) page x_before (subst (λ (v : Text). IsBefore page v) (sym at) (first_before page kept u up later))
          ]

      absent : IsBefore (key x) page → page ≢ key x → (i : ℕ) → i < length (page ∷ kept) → get_or (page ∷ kept) i [] ≢ key x
      absent x_before differs i within is = elsewhere x_before differs (get_or (page ∷ kept) i []) (i, within, get_or_default (page ∷ kept) i (get_or (page ∷ kept) i []) [] within) (sym is)

-- ---- the lines of a harvest

-- what was answered is in the records
recorded : {B : Type 0} (h : Harvested B) → AreRecords h → (u : Text) (slot : Slot) (x : Outcome) → lookup h.state.entries u ≡ Some slot → outcome_in slot.progress ≡ Some x → Contains h.records (u, x)
recorded h are u slot x found is =
    Contains-permutation (filter_map record_of h.state.entries) h.records (u, x) are.same
    (to_given record_of h.state.entries (u, slot) (u, x) (found_stands h.state.entries u slot found) (rw is refl))

-- something became of an entry that is recorded
became : (records : List Recorded) (u : Text) (refused : Bool) (place : Option ℕ) → IsPlaceOf records u place → Contains (recorded_addresses records) u → (fate : Fate) × (fate_at records refused place ≡ Some fate)
became records u true place placed among = (Refused, refl)
became records u false None placed among = absurd (placed among)
became records u false (Some i) (x, is) among = (Asked x, rw is refl)

-- the slot of what was answered
answered_slot : (s : State) (u : Text) (x : Outcome) → (answers s).outcome u ≡ Some x → (slot : Slot) × (lookup s.entries u ≡ Some slot) × (outcome_in slot.progress ≡ Some x)
answered_slot s u x is = go (lookup s.entries u) refl is
  where
    go : (o : Option Slot) → lookup s.entries u ≡ o → slot_outcome o ≡ Some x → (slot : Slot) × (lookup s.entries u ≡ Some slot) × (outcome_in slot.progress ≡ Some x)
    go None found answered = cc
    go (Some slot) found answered = (slot, found, answered)

-- what was answered has a line
answered_line : {B : Type 0} (h : Harvested B) (names : List (List ℕ)) → AreEntries h → AreRecords h → (u : Text) (x : Outcome) → (answers h.state).outcome u ≡ Some x
    → (line : Line) × Contains (harvest_lines_of h names) line × (line.address ≡ u)
answered_line h names are records u x is =
    let (slot, found, outcome) = answered_slot h.state u x is in
    let seen = Contains-permutation (seen_in h.state) (map said_by h.entries) (u, slot.depth, is_refused (condition_of slot.progress)) are.same
    (to_map (λ (entry : Text × Slot). seen_of (entry_of entry)) h.state.entries (u, slot) (found_stands h.state.entries u slot found)) in
    let (e, there, says) = from_map said_by h.entries _ seen in
    let named : e.address ≡ u = ap (λ (z : Seen). z.0) says in
    let (k, lt, at) = there in
    let placed = subst (λ (z : HarvestEntry). IsPlaceOf h.records z.address z.answer) at (are.places k e lt) in
    let among = subst (λ (v : Text). Contains (recorded_addresses h.records) v) (sym named) (to_map (λ (r : Recorded). r.0) h.records (u, x) (recorded h records u slot x found outcome)) in
    let (fate, is_fate) = became h.records e.address e.refused e.answer placed among in (
      line_with h names e fate,
      to_given (line_at h names) h.entries e _ there (rw is_fate refl),
      named,
    )

-- a kept page has a line
kept_line : {B : Type 0} (h : Harvested B) (names : List (List ℕ)) → AreEntries h → AreRecords h → ArePages h → (u : Text) → Contains h.kept u → (line : Line) × Contains (harvest_lines_of h names) line × (line.address ≡ u)
kept_line h names are records pages u held = go h.plan pages.kept
  where
    go : (plan : Option Plan) → MatchOption plan (h.kept ≡ []) (λ plan. (v : Text) → Contains h.kept v ↔ IsKept plan (answers h.state) v) → (line : Line) × Contains (harvest_lines_of h names) line × (line.address ≡ u)
    go None none = let (k, lt, at) = subst (λ (pages : List Text). Contains pages u) none held in absurd (omega arith)
    go (Some plan) so = let kept = (so u).0 held in answered_line h names are records u kept.0 kept.1

-- the name of a line is that of its page among the kept ones
named_among : {B : Type 0} (h : Harvested B) (names : List (List ℕ)) (line : Line) → Contains (harvest_lines_of h names) line → name_among h.kept names line.address ≡ line.name
named_among h names line among = let (e, there, is) = from_given (line_at h names) h.entries line among in (line_is h names e _ line is).name

same_name : (o : Option (List ℕ)) → o ≡ option_map (λ name. name) o
same_name None = refl
same_name (Some name) = refl

-- the names of the lines are those that were handed in
pub names_of_lines : {B : Type 0} (h : Harvested B) (names : List (List ℕ)) → AreEntries h → AreRecords h → ArePages h → length names ≡ length h.kept → names_in (harvest_lines_of h names) ≡ names
names_of_lines h names are records pages long =
    given_alike (λ (line : Line). line.name) (of_name (λ (line : Line). line.address) (λ page name. name) h.kept names) (harvest_lines_of h names)
    (λ line among. sym (named_among h names line among) ∙ same_name (name_among h.kept names line.address))
    ∙ along (λ (line : Line). line.address) (λ page name. name) (harvest_lines_of h names) h.kept names (ascending_lines h names are) pages.ascending long (kept_line h names are records pages)
    ∙ paired_names h.kept names long

-- the pages of the lines that have one are the kept pages
pub pages_of_lines : {B : Type 0} (h : Harvested B) (names : List (List ℕ)) → AreEntries h → AreRecords h → ArePages h → length names ≡ length h.kept → named_pages (harvest_lines_of h names) ≡ h.kept
pages_of_lines h names are records pages long =
    given_alike (λ (line : Line). option_map (λ name. line.address) line.name) (of_name (λ (line : Line). line.address) (λ page name. page) h.kept names) (harvest_lines_of h names)
    (λ line among. ap (option_map (λ name. line.address)) (sym (named_among h names line among)))
    ∙ along (λ (line : Line). line.address) (λ page name. page) (harvest_lines_of h names) h.kept names (ascending_lines h names are) pages.ascending long (kept_line h names are records pages)
    ∙ paired_pages h.kept names long

-- ---- which lines have a name

-- a page among those that are kept has a name
has_name : (kept : List Text) (names : List (List ℕ)) (u : Text) → length names ≡ length kept → Contains kept u → is_some (name_among kept names u) ≡ true
has_name [] names u long (k, lt, at) = absurd (omega arith)
has_name (page ∷ kept) [] u long held = absurd (omega arith)
has_name (page ∷ kept) (name ∷ names) u long held =
    elim (compare_texts page u) [
      | same h e ↦ ap (λ (o : Option (List ℕ)). is_some o) (cond-true (bytes_eq page u) (Some name) (name_among kept names u) e)
      | other h e ↦ ap (λ (o : Option (List ℕ)). is_some o) (cond-false (bytes_eq page u) (Some name) (name_among kept names u) e)
          ∙ has_name kept names u (omega arith) (elim (contains_cases page u kept held) [
            | inl is ↦ absurd (h is)
            | inr later ↦ later
          ])
    ]

-- one that isn't has none
has_no_name : (kept : List Text) (names : List (List ℕ)) (u : Text) → (Contains kept u → ⊥) → is_some (name_among kept names u) ≡ false
has_no_name kept names u none = ap (λ (o : Option (List ℕ)). is_some o) (no_name kept names u (λ i within is. none (i, within, get_or_default kept i u [] within ∙ is)))

both : (a b : Bool) → (a && b) ≡ true → IsTrue a × IsTrue b
both true true h = (refl, refl)
both true false h = absurd (false≢true h)
both false b h = absurd (false≢true h)

-- whether a page has a name if its outcome is known
named_by_outcome : (plan : Plan) (s : State) (kept : List Text) (names : List (List ℕ)) (u : Text) (x : Outcome) → length names ≡ length kept
    → Contains kept u ↔ IsKept plan (answers s) u → (answers s).outcome u ≡ Some x → is_some (name_among kept names u) ≡ (is_success x && keeps_of plan u)
named_by_outcome plan s kept names u x long kept_is said = go (is_success x && keeps_of plan u) refl
  where
    go : (b : Bool) → (is_success x && keeps_of plan u) ≡ b → is_some (name_among kept names u) ≡ (is_success x && keeps_of plan u)
    go true is = let two = both (is_success x) (keeps_of plan u) is in has_name kept names u long (kept_is.1 (x, said, two.0, two.1)) ∙ sym is
    go false is = has_no_name kept names u (λ held.
        let (y, told, success, keeps) = kept_is.0 held in
        let alike : Some x ≡ Some y = sym said ∙ told in
        let is_y : x ≡ y = cc in
        let won : is_success x ≡ true = ap is_success is_y ∙ success in
        false≢true (sym is ∙ rw (won, keeps) refl)) ∙ sym is

-- of what was not answered there is no name
unnamed : (plan : Plan) (s : State) (kept : List Text) (names : List (List ℕ)) (u : Text) → Contains kept u ↔ IsKept plan (answers s) u → (answers s).outcome u ≡ None
    → is_some (name_among kept names u) ≡ false
unnamed plan s kept names u kept_is none = has_no_name kept names u (λ held. let (y, told, success, keeps) = kept_is.0 held in let no : None ≡ Some y = sym none ∙ told in cc)

-- exactly the lines have a name whose page is to be kept
pub line_to_keep : {B : Type 0} (plan : Plan) (h : Harvested B) (names : List (List ℕ)) → AreEntries h → AreRecords h → IsOnce (keys h.state.entries) → length names ≡ length h.kept
    → ((u : Text) → Contains h.kept u ↔ IsKept plan (answers h.state) u) → (line : Line) → Contains (harvest_lines_of h names) line → is_some line.name ≡ is_to_keep plan line
line_to_keep plan h names are records once long kept line among =
    let (e, there, is) = from_given (line_at h names) h.entries line among in
    let said = line_is h names e _ line is in
    let stands = held h are once e there in
    let (k, lt, at) = there in
    let placed = subst (λ (z : HarvestEntry). IsPlaceOf h.records z.address z.answer) at (are.places k e lt) in
    ap (λ (o : Option (List ℕ)). is_some o) (sym said.name)
    ∙ subst (λ (u : Text). is_some (name_among h.kept names u) ≡ (has_succeeded line.fate && keeps_of plan u)) said.address (by_fate e stands (fate_from h.records e.address e.refused e.answer line.fate placed said.fate))
  where
    by_fate : (e : HarvestEntry) → Holds h.state e.address e.depth e.refused → FateOf h.records e.address e.refused line.fate
        → is_some (name_among h.kept names e.address) ≡ (has_succeeded line.fate && keeps_of plan e.address)
    by_fate e stands (by_rules shut f) =
        unnamed plan h.state h.kept names e.address (kept e.address) (ap slot_outcome stands.found ∙ unanswered stands.slot.progress (stands.refused ∙ shut))
        ∙ ap (λ (fate : Fate). has_succeeded fate && keeps_of plan e.address) (sym f)
    by_fate e stands (by_record x among f) =
        let said = answered h records once e.address x among in
        named_by_outcome plan h.state h.kept names e.address x long (kept e.address) (ap slot_outcome said.found ∙ said.outcome)
        ∙ ap (λ (fate : Fate). has_succeeded fate && keeps_of plan e.address) (sym f)
