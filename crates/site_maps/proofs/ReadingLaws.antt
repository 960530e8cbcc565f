-- What is kept represents the lines so far, once one more line is taken.
use Rattle.std.proofs.Common.{◌≡◌, ◌≢◌, ℕ, ◌⊎◌, ◌++◌, Bool, true, false, List, [], ◌∷◌, Option, Some, None, Result, Ok, Err, refl, sym, ap, ◌∙◌, inl, inr, append_assoc, cond, IsTrue, IsSome, is_some}
use Rattle.std.specs.Prelude.{codes, string_bytes}
use Rattle.std.specs.List.{All}
use Rattle.std.specs.Map.{lookup}
use Rattle.std.specs.Str.{bytes_eq}
use Rattle.std.proofs.lemmas.List.{append-nil}
use Rattle.std.proofs.lemmas.List.Elements.{All-nil, All-cons, All-push, All-head}
use Rattle.std.proofs.lemmas.Slice.Eq.{bytes_eq-Decides}
use Rattle.address.specs.Address.{read_address, origin_of, path_query_of}
use Rattle.robots_rules.specs.Access.{RuleSetValue}
use Rattle.robots_rules.specs.Groups.{rules_in}
use Rattle.fetcher.specs.declared.edge.EdgeKind.{EdgeKind}
use Rattle.fetcher.specs.declared.edge.Edge.{Edge}
use Rattle.fetcher.specs.declared.fault_kind.FaultKind.{FaultKind}
use Rattle.site_maps.specs.declared.rule_kind.RuleKind.{RuleKind}
use Rattle.fetcher.specs.declared.outcome.Outcome.{Outcome}
use Rattle.fetcher.specs.declared.outcome.Outcome.TheVariants as outcome
use Rattle.site_inputs.specs.declared.input_fault.InputLineFault.{InputLineFault}
use Rattle.site_inputs.specs.declared.input_fault.InputLineFault.TheVariants.{Line, Address, Memory}
use Rattle.site_maps.specs.declared.open_robots.OpenRobots.{OpenRobots}
use Rattle.site_maps.specs.declared.reading.OpenPage.{OpenPage}
use Rattle.site_maps.specs.declared.reading.Open.{Open}
use Rattle.site_maps.specs.declared.reading.Open.TheVariants.{Page, Robots}
use Rattle.site_maps.specs.declared.reading.MapReading.{MapReading}
use Rattle.site_maps.specs.RuleLines.{file_head, file_line}
use Rattle.site_maps.specs.Lines.{Statement, skipped, page, edge, moved, leaf, fault, robots, closed, rule}
use Rattle.site_inputs.specs.Names.{named, IsNamed}
use Rattle.site_maps.specs.Maps.{edges_below, answers_of, file_below, rules_of, is_between, is_ruling, HasAbove, HasRobots, IsPage, IsRobots, IsInPlace, IsAtRoot, IsRepeated, IsGood, texts_of}
use Rattle.site_maps.specs.inner.Readings.{opened_answer, opened_rules, answers_in, all_rules, IsFresh, TellsAnswers, TellsRules, TellsAbove, IsWrong, IsTaken, Closes, Adds, Takes}
use Rattle.site_inputs.proofs.NameLaws.{names}
use Rattle.site_maps.proofs.MapLaws.{snoc_same, edges_below-go, answers_of-append, answers_of-skipped, answers_of-open, file_below-go, file_below-skipped, rules_of-append, rules_of-skipped, rules_of-open, head_above, still_above, was_above, ends_above, page_apart, robots_apart}

-- ---- entries for a key

-- the key of an entry is found
pub finds_own : {V : Type 0} (at : List ℕ) (x : V) → IsSome (lookup (bytes_eq at) ((at, x) ∷ []))
finds_own at x = let e : bytes_eq at at ≡ true = (bytes_eq-Decides at at).1 refl in rw e refl

-- and no other
finds_only : {V : Type 0} (at key : List ℕ) (x : V) → IsSome (lookup (bytes_eq at) ((key, x) ∷ [])) → at ≡ key
finds_only {V} at key x h = only (bytes_eq at key) refl h
  where
    only : (b : Bool) → bytes_eq at key ≡ b → is_some (cond b (Some x) None) ≡ true → at ≡ key
    only true e k = (bytes_eq-Decides at key).0 e
    only false e k = absurd cc

-- two lists of entries have no key in common if the second has none for the one of the first
pub apart_from : {V : Type 0} (one more : List (List ℕ × V)) (key : List ℕ) (x : V) → one ≡ (key, x) ∷ [] → lookup (bytes_eq key) more ≡ None
    → (at : List ℕ) → IsSome (lookup (bytes_eq at) one) → ¬ IsSome (lookup (bytes_eq at) more)
apart_from one more key x shape none at own there =
    let same = finds_only at key x (rw shape at own) in
    let gone = rw (same, none) at there in
    cc

-- ---- lines that state an answer

-- the line is a moved, leaf or fault line
pub is_answer : Statement → Bool
is_answer (moved status text target) = true
is_answer (leaf status text) = true
is_answer (fault kind text) = true
is_answer other = false

-- what is true of such a line
pub record AnswersAlone (s : Statement) : Type 0 where
  pub between : is_between s ≡ false
  pub ruling : is_ruling s ≡ false
  pub no_page : ¬ IsPage s
  pub no_robots : ¬ IsRobots s
  pub no_rules : rules_of (s ∷ []) ≡ []
  pub at_root : IsAtRoot s
  pub in_place : (above : List Statement) → IsInPlace above s

pub answers_alone : (s : Statement) → is_answer s ≡ true → AnswersAlone s
unfolding is_answer
answers_alone (moved status text target) h = record {
  between = refl;
  ruling = refl;
  no_page = λ k. let e = k.2 in cc;
  no_robots = λ k. let e = k.1 in cc;
  no_rules = refl;
  at_root = tt;
  in_place = λ above. tt;
}
answers_alone (leaf status text) h = record {
  between = refl;
  ruling = refl;
  no_page = λ k. let e = k.2 in cc;
  no_robots = λ k. let e = k.1 in cc;
  no_rules = refl;
  at_root = tt;
  in_place = λ above. tt;
}
answers_alone (fault kind text) h = record {
  between = refl;
  ruling = refl;
  no_page = λ k. let e = k.2 in cc;
  no_robots = λ k. let e = k.1 in cc;
  no_rules = refl;
  at_root = tt;
  in_place = λ above. tt;
}
answers_alone other h = absurd cc

-- ---- repetitions

-- an answer for an address that has none is no repetition
pub not_repeated : (above : List Statement) (s : Statement) (address : List ℕ) (x : Outcome) → answers_of (s ∷ []) ≡ (address, x) ∷ [] → rules_of (s ∷ []) ≡ []
    → lookup (bytes_eq address) (answers_of above) ≡ None → ¬ IsRepeated above s
not_repeated above s address x shape bare none (inl h) = apart_from (answers_of (s ∷ [])) (answers_of above) address x shape none h.0 h.1 h.2
not_repeated above s address x shape bare none (inr h) = let k = rw bare at h.1 in cc

-- rules for an origin that has none are no repetition
pub not_repeated_rules : (above : List Statement) (s : Statement) (origin : List ℕ) (r : RuleSetValue) → answers_of (s ∷ []) ≡ [] → rules_of (s ∷ []) ≡ (origin, r) ∷ []
    → lookup (bytes_eq origin) (rules_of above) ≡ None → ¬ IsRepeated above s
not_repeated_rules above s origin r bare shape none (inl h) = let k = rw bare at h.1 in cc
not_repeated_rules above s origin r bare shape none (inr h) = apart_from (rules_of (s ∷ [])) (rules_of above) origin r shape none h.0 h.1 h.2

-- a line that states nothing repeats nothing
pub not_repeated_bare : (above : List Statement) (s : Statement) → answers_of (s ∷ []) ≡ [] → rules_of (s ∷ []) ≡ [] → ¬ IsRepeated above s
not_repeated_bare above s bare empty (inl h) = let k = rw bare at h.1 in cc
not_repeated_bare above s bare empty (inr h) = let k = rw empty at h.1 in cc

-- ---- one more line: the answers

-- no page is open
no_answer : (o : Option Open) → ((p : OpenPage) → o ≢ Some (Page p)) → opened_answer o ≡ []
no_answer None h = refl
no_answer (Some (Page p)) h = absurd (h p refl)
no_answer (Some (Robots r)) h = refl

-- a line that is no page, edge or skipped line
pub took_answers : (old new : MapReading) (above : List Statement) (s : Statement) (stated : List (List ℕ × Outcome))
    → is_between s ≡ false → ¬ IsPage s → answers_of (s ∷ []) ≡ stated
    → TellsAnswers old above → ((p : OpenPage) → new.open ≢ Some (Page p)) → new.answers.entries ≡ answers_in old ++ stated → TellsAnswers new (above ++ s ∷ [])
took_answers old new above s stated apart other shape t shut kept = record {
  stated =
      answers_of-append above s [] apart ∙ ap (λ l. answers_of above ++ l) shape ∙ ap (λ l. l ++ stated) t.stated
      ∙ sym kept ∙ sym (append-nil new.answers.entries) ∙ ap (λ l. new.answers.entries ++ l) (sym (no_answer new.open shut));
  above_open = λ h. absurd (shut h.0 h.1);
  open_below = λ h. absurd (ends_above IsPage is_between above s apart other h);
  fresh = λ p e. absurd (shut p e);
}

-- a page line
pub took_page : (old new : MapReading) (above : List Statement) (status : ℕ) (text : List ℕ) (p : OpenPage)
    → TellsAnswers old above → read_address text ≡ Ok p.address → lookup (bytes_eq p.address) (answers_in old) ≡ None → p.status ≡ status → p.edges.items ≡ []
    → new.open ≡ Some (Page p) → new.answers.entries ≡ answers_in old → TellsAnswers new (above ++ page status text ∷ [])
took_page old new above status text p t reads none same bare is kept = record {
  stated =
      let e = names text p.address reads in
      let a = answers_of-append above (page status text) [] refl in
      let b = ap opened_answer is in
      let c = e.1 in
      let d = t.stated in
      cc;
  above_open = λ h. head_above IsPage is_between above (page status text) (status, text, refl);
  open_below = λ h. (p, is);
  fresh = λ q e. let k : p ≡ q = (let both = sym is ∙ e in cc) in rw (← k, kept) none;
}

-- a page with one more edge
with_edge : Edge → Outcome → Outcome
with_edge one (outcome.Page status links) = outcome.Page status (links ++ one ∷ [])
with_edge one (outcome.Moved status target) = outcome.Moved status target
with_edge one (outcome.Leaf status) = outcome.Leaf status
with_edge one (outcome.Fault kind) = outcome.Fault kind

-- the last answer of lines with their page above is that of the page
last_page : (above : List Statement) (status : ℕ) (text : List ℕ) (between : List Statement) (s : Statement) → s ≡ page status text → All (λ s. IsTrue (is_between s)) between
    → answers_of (above ++ s ∷ between) ≡ answers_of above ++ (named text, outcome.Page status (edges_below between)) ∷ []
last_page above status text between s e all = rw e (answers_of-open above status text between all)

-- an edge line
pub took_edge : (old new : MapReading) (above : List Statement) (kind : EdgeKind) (text target : List ℕ) (p q : OpenPage)
    → TellsAnswers old above → read_address text ≡ Ok target → old.open ≡ Some (Page p) → new.open ≡ Some (Page q) → q.address ≡ p.address → q.status ≡ p.status
    → q.edges.items ≡ p.edges.items ++ record { target = target; kind = kind } ∷ [] → new.answers.entries ≡ old.answers.entries
    → TellsAnswers new (above ++ edge kind text ∷ [])
unfolding with_edge
took_edge old new above kind text target p q t reads was is address status edges kept =
    let there = t.above_open (p, was) in
    record {
      stated =
          let (higher, head, between, e, (st, owner, line), all) = there in
          let more = All-push (λ s. IsTrue (is_between s)) between (edge kind text) all refl in
          let now = ap answers_of (ap (λ l. l ++ edge kind text ∷ []) e ∙ append_assoc higher (head ∷ between) (edge kind text ∷ [])) in
          let below = last_page higher st owner (between ++ edge kind text ∷ []) head line more in
          let go = edges_below-go between (edge kind text ∷ []) all in
          let before = sym (last_page higher st owner between head line all) ∙ sym (ap answers_of e) ∙ t.stated ∙ ap (λ o. old.answers.entries ++ opened_answer o) was in
          let ends = snoc_same (answers_of higher) old.answers.entries (named owner, outcome.Page st (edges_below between)) (p.address, outcome.Page p.status p.edges.items) before in
          let one : Edge = record { target = named text; kind = kind } in
          let owned : named owner ≡ p.address = ap (λ a. a.0) ends.1 in
          let grown : outcome.Page st (edges_below between ++ one ∷ []) ≡ outcome.Page p.status (p.edges.items ++ one ∷ []) = ap (λ a. with_edge one a.1) ends.1 in
          let name = (names text target reads).1 in
          now ∙ below
          ∙ ap (λ es. answers_of higher ++ (named owner, outcome.Page st es) ∷ []) go
          ∙ ap (λ front. front ++ (named owner, outcome.Page st (edges_below between ++ one ∷ [])) ∷ []) ends.0
          ∙ ap (λ a. old.answers.entries ++ (a, outcome.Page st (edges_below between ++ one ∷ [])) ∷ []) owned
          ∙ ap (λ x. old.answers.entries ++ (p.address, x) ∷ []) grown
          ∙ ap (λ t. old.answers.entries ++ (p.address, outcome.Page p.status (p.edges.items ++ record { target = t; kind = kind } ∷ [])) ∷ []) name
          ∙ ap (λ es. old.answers.entries ++ (p.address, outcome.Page p.status es) ∷ []) (sym edges)
          ∙ ap (λ n. old.answers.entries ++ (p.address, outcome.Page n q.edges.items) ∷ []) (sym status)
          ∙ ap (λ a. old.answers.entries ++ (a, outcome.Page q.status q.edges.items) ∷ []) (sym address)
          ∙ ap (λ front. front ++ (q.address, outcome.Page q.status q.edges.items) ∷ []) (sym kept)
          ∙ ap (λ o. new.answers.entries ++ opened_answer o) (sym is);
      above_open = λ h. still_above IsPage is_between above (edge kind text) refl there;
      open_below = λ h. (q, is);
      fresh = λ r e. let k : q ≡ r = (let both = sym is ∙ e in cc) in rw (← k, address, kept) (t.fresh p was);
    }

-- ---- one more line: the rule sets

-- no origin is open
no_rules : (o : Option Open) → ((r : OpenRobots) → o ≢ Some (Robots r)) → opened_rules o ≡ []
no_rules None h = refl
no_rules (Some (Page p)) h = refl
no_rules (Some (Robots r)) h = absurd (h r refl)

-- a line that is no robots, rule or skipped line
pub took_rules : (old new : MapReading) (above : List Statement) (s : Statement) (stated : List (List ℕ × RuleSetValue))
    → is_ruling s ≡ false → ¬ IsRobots s → rules_of (s ∷ []) ≡ stated
    → TellsRules old above → ((r : OpenRobots) → new.open ≢ Some (Robots r)) → new.rules.entries ≡ all_rules old ++ stated → TellsRules new (above ++ s ∷ [])
took_rules old new above s stated apart other shape t shut kept = record {
  stated =
      rules_of-append above s [] apart ∙ ap (λ l. rules_of above ++ l) shape ∙ ap (λ l. l ++ stated) t.stated
      ∙ sym kept ∙ sym (append-nil new.rules.entries) ∙ ap (λ l. new.rules.entries ++ l) (sym (no_rules new.open shut));
  above_open = λ r e. absurd (shut r e);
  open_below = λ h. absurd (ends_above IsRobots is_ruling above s apart other h);
  fresh = λ r e. absurd (shut r e);
}

-- a robots line
pub took_robots : (old new : MapReading) (above : List Statement) (text : List ℕ) (r : OpenRobots)
    → TellsRules old above → origin_of (named text) ≡ r.origin → lookup (bytes_eq r.origin) (all_rules old) ≡ None → string_bytes r.file ≡ file_head
    → new.open ≡ Some (Robots r) → new.rules.entries ≡ all_rules old → TellsRules new (above ++ robots text ∷ [])
took_robots old new above text r t names none bare is kept = record {
  stated =
      rules_of-append above (robots text) [] refl
      ∙ ap (λ o. rules_of above ++ (o, rules_in (file_head ++ [])) ∷ []) names
      ∙ ap (λ f. rules_of above ++ (r.origin, rules_in f) ∷ []) (append-nil file_head ∙ sym bare)
      ∙ ap (λ front. front ++ (r.origin, rules_in (string_bytes r.file)) ∷ []) (t.stated ∙ sym kept)
      ∙ ap (λ o. new.rules.entries ++ opened_rules o) (sym is);
  above_open = λ q e. let k : r ≡ q = (let both = sym is ∙ e in cc) in rw (← k) (record {
    higher = above;
    text = text;
    between = [];
    lines = refl;
    ruling = All-nil (λ s. IsTrue (is_ruling s));
    origin = sym names;
    file = bare ∙ sym (append-nil file_head);
  });
  open_below = λ h. (r, is);
  fresh = λ q e. let k : r ≡ q = (let both = sym is ∙ e in cc) in rw (← k, kept) none;
}

-- the rules that are kept are those of the lines above the open origin
rules_higher : (old : MapReading) (above : List Statement) (r : OpenRobots) (t : TellsRules old above) (was : old.open ≡ Some (Robots r))
    → rules_of (t.above_open r was).higher ≡ old.rules.entries
rules_higher old above r t was =
    let h = t.above_open r was in
    let before = sym (rules_of-open h.higher h.text h.between h.ruling) ∙ sym (ap rules_of h.lines) ∙ t.stated ∙ ap (λ o. old.rules.entries ++ opened_rules o) was in
    (snoc_same (rules_of h.higher) old.rules.entries (origin_of (named h.text), rules_in (file_head ++ file_below h.between)) (r.origin, rules_in (string_bytes r.file)) before).0

-- a rule line
pub took_rule : (old new : MapReading) (above : List Statement) (kind : RuleKind) (rest : List ℕ) (r q : OpenRobots)
    → TellsRules old above → old.open ≡ Some (Robots r) → new.open ≡ Some (Robots q) → q.origin ≡ r.origin
    → string_bytes q.file ≡ string_bytes r.file ++ file_line kind rest → new.rules.entries ≡ old.rules.entries
    → TellsRules new (above ++ rule kind rest ∷ [])
took_rule old new above kind rest r q t was is origin file kept =
    let h = t.above_open r was in
    let more = All-push (λ s. IsTrue (is_ruling s)) h.between (rule kind rest) h.ruling refl in
    let lines = ap (λ l. l ++ rule kind rest ∷ []) h.lines ∙ append_assoc h.higher (robots h.text ∷ h.between) (rule kind rest ∷ []) in
    let go = file_below-go h.between (rule kind rest ∷ []) h.ruling ∙ ap (λ l. file_below h.between ++ l) (append-nil (file_line kind rest)) in
    let whole : file_head ++ file_below (h.between ++ rule kind rest ∷ []) ≡ string_bytes q.file =
    ap (λ l. file_head ++ l) go ∙ sym (append_assoc file_head (file_below h.between) (file_line kind rest)) ∙ ap (λ f. f ++ file_line kind rest) (sym h.file) ∙ sym file
    in
    record {
      stated =
          ap rules_of lines ∙ rules_of-open h.higher h.text (h.between ++ rule kind rest ∷ []) more
          ∙ ap (λ f. rules_of h.higher ++ (origin_of (named h.text), rules_in f) ∷ []) whole
          ∙ ap (λ o. rules_of h.higher ++ (o, rules_in (string_bytes q.file)) ∷ []) (sym h.origin ∙ sym origin)
          ∙ ap (λ front. front ++ (q.origin, rules_in (string_bytes q.file)) ∷ []) (rules_higher old above r t was ∙ sym kept)
          ∙ ap (λ o. new.rules.entries ++ opened_rules o) (sym is);
      above_open = λ p e. let k : q ≡ p = (let both = sym is ∙ e in cc) in rw (← k) (record {
        higher = h.higher;
        text = h.text;
        between = h.between ++ rule kind rest ∷ [];
        lines = lines;
        ruling = more;
        origin = origin ∙ h.origin;
        file = sym whole;
      });
      open_below = λ h. (q, is);
      fresh = λ p e. let k : q ≡ p = (let both = sym is ∙ e in cc) in rw (← k, origin, kept) (t.fresh r was);
    }

-- ---- a skipped line

-- the answers are as before
skipped_answers : (r : MapReading) (above : List Statement) → TellsAnswers r above → TellsAnswers r (above ++ skipped ∷ [])
skipped_answers r above t = record {
  stated = answers_of-skipped above ∙ t.stated;
  above_open = λ h. still_above IsPage is_between above skipped refl (t.above_open h);
  open_below = λ h. t.open_below (was_above IsPage is_between above skipped page_apart refl h);
  fresh = t.fresh;
}

-- and so are the rule sets
skipped_rules : (r : MapReading) (above : List Statement) → TellsRules r above → TellsRules r (above ++ skipped ∷ [])
skipped_rules r above t = record {
  stated = rules_of-skipped above ∙ t.stated;
  above_open = λ q e. let h = t.above_open q e in record {
    higher = h.higher;
    text = h.text;
    between = h.between ++ skipped ∷ [];
    lines = ap (λ l. l ++ skipped ∷ []) h.lines ∙ append_assoc h.higher (robots h.text ∷ h.between) (skipped ∷ []);
    ruling = All-push (λ s. IsTrue (is_ruling s)) h.between skipped h.ruling refl;
    origin = h.origin;
    file = h.file ∙ ap (λ l. file_head ++ l) (sym (file_below-skipped h.between));
  };
  open_below = λ h. t.open_below (was_above IsRobots is_ruling above skipped robots_apart refl h);
  fresh = t.fresh;
}

-- a skipped line
pub took_skipped : (r : MapReading) (above : List Statement) → TellsAbove r above → TellsAbove r (above ++ skipped ∷ [])
took_skipped r above t = record { answers = skipped_answers r above t.answers; rules = skipped_rules r above t.rules }

-- ---- what is wrong

-- what is kept for the open page or origin is fresh
pub fresh_of : (r : MapReading) (above : List Statement) → TellsAbove r above → IsFresh r
fresh_of r above t = record { page = t.answers.fresh; origin = t.rules.fresh }

-- an address of the line is refused, or memory ran out
pub unnamed : (above : List Statement) (s : Statement) (text : List ℕ) (f : InputLineFault) → IsInPlace above s → (All IsNamed (texts_of s) → IsNamed text)
    → (f ≡ Memory) ⊎ ((f ≡ Address) × ¬ IsNamed text) → IsWrong above s f
unnamed above s text f place all (inl e) = rw e place
unnamed above s text f place all (inr h) = rw h.0 (place, λ each. h.1 (all each))

-- the same of a line with an origin, whose address may also have a path
pub unrooted : (above : List Statement) (s : Statement) (text : List ℕ) (f : InputLineFault) → IsInPlace above s → texts_of s ≡ text ∷ [] → (IsAtRoot s → path_query_of (named text) ≡ codes "/")
    → (f ≡ Memory) ⊎ ((f ≡ Address) × ¬ IsNamed text) ⊎ ((f ≡ Line) × IsNamed text × (path_query_of (named text) ≢ codes "/")) → IsWrong above s f
unrooted above s text f place texts root (inl e) = rw e place
unrooted above s text f place texts root (inr (inl h)) = rw h.0 (place, λ each. h.1 (All-head IsNamed text [] (rw texts at each)))
unrooted above s text f place texts root (inr (inr h)) =
    rw h.0 (inr (place, rw texts (All-cons IsNamed text [] h.1 (All-nil IsNamed)), inl (λ k. h.2 (root k))))

-- the line's address has an answer, or memory ran out
pub claimed : (above : List Statement) (s : Statement) (address : List ℕ) (x : Outcome) (f : InputLineFault) → IsInPlace above s → All IsNamed (texts_of s)
    → answers_of (s ∷ []) ≡ (address, x) ∷ [] → IsTaken (answers_of above) address f → IsWrong above s f
claimed above s address x f place all shape (inl e) = rw e place
claimed above s address x f place all shape (inr h) = rw h.0 (inr (place, all, inr (inl (address, rw shape (finds_own address x), h.1))))

-- the line's origin has rules, or memory ran out
pub claimed_origin : (above : List Statement) (s : Statement) (origin : List ℕ) (r : RuleSetValue) (f : InputLineFault) → IsInPlace above s → All IsNamed (texts_of s)
    → rules_of (s ∷ []) ≡ (origin, r) ∷ [] → IsTaken (rules_of above) origin f → IsWrong above s f
claimed_origin above s origin r f place all shape (inl e) = rw e place
claimed_origin above s origin r f place all shape (inr h) = rw h.0 (inr (place, all, inr (inr (origin, rw shape (finds_own origin r), h.1))))

-- ---- lines that state an answer

-- nothing is open, so no page is
no_page : (r : MapReading) → r.open ≡ None → (p : OpenPage) → r.open ≢ Some (Page p)
no_page r none p e = let k = sym none ∙ e in cc

-- nor is an origin
no_origin : (r : MapReading) → r.open ≡ None → (p : OpenRobots) → r.open ≢ Some (Robots p)
no_origin r none p e = let k = sym none ∙ e in cc

-- a moved, leaf or fault line is taken if its answer is kept
pub takes_answer : {U : Type 0} (old new : MapReading) (r : Result U InputLineFault) (s : Statement) (address : List ℕ) (x : Outcome)
    → is_answer s ≡ true → answers_of (s ∷ []) ≡ (address, x) ∷ [] → All IsNamed (texts_of s)
    → Adds old address x r new
    → Takes old s r new
takes_answer old new (Ok u) s address x kind shape all h = λ above t.
    let k = h (fresh_of old above t) in
    let a = answers_alone s kind in (
      record { in_place = a.in_place above; are_named = all; at_root = a.at_root; is_new = not_repeated above s address x shape a.no_rules (rw t.answers.stated k.none) },
      record {
        answers = took_answers old new above s ((address, x) ∷ []) a.between a.no_page shape t.answers (no_page new k.closed) k.answers;
        rules = took_rules old new above s [] a.ruling a.no_robots a.no_rules t.rules (no_origin new k.closed) (k.rules ∙ sym (append-nil (all_rules old)));
      },
    )
takes_answer old new (Err f) s address x kind shape all h = λ above t.
    claimed above s address x f ((answers_alone s kind).in_place above) all shape (rw t.answers.stated (h (fresh_of old above t)))

-- a moved line
pub takes_moved : {U : Type 0} (old new : MapReading) (r : Result U InputLineFault) (status : ℕ) (text target address to : List ℕ)
    → read_address text ≡ Ok address → read_address target ≡ Ok to
    → Adds old address (outcome.Moved status to) r new
    → Takes old (moved status text target) r new
unfolding is_answer
takes_moved old new r status text target address to reads leads h =
    let a = names text address reads in
    let b = names target to leads in
    let shape : answers_of (moved status text target ∷ []) ≡ (address, outcome.Moved status to) ∷ [] = (let x = a.1 in let y = b.1 in cc) in
    takes_answer old new r (moved status text target) address (outcome.Moved status to) refl shape
    (All-cons IsNamed text (target ∷ []) a.0 (All-cons IsNamed target [] b.0 (All-nil IsNamed))) h

-- a leaf line
pub takes_leaf : {U : Type 0} (old new : MapReading) (r : Result U InputLineFault) (status : ℕ) (text address : List ℕ)
    → read_address text ≡ Ok address
    → Adds old address (outcome.Leaf status) r new
    → Takes old (leaf status text) r new
unfolding is_answer
takes_leaf old new r status text address reads h =
    let a = names text address reads in
    let shape : answers_of (leaf status text ∷ []) ≡ (address, outcome.Leaf status) ∷ [] = (let x = a.1 in cc) in
    takes_answer old new r (leaf status text) address (outcome.Leaf status) refl shape (All-cons IsNamed text [] a.0 (All-nil IsNamed)) h

-- a fault line
pub takes_fault : {U : Type 0} (old new : MapReading) (r : Result U InputLineFault) (kind : FaultKind) (text address : List ℕ)
    → read_address text ≡ Ok address
    → Adds old address (outcome.Fault kind) r new
    → Takes old (fault kind text) r new
unfolding is_answer
takes_fault old new r kind text address reads h =
    let a = names text address reads in
    let shape : answers_of (fault kind text ∷ []) ≡ (address, outcome.Fault kind) ∷ [] = (let x = a.1 in cc) in
    takes_answer old new r (fault kind text) address (outcome.Fault kind) refl shape (All-cons IsNamed text [] a.0 (All-nil IsNamed)) h

-- ---- page and edge lines

-- a page line that is taken is good, and what is kept represents it
pub takes_page : (old shut new : MapReading) (above : List Statement) (status : ℕ) (text : List ℕ) (p : OpenPage) → TellsAbove old above → Closes old shut
    → read_address text ≡ Ok p.address → lookup (bytes_eq p.address) (answers_in old) ≡ None → p.status ≡ status → p.edges.items ≡ []
    → new.open ≡ Some (Page p) → new.answers.entries ≡ shut.answers.entries → new.rules.entries ≡ shut.rules.entries
    → IsGood above (page status text) × TellsAbove new (above ++ page status text ∷ [])
takes_page old shut new above status text p t closes reads none same bare is answers rules =
    let a = names text p.address reads in
    let shape : answers_of (page status text ∷ []) ≡ (p.address, outcome.Page status []) ∷ [] = (let x = a.1 in cc) in
    let empty : rules_of (page status text ∷ []) ≡ [] = refl in (
      record {
        in_place = tt;
        are_named = All-cons IsNamed text [] a.0 (All-nil IsNamed);
        at_root = tt;
        is_new = not_repeated above (page status text) p.address (outcome.Page status []) shape empty (rw t.answers.stated none);
      },
      record {
        answers = took_page old new above status text p t.answers reads none same bare is (answers ∙ closes.answers);
        rules =
            took_rules old new above (page status text) [] refl (λ k. let e = k.1 in cc) empty t.rules (λ r e. let k = sym is ∙ e in cc)
            (rules ∙ closes.rules ∙ sym (append-nil (all_rules old)));
      },
    )

-- a page line whose address has an answer
pub page_claimed : (r : MapReading) (above : List Statement) (status : ℕ) (text address : List ℕ) (f : InputLineFault) → TellsAbove r above → read_address text ≡ Ok address
    → IsTaken (answers_in r) address f → IsWrong above (page status text) f
page_claimed r above status text address f t reads h =
    let a = names text address reads in
    let shape : answers_of (page status text ∷ []) ≡ (address, outcome.Page status []) ∷ [] = (let x = a.1 in cc) in
    claimed above (page status text) address (outcome.Page status []) f tt (All-cons IsNamed text [] a.0 (All-nil IsNamed)) shape (rw t.answers.stated h)

-- an edge line below its page is good, and what is kept represents it
pub takes_edge : (old new : MapReading) (above : List Statement) (kind : EdgeKind) (text target : List ℕ) (p q : OpenPage)
    → TellsAbove old above → read_address text ≡ Ok target → old.open ≡ Some (Page p) → new.open ≡ Some (Page q) → q.address ≡ p.address → q.status ≡ p.status
    → q.edges.items ≡ p.edges.items ++ record { target = target; kind = kind } ∷ [] → new.answers.entries ≡ old.answers.entries → new.rules.entries ≡ old.rules.entries
    → IsGood above (edge kind text) × TellsAbove new (above ++ edge kind text ∷ [])
takes_edge old new above kind text target p q t reads was is address status edges answers rules = (
  record {
    in_place = t.answers.above_open (p, was);
    are_named = All-cons IsNamed text [] (names text target reads).0 (All-nil IsNamed);
    at_root = tt;
    is_new = not_repeated_bare above (edge kind text) refl refl;
  },
  record {
    answers = took_edge old new above kind text target p q t.answers reads was is address status edges answers;
    rules =
        took_rules old new above (edge kind text) [] refl (λ k. let e = k.1 in cc) refl t.rules (λ r e. let k = sym is ∙ e in cc)
        (rules ∙ sym (append-nil old.rules.entries) ∙ ap (λ o. old.rules.entries ++ opened_rules o) (sym was) ∙ sym (append-nil (all_rules old)));
  },
)

-- ---- robots and rule lines

-- what is true of both kinds of robots lines, whose origin has these rules
pub record StatesRules (s : Statement) (text origin : List ℕ) (r : RuleSetValue) : Type 0 where
  pub between : is_between s ≡ false
  pub no_page : ¬ IsPage s
  pub texts : texts_of s ≡ text ∷ []
  pub place : (above : List Statement) → IsInPlace above s
  pub at_root : IsAtRoot s
  pub no_answers : answers_of (s ∷ []) ≡ []
  pub rules : rules_of (s ∷ []) ≡ (origin, r) ∷ []

-- a robots line that is taken is good
good_origin : (above : List Statement) (s : Statement) (text origin : List ℕ) (r : RuleSetValue) → StatesRules s text origin r → IsNamed text
    → lookup (bytes_eq origin) (rules_of above) ≡ None → IsGood above s
good_origin above s text origin r a named none = record {
  in_place = a.place above;
  are_named = rw a.texts (All-cons IsNamed text [] named (All-nil IsNamed));
  at_root = a.at_root;
  is_new = not_repeated_rules above s origin r a.no_answers a.rules none;
}

-- a robots line whose origin has rules
pub origin_claimed : (old : MapReading) (above : List Statement) (s : Statement) (text origin : List ℕ) (r : RuleSetValue) (f : InputLineFault) → TellsAbove old above → StatesRules s text origin r
    → IsNamed text → IsTaken (all_rules old) origin f → IsWrong above s f
origin_claimed old above s text origin r f t a named h =
    claimed_origin above s origin r f (a.place above) (rw a.texts (All-cons IsNamed text [] named (All-nil IsNamed))) a.rules (rw t.rules.stated h)

pub states_robots : (text origin : List ℕ) → path_query_of (named text) ≡ codes "/" → origin_of (named text) ≡ origin
    → StatesRules (robots text) text origin (rules_in (file_head ++ []))
states_robots text origin root is = record {
  between = refl;
  no_page = λ k. let e = k.2 in cc;
  texts = refl;
  place = λ above. tt;
  at_root = root;
  no_answers = refl;
  rules = ap (λ o. (o, rules_in (file_head ++ [])) ∷ []) is;
}

pub states_closed : (text origin : List ℕ) → path_query_of (named text) ≡ codes "/" → origin_of (named text) ≡ origin
    → StatesRules (closed text) text origin (record { closed = true; rules = [] })
states_closed text origin root is = record {
  between = refl;
  no_page = λ k. let e = k.2 in cc;
  texts = refl;
  place = λ above. tt;
  at_root = root;
  no_answers = refl;
  rules = ap (λ o. (o, record { closed = true; rules = [] }) ∷ []) is;
}

-- a robots line with rules below is good, and what is kept represents it
pub takes_robots : (old shut new : MapReading) (above : List Statement) (text : List ℕ) (r : OpenRobots) → TellsAbove old above → Closes old shut → IsNamed text
    → path_query_of (named text) ≡ codes "/" → origin_of (named text) ≡ r.origin → lookup (bytes_eq r.origin) (all_rules old) ≡ None → string_bytes r.file ≡ file_head
    → new.open ≡ Some (Robots r) → new.answers.entries ≡ shut.answers.entries → new.rules.entries ≡ shut.rules.entries
    → IsGood above (robots text) × TellsAbove new (above ++ robots text ∷ [])
takes_robots old shut new above text r t closes named root names none bare is answers rules =
    let a = states_robots text r.origin root names in (
      good_origin above (robots text) text r.origin (rules_in (file_head ++ [])) a named (rw t.rules.stated none),
      record {
        answers =
            took_answers old new above (robots text) [] refl a.no_page refl t.answers (λ p e. let k = sym is ∙ e in cc)
            (answers ∙ closes.answers ∙ sym (append-nil (answers_in old)));
        rules = took_robots old new above text r t.rules names none bare is (rules ∙ closes.rules);
      },
    )

-- a robots line without rules below is good, and what is kept represents it
pub takes_closed : (old new : MapReading) (above : List Statement) (text origin : List ℕ) → TellsAbove old above → IsNamed text
    → path_query_of (named text) ≡ codes "/" → origin_of (named text) ≡ origin → lookup (bytes_eq origin) (all_rules old) ≡ None
    → new.open ≡ None → new.answers.entries ≡ answers_in old → new.rules.entries ≡ all_rules old ++ (origin, record { closed = true; rules = [] }) ∷ []
    → IsGood above (closed text) × TellsAbove new (above ++ closed text ∷ [])
takes_closed old new above text origin t named root names none is answers rules =
    let a = states_closed text origin root names in (
      good_origin above (closed text) text origin (record { closed = true; rules = [] }) a named (rw t.rules.stated none),
      record {
        answers = took_answers old new above (closed text) [] refl a.no_page refl t.answers (no_page new is) (answers ∙ sym (append-nil (answers_in old)));
        rules =
            took_rules old new above (closed text) ((origin, record { closed = true; rules = [] }) ∷ []) refl (λ k. let e = k.1 in cc) a.rules t.rules
            (no_origin new is) rules;
      },
    )

-- an origin that is open is above
pub below_origin : (old : MapReading) (above : List Statement) (r : OpenRobots) → TellsAbove old above → old.open ≡ Some (Robots r) → HasRobots above
below_origin old above r t was = let h = t.rules.above_open r was in (h.higher, robots h.text, h.between, h.lines, (h.text, refl), h.ruling)

-- a rule line below its origin is good, and what is kept represents it
pub takes_rule : (old new : MapReading) (above : List Statement) (kind : RuleKind) (rest : List ℕ) (r q : OpenRobots)
    → TellsAbove old above → old.open ≡ Some (Robots r) → new.open ≡ Some (Robots q) → q.origin ≡ r.origin
    → string_bytes q.file ≡ string_bytes r.file ++ file_line kind rest → new.answers.entries ≡ old.answers.entries → new.rules.entries ≡ old.rules.entries
    → IsGood above (rule kind rest) × TellsAbove new (above ++ rule kind rest ∷ [])
takes_rule old new above kind rest r q t was is origin file answers rules = (
  record {
    in_place = below_origin old above r t was;
    are_named = All-nil IsNamed;
    at_root = tt;
    is_new = not_repeated_bare above (rule kind rest) refl refl;
  },
  record {
    answers =
        took_answers old new above (rule kind rest) [] refl (λ k. let e = k.2 in cc) refl t.answers (λ p e. let k = sym is ∙ e in cc)
        (answers ∙ sym (append-nil old.answers.entries) ∙ ap (λ o. old.answers.entries ++ opened_answer o) (sym was) ∙ sym (append-nil (answers_in old)));
    rules = took_rule old new above kind rest r q t.rules was is origin file rules;
  },
)

-- a skipped line is good
pub good_skipped : (above : List Statement) → IsGood above skipped
good_skipped above = record { in_place = tt; are_named = All-nil IsNamed; at_root = tt; is_new = not_repeated_bare above skipped refl refl }

-- ---- before the first line

-- no line has another above it
none_above : (IsHead : Statement → Type 0) (passes : Statement → Bool) → ¬ HasAbove IsHead passes []
none_above IsHead passes ([], head, between, e, is, all) = cc
none_above IsHead passes (s ∷ above, head, between, e, is, all) = cc

-- nothing is kept, and it represents no line
pub tells_nothing : (r : MapReading) → r.open ≡ None → r.answers.entries ≡ [] → r.rules.entries ≡ [] → TellsAbove r []
tells_nothing r none bare empty = record {
  answers = record {
    stated = sym (ap (λ l. l ++ opened_answer r.open) bare ∙ ap opened_answer none);
    above_open = λ h. absurd (no_page r none h.0 h.1);
    open_below = λ h. absurd (none_above IsPage is_between h);
    fresh = λ p e. absurd (no_page r none p e);
  };
  rules = record {
    stated = sym (ap (λ l. l ++ opened_rules r.open) empty ∙ ap opened_rules none);
    above_open = λ q e. absurd (no_origin r none q e);
    open_below = λ h. absurd (none_above IsRobots is_ruling h);
    fresh = λ q e. absurd (no_origin r none q e);
  };
}
