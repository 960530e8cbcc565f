-- What a line that is taken, or refused, states.
use Rattle.std.proofs.Common.{◌≡◌, ◌≢◌, ◌==◌, ℕ, ◌+◌, ◌<◌, ◌≤◌, ◌⊎◌, ◌∙◌, Bool, true, false, cond, List, [], ◌∷◌, Option, Some, None, Result, Ok, Err, MatchResult, refl, sym, ap, subst, inl, inr, length, drop, take, arith, length-drop, length-append}
use Rattle.std.specs.Prelude.{codes, IsSome}
use Rattle.std.specs.Option.{is_some}
use Rattle.std.specs.Map.{lookup}
use Rattle.std.specs.Str.{bytes_eq, IsUtf8}
use Rattle.std.proofs.lemmas.List.Quantifiers.{position-Some}
use Rattle.kept_bodies.specs.Bodies.{BodyValue}
use Rattle.address.specs.Address.{origin_of, path_query_of}
use Rattle.robots_rules.specs.Access.{RuleSetValue}
use Rattle.robots_rules.specs.Groups.{rules_in}
use Rattle.fetcher.specs.declared.answer.Answer.{Answer}
use Rattle.fetcher.specs.declared.fault_kind.FaultKind.{FaultKind}
use Rattle.site_inputs.specs.declared.input_fault.InputLineFault.{InputLineFault}
use Rattle.site_inputs.specs.declared.input_fault.InputLineFault.TheVariants.{Line, Address, Memory}
use Rattle.site_inputs.specs.Names.{recorded as named, IsRecorded as IsNamed}
use Rattle.site_records.specs.declared.reading.RecordReading.{RecordReading}
use Rattle.site_records.specs.EntryLines.{Statement, page, fault, file, free, closed, chain, IsForm, HasForm, text_of, HopStatement, hop, hopfault}
use Rattle.site_records.specs.Entries.{Entry, answered, ruled, chained, lines_of, no_response, HasBytes, IsLine, IsReadAs, States, IsAtRoot, Begins, IsRepeated, HasItsBytes, AreHopsOf, no_hops, more_hops, IsHop, ReadsHop, IsBadRow, IsBadBehind, LeadsOn}
use Rattle.site_records.specs.inner.Readings.{AddsLines, IsWrong, IsWrongAt, IsWrongChain, IsBadHop, IsStated, IsRuled, Keeps, TakesEntry, IsBad, Reads, lines_to, IsCounted}
use Rattle.address.specs.Address.{AddressText, OriginText}
use Rattle.answer_notes.specs.HopChains.{ChainValue, HopValue, IsAdmitted}
use Rattle.answer_notes.specs.RobotsAnswers.{all_allowed, none_allowed}
use Rattle.answer_notes.specs.declared.received.Received.{Received}
use Rattle.site_records.specs.declared.entry_fault.EntryFault.{EntryFault}
use Rattle.site_records.specs.declared.entry_fault.EntryFault.TheVariants.{Own, Hop}
use Rattle.site_records.specs.declared.taken.Taken.{Taken}
use Rattle.site_records.specs.declared.version.Version.{Version}
use Rattle.html_links.specs.declared.rules.LinkRules.{LinkRules}

-- what wasn't found
pub none_left : {A : Type 0} (o : Option A) (b : Bool) → b ≡ is_some o → b ≡ false → o ≡ None
none_left None b e f = refl
none_left (Some x) b e f = absurd cc

-- a text that isn't read as an address
pub unread : (answers : List (AddressText × Answer BodyValue)) (text : List ℕ) (f : InputLineFault) → (f ≡ Memory) ⊎ ((f ≡ Address) × ¬ IsNamed text) → IsStated answers text f
unread answers text f (inl e) = rw e tt
unread answers text f (inr h) = rw h.0 h.1

-- a text that isn't read as an origin
pub unrooted : (rules : List (OriginText × RuleSetValue)) (text : List ℕ) (f : InputLineFault)
    → (f ≡ Memory) ⊎ ((f ≡ Address) × ¬ IsNamed text) ⊎ ((f ≡ Line) × IsNamed text × (path_query_of (named text) ≢ codes "/")) → IsRuled rules text f
unrooted rules text f (inl e) = rw e tt
unrooted rules text f (inr (inl h)) = rw h.0 h.1
unrooted rules text f (inr (inr h)) = rw h.0 (h.1, inl h.2)

-- a line whose address isn't read, or has an answer
pub refused_answer : (old : RecordReading) (s : Statement) (behind : List ℕ) (f : InputLineFault)
    → (IsSome (lookup (bytes_eq (named (text_of s))) old.answers.entries) → IsRepeated old.answers.entries old.rules.entries s)
    → IsStated old.answers.entries (text_of s) f → IsWrong old s behind f
refused_answer old s behind Line to h = (h.0, inr (inl (to h.1)))
refused_answer old s behind Address to h = h
refused_answer old s behind Memory to h = tt

-- a line whose origin isn't read, or has rules
pub refused_rules : (old : RecordReading) (s : Statement) (behind : List ℕ) (f : InputLineFault) → (IsAtRoot s → path_query_of (named (text_of s)) ≡ codes "/")
    → (IsSome (lookup (bytes_eq (origin_of (named (text_of s)))) old.rules.entries) → IsRepeated old.answers.entries old.rules.entries s)
    → IsRuled old.rules.entries (text_of s) f → IsWrong old s behind f
refused_rules old s behind Line root to (is, inl elsewhere) = (is, inl (λ k. elsewhere (root k)))
refused_rules old s behind Line root to (is, inr some) = (is, inr (inl (to some)))
refused_rules old s behind Address root to h = h
refused_rules old s behind Memory root to h = tt

-- the entry that a line states is kept
pub takes : (old new : RecordReading) (s : Statement) (behind : List ℕ) (taken : Taken) (e : Entry) → IsNamed (text_of s) → IsAtRoot s → States old.links s behind e taken.after.now → Keeps old e new
    → taken.lines ≡ lines_of e → AddsLines old s behind taken new
takes old new s behind taken e named_is root states keeps lines = record {
  adds = record { entry = e; is_named = named_is; at_root = root; states = states; keeps = keeps };
  lines = lines;
}

-- the answer of a page is what its bytes are read as
pub page_states : (links : LinkRules) (text : List ℕ) (n : ℕ) (behind bytes after at : List ℕ) (a : Answer BodyValue) → HasBytes behind n bytes after → IsReadAs links at bytes a
    → named text ≡ at → States links (page text n) behind (answered at a) after
page_states links text n behind bytes after at a has read is = (bytes, a, has, rw is read, rw is refl)

pub fault_states : (links : LinkRules) (kind : FaultKind) (text behind at : List ℕ) → named text ≡ at → States links (fault kind text) behind (answered at (no_response kind)) behind
fault_states links kind text behind at is = (refl, rw is refl)

-- ---- from the line to the text

pub same_line : (text one other : List ℕ) (b c : List ℕ) → IsLine text one b → IsLine text other c → (one ≡ other) × (b ≡ c)
same_line text one other b c p q =
    let one = p.first in
    let two = q.first in
    let e : p.place ≡ q.place = cc in
    (p.line_is ∙ ap (λ k. take k text) e ∙ sym q.line_is, p.behind_is ∙ ap (λ k. drop (k + 1) text) e ∙ sym q.behind_is)

-- a text without a first line that is UTF-8 begins with no line that has a form
pub no_line : (version : Version) (text : List ℕ) → ((line behind : List ℕ) → IsLine text line behind → ¬ IsUtf8 line) → (s : Statement) (behind : List ℕ) → ¬ Begins version text s behind
no_line version text none s behind b = none b.line behind b.is_line b.form.0

-- nor one whose first line has no form
pub no_form : (version : Version) (text line behind : List ℕ) → IsLine text line behind → ((s : Statement) → ¬ HasForm version line s) → (s : Statement) (after : List ℕ) → ¬ Begins version text s after
no_form version text line behind is none s after b =
    let e = (same_line text b.line line after behind b.is_line is).0 in
    none s (rw e at b.form)

-- a line that is taken, or refused, is an entry that is
pub reads_entry : (old new : RecordReading) (r : Result Taken EntryFault) (text line behind : List ℕ) (s : Statement) → IsLine text line behind → HasForm old.version line s
    → TakesEntry old s behind r new → MatchResult r (λ taken. Reads old text taken.lines taken.after.now new) (λ f. IsBad old text f)
reads_entry old new (Ok taken) text line behind s is form t = record {
  entry = t.adds.entry;
  is = record { line = line; behind = behind; says = s; is_line = is; form = form; is_named = t.adds.is_named; at_root = t.adds.at_root; states = t.adds.states };
  lines_are = t.lines;
  keeps = t.adds.keeps;
}
reads_entry old new (Err (Own Line)) text line behind s is form t = inr (s, behind, record { line = line; is_line = is; form = form }, t.0, t.1)
reads_entry old new (Err (Own Address)) text line behind s is form t = (s, behind, record { line = line; is_line = is; form = form }, t)
reads_entry old new (Err (Own Memory)) text line behind s is form t = (s, behind, record { line = line; is_line = is; form = form })
reads_entry old new (Err (Hop k Line)) text line behind s is form t = (s, behind, record { line = line; is_line = is; form = form }, t.0, t.1, t.2, t.3)
reads_entry old new (Err (Hop k Address)) text line behind s is form t = (s, behind, record { line = line; is_line = is; form = form }, t.0, t.1, t.2, t.3)
reads_entry old new (Err (Hop k Memory)) text line behind s is form t = (s, behind, record { line = line; is_line = is; form = form })

-- ---- what is left is shorter

shorter_bytes : (behind bytes after : List ℕ) (n : ℕ) → HasBytes behind n bytes after → length after ≤ length behind
shorter_bytes behind bytes after n h = rw (h.after_is, length-drop) (omega arith)

shorter_line : (text line behind : List ℕ) → IsLine text line behind → length behind < length text
shorter_line text line behind is =
    let within = (position-Some (λ b. b == 10) text is.place 0 is.first).0 in
    rw (is.behind_is, length-drop) (omega (arith, within))

shorter_told : (s : HopStatement) (behind : List ℕ) (told : Received) (after : List ℕ) → ReadsHop s behind told after → length after ≤ length behind
shorter_told (hop text n) behind told after h = let (bytes, has, _) = h in shorter_bytes behind bytes after n has
shorter_told (hopfault kind text) behind told after h = rw h.0 (omega arith)

shorter_hop : (text : List ℕ) (h : HopValue) (after : List ℕ) → IsHop text h after → length after < length text
shorter_hop text h after is =
    let one = shorter_line text is.line is.behind is.is_line in
    let two = shorter_told is.says is.behind h.1 after is.tells in
    omega (arith, one, two)

-- each hop makes the rest shorter
pub shorter_hops : (text : List ℕ) (hops : List HopValue) (after : List ℕ) → AreHopsOf text hops after → length after + length hops ≤ length text
shorter_hops text hops after no_hops = omega arith
shorter_hops text hops after (more_hops before rest h last are is) =
    let long = length-append before (h ∷ []) in
    let one = shorter_hops text before rest are in
    let two = shorter_hop rest h last is in
    omega (arith, long, one, two)

shorter_entry : (links : LinkRules) (s : Statement) (behind after : List ℕ) (e : Entry) → States links s behind e after → length after + lines_of e ≤ length behind + 1
shorter_entry links (page text n) behind after e h = let (bytes, a, has, _, is) = h in let less = shorter_bytes behind bytes after n has in rw is (omega (arith, less))
shorter_entry links (fault kind text) behind after e h = rw (h.0, h.1) (omega arith)
shorter_entry links (file text n) behind after e h = let (bytes, has, is) = h in let less = shorter_bytes behind bytes after n has in rw is (omega (arith, less))
shorter_entry links (free text) behind after e h = rw (h.0, h.1) (omega arith)
shorter_entry links (closed text) behind after e h = rw (h.0, h.1) (omega arith)
shorter_entry links (chain text n) behind after e h = let (hops, are, _, _, is) = h in let less = shorter_hops behind hops after are in rw is (omega (arith, less))

short_row : (s : Statement) (behind : List ℕ) (k : ℕ) (IsBad : Option AddressText → List ℕ → Type 0) → IsBadBehind s behind k IsBad → k ≤ length behind
short_row (chain text n) behind k IsBad h = let (hops, rest, begun, long, _, _) = h in let less = shorter_hops behind hops rest begun.are in omega (arith, long, less)
short_row (page text n) behind k IsBad h = absurd h
short_row (fault kind text) behind k IsBad h = absurd h
short_row (file text n) behind k IsBad h = absurd h
short_row (free text) behind k IsBad h = absurd h
short_row (closed text) behind k IsBad h = absurd h

-- what follows an entry is shorter than the text, by as many lines as it has; and no more lines are read in front of a fault
pub shorter : (old new : RecordReading) (r : Result Taken EntryFault) (text line behind : List ℕ) (s : Statement) → IsLine text line behind
    → TakesEntry old s behind r new → MatchResult r (λ taken. length taken.after.now + taken.lines ≤ length text) (λ f. lines_to f ≤ length text)
shorter old new (Ok taken) text line behind s is t =
    let one = shorter_line text line behind is in
    let two = shorter_entry old.links s behind taken.after.now t.adds.entry t.adds.states in
    let lines = t.lines in
    omega (arith, one, two, lines)
shorter old new (Err (Own f)) text line behind s is t = omega arith
shorter old new (Err (Hop k f)) text line behind s is t =
    let one = shorter_line text line behind is in
    let two = short_row s behind k (IsBadHop f) t.3 in
    omega (arith, one, two)

-- ---- a chain

-- the hops after a chain's line are its entry
pub chain_states : (links : LinkRules) (text : List ℕ) (n : ℕ) (behind after of : List ℕ) (c : ChainValue) → AreHopsOf behind c.hops after → length c.hops ≡ n → IsAdmitted of c.hops → c.of ≡ of
    → origin_of (named text) ≡ of → States links (chain text n) behind (chained c.of c.hops) after
chain_states links text n behind after of c are long admitted same is =
    (c.hops, are, long, subst (λ o. IsAdmitted o c.hops) (sym is) admitted, ap (λ o. chained o c.hops) (same ∙ sym is))

-- a chain that is refused after its line
pub wrong_chain : (old : RecordReading) (text : List ℕ) (n : ℕ) (behind : List ℕ) (of : List ℕ) (f : EntryFault) → IsNamed text → path_query_of (named text) ≡ codes "/"
    → origin_of (named text) ≡ of → lookup (bytes_eq of) old.rules.entries ≡ None → IsWrongChain of n behind f → IsWrongAt old (chain text n) behind f
wrong_chain old text n behind of (Own Line) named_is root is none h = (named_is, inr (inr (inr (subst (λ o. LeadsOn o n behind) (sym is) h))))
wrong_chain old text n behind of (Own Address) named_is root is none h = absurd h
wrong_chain old text n behind of (Own Memory) named_is root is none h = tt
wrong_chain old text n behind of (Hop k f) named_is root is none h =
    (named_is, root, (λ some. let gone = rw (is, none) at some in cc), subst (λ o. IsBadRow o n behind k (IsBadHop f)) (sym is) h)

-- ---- lines that are refused after their address

-- a line whose bytes aren't there
pub without_bytes : (old : RecordReading) (s : Statement) (behind : List ℕ) → IsNamed (text_of s) → ¬ HasItsBytes s behind → IsWrong old s behind Line
without_bytes old s behind named_is none = (named_is, inr (inr (inl none)))

-- the rules of an origin are those of its robots file
pub file_states : (links : LinkRules) (text : List ℕ) (n : ℕ) (behind bytes after of own : List ℕ) (r : RuleSetValue) → HasBytes behind n bytes after → r ≡ rules_in bytes
    → own ≡ of → origin_of (named text) ≡ of → States links (file text n) behind (ruled own r) after
file_states links text n behind bytes after of own r has read same is = (bytes, has, rw (is, same, read) refl)

-- a line by which everything is allowed, or nothing, at an origin that isn't read or has rules
pub refused_bare : (old : RecordReading) (allowed : Bool) (text behind : List ℕ) (f : InputLineFault) → IsRuled old.rules.entries text f → IsWrong old (cond allowed (free text) (closed text)) behind f
refused_bare old true text behind f h = refused_rules old (free text) behind f (λ k. k) (λ k. k) h
refused_bare old false text behind f h = refused_rules old (closed text) behind f (λ k. k) (λ k. k) h

-- or those by which everything is allowed, or nothing
pub bare_states : (old new : RecordReading) (allowed : Bool) (text : List ℕ) (behind : List ℕ) (taken : Taken) (of own : List ℕ) (r : RuleSetValue) → IsNamed text → path_query_of (named text) ≡ codes "/"
    → r ≡ cond allowed all_allowed none_allowed → own ≡ of → origin_of (named text) ≡ of → taken.after.now ≡ behind → taken.lines ≡ 1 → Keeps old (ruled own r) new
    → AddsLines old (cond allowed (free text) (closed text)) behind taken new
bare_states old new true text behind taken of own r named_is root rules same is after lines keeps =
    takes old new (free text) behind taken (ruled own r) named_is root (after, rw (is, same, rules) refl) keeps lines
bare_states old new false text behind taken of own r named_is root rules same is after lines keeps =
    takes old new (closed text) behind taken (ruled own r) named_is root (after, rw (is, same, rules) refl) keeps lines

-- the number of hops that a line counts is one that a chain may have
pub counted_form : (fs : List (List ℕ)) (s : Statement) → IsForm fs s → IsCounted s
counted_form fs (page text n) h = tt
counted_form fs (fault kind text) h = tt
counted_form fs (file text n) h = tt
counted_form fs (free text) h = tt
counted_form fs (closed text) h = tt
counted_form fs (chain text n) h = h.3
