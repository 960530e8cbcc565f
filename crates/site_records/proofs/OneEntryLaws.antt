-- A text that begins with a line, and says one thing after it, begins with one entry and no other.
use Rattle.std.proofs.Common.{◌≡◌, ℕ, ◌∙◌, List, [], ◌∷◌, ◌++◌, refl, sym, ap, subst, inl, inr}
use Rattle.kept_bodies.specs.Bodies.{BodyValue}
use Rattle.address.specs.Address.{AddressText}
use Rattle.fetcher.specs.declared.answer.Answer.{Answer}
use Rattle.response_reader.specs.Limits.{standard}
use Rattle.response_reader.specs.Response.{ResponseParts, BeginsWithResponse}
use Rattle.response_reader.proofs.OneResponse.{one_response, faulty_has_none}
use Rattle.response_answer.specs.Digests.{digest_of, body_of}
use Rattle.answer_notes.specs.HopChains.{HopValue}
use Rattle.answer_notes.specs.declared.received.Received.{Received}
use Rattle.answer_notes.specs.declared.received.Received.TheVariants as received
use Rattle.site_inputs.specs.Names.{recorded as named, IsRecorded as IsNamed}
use Rattle.site_records.specs.declared.version.Version.{Version}
use Rattle.site_records.specs.EntryLines.{Statement, HasForm, text_of, HopStatement, HasHopForm, hop_text}
use Rattle.site_records.specs.Entries.{Entry, IsLine, HasBytes, IsReadAs, States, IsAtRoot, IsEntry, IsReceivedIn, ReadsHop, IsHop, AreHopsOf, no_hops, more_hops}
use Rattle.site_records.proofs.TornLaws.{begins_once, begins_hop_once}
use Rattle.html_links.specs.declared.rules.LinkRules.{LinkRules}

-- ---- what bytes say

one_bytes_before : (behind : List ℕ) (n : ℕ) (one other a b : List ℕ) → HasBytes behind n one a → HasBytes behind n other b → (one ≡ other) × (a ≡ b)
one_bytes_before behind n one other a b p q = (p.bytes_are ∙ sym q.bytes_are, p.after_is ∙ sym q.after_is)

answer_same : (a b : Answer BodyValue) → a.outcome ≡ b.outcome → a.body ≡ b.body → a ≡ b
answer_same a b outcome body = λ i. record { outcome = outcome i; body = body i }

-- bytes that begin with a response are read as its answer alone
one_answer : (links : LinkRules) (at : AddressText) (bytes : List ℕ) (r : ResponseParts) (a : Answer BodyValue) → BeginsWithResponse r bytes → IsReadAs links at bytes a
    → a ≡ record { outcome = digest_of links at r; body = body_of r.head r.body }
one_answer links at bytes r a begins (inl d) =
    let same : d.response ≡ r = (one_response standard bytes d.response r d.begins.0 begins.0 d.begins.1 begins.1).0 in
    answer_same a (record { outcome = digest_of links at r; body = body_of r.head r.body })
    (d.outcome ∙ ap (λ q. digest_of links at q) same) (d.body ∙ ap (λ (q : ResponseParts). body_of q.head q.body) same)
one_answer links at bytes r a begins (inr f) = absurd (faulty_has_none standard f.fault bytes f.text f.of_bytes r begins.0 begins.1)

-- and contain it alone
one_told : (bytes : List ℕ) (r : ResponseParts) (said : Received) → BeginsWithResponse r bytes → IsReceivedIn bytes said → said ≡ received.Whole r
one_told bytes r (received.Whole q) begins is = ap received.Whole (one_response standard bytes q r is.0 begins.0 is.1 begins.1).0
one_told bytes r (received.Fault kind) begins (fault, text, of, _) = absurd (faulty_has_none standard fault bytes text of r begins.0 begins.1)

-- so does what follows the line of a page, and of a hop
pub one_page : (links : LinkRules) (at : AddressText) (behind : List ℕ) (n : ℕ) (bytes after other rest : List ℕ) (r : ResponseParts) (a : Answer BodyValue)
    → HasBytes behind n bytes after → BeginsWithResponse r bytes → HasBytes behind n other rest → IsReadAs links at other a
    → (a ≡ record { outcome = digest_of links at r; body = body_of r.head r.body }) × (rest ≡ after)
one_page links at behind n bytes after other rest r a has begins has_other read =
    let (same, rests) = one_bytes_before behind n other bytes rest after has_other has in
    (one_answer links at bytes r a begins (subst (λ b. IsReadAs links at b a) same read), rests)

pub one_hop_told : (behind : List ℕ) (n : ℕ) (bytes after other rest : List ℕ) (r : ResponseParts) (said : Received)
    → HasBytes behind n bytes after → BeginsWithResponse r bytes → HasBytes behind n other rest → IsReceivedIn other said → (said ≡ received.Whole r) × (rest ≡ after)
one_hop_told behind n bytes after other rest r said has begins has_other tells =
    let (same, rests) = one_bytes_before behind n other bytes rest after has_other has in
    (one_told bytes r said begins (subst (λ b. IsReceivedIn b said) same tells), rests)

-- ---- from the line to the text

-- the text begins with this entry, in front of what follows, and with no other
abbrev pub IsOneEntry : Version → LinkRules → List ℕ → Entry → List ℕ → Type 0
IsOneEntry version links text e after =
    IsEntry version links text e after × ((f : Entry) (rest : List ℕ) → IsEntry version links text f rest → (f ≡ e) × (rest ≡ after))

pub one_entry : (version : Version) (links : LinkRules) (text line behind : List ℕ) (s : Statement) (e : Entry) (after : List ℕ) → IsLine text line behind → HasForm version line s
    → IsNamed (text_of s) → IsAtRoot s → States links s behind e after
    → ((f : Entry) (rest : List ℕ) → States links s behind f rest → (f ≡ e) × (rest ≡ after)) → IsOneEntry version links text e after
one_entry version links text line behind s e after is form is_named root states only = (
  record { line = line; behind = behind; says = s; is_line = is; form = form; is_named = is_named; at_root = root; states = states },
  others,
)
  where
    others : (f : Entry) (rest : List ℕ) → IsEntry version links text f rest → (f ≡ e) × (rest ≡ after)
    others f rest other =
        let (says, left) = begins_once version text line behind s other.says other.behind is form (record { line = other.line; is_line = other.is_line; form = other.form }) in
        only f rest (subst (λ b. States links s b f rest) left (subst (λ t. States links t other.behind f rest) says other.states))

-- the same of a hop
abbrev pub IsOneHop : List ℕ → HopValue → List ℕ → Type 0
IsOneHop text h after = IsHop text h after × ((g : HopValue) (rest : List ℕ) → IsHop text g rest → (g ≡ h) × (rest ≡ after))

pub one_hop : (text line behind : List ℕ) (s : HopStatement) (at : AddressText) (said : Received) (after : List ℕ) → IsLine text line behind → HasHopForm line s
    → IsNamed (hop_text s) → at ≡ named (hop_text s) → ReadsHop s behind said after
    → ((other : Received) (rest : List ℕ) → ReadsHop s behind other rest → (other ≡ said) × (rest ≡ after)) → IsOneHop text (at, said) after
one_hop text line behind s at said after is form is_named at_is tells only = (
  record { line = line; behind = behind; says = s; is_line = is; form = form; is_named = is_named; at = at_is; tells = tells },
  others,
)
  where
    others : (g : HopValue) (rest : List ℕ) → IsHop text g rest → (g ≡ (at, said)) × (rest ≡ after)
    others g rest other =
        let (says, left) = begins_hop_once text line behind s other.says other.behind is form (record { line = other.line; is_line = other.is_line; form = other.form }) in
        let place : g.0 ≡ at = other.at ∙ ap (λ t. named (hop_text t)) says ∙ sym at_is in
        let (same, rests) = only g.1 rest (subst (λ b. ReadsHop s b g.1 rest) left (subst (λ t. ReadsHop t other.behind g.1 rest) says other.tells)) in
        ((λ i. (place i, same i)), rests)

-- ---- a row of hops

-- the text is these hops one after another, and then a rest
abbrev pub HopsRun : List ℕ → List HopValue → List ℕ → Type 0
HopsRun text [] after = after ≡ text
HopsRun text (h ∷ hops) after = (rest : List ℕ) × IsHop text h rest × HopsRun rest hops after

hops_run_push : (text : List ℕ) (hops : List HopValue) (rest : List ℕ) (h : HopValue) (after : List ℕ) → HopsRun text hops rest → IsHop rest h after → HopsRun text (hops ++ h ∷ []) after
hops_run_push text [] rest h after run is = (after, subst (λ t. IsHop t h after) run is, refl)
hops_run_push text (g ∷ hops) rest h after (left, first, run) is = (left, first, hops_run_push left hops rest h after run is)

pub hops_run : (text : List ℕ) (hops : List HopValue) (after : List ℕ) → AreHopsOf text hops after → HopsRun text hops after
hops_run text hops after no_hops = refl
hops_run text hops after (more_hops before rest h last are is) = hops_run_push text before rest h last (hops_run text before rest are) is
