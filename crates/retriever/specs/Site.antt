-- The site that an input describes, and the report of a whole site.
use Rattle.std.specs.Prelude.{◌≡◌, ◌≤◌, ℕ, Bool, true, false, List, Some, All, Any, IsSome, IsTrue, is_some, length, map}
use Rattle.kept_bodies.specs.declared.body_kind.BodyKind.{BodyKind}
use Rattle.fetcher.specs.Sites.{SiteAnswers, bare_body}
use Rattle.fetcher.specs.declared.edge.Edge.{Edge}
use Rattle.site_maps.specs.Lines.{Statement}
use Rattle.site_maps.specs.Maps.{text_lines_of, IsMap, answers_of, rules_of, says_of, IsFault as IsFaultOfMap}
use Rattle.html_links.specs.declared.rules.LinkRules.{LinkRules}
use Rattle.site_inputs.specs.declared.input_fault.InputFault.{InputFault}
use Rattle.site_records.specs.Entries.{Entry}
use Rattle.site_records.specs.Records.{RecordedAnswers, IsRecord, answers_of as recorded_answers, rules_of as recorded_rules, says_of as record_says, IsFault as IsFaultOfRecord}
use Rattle.options.specs.declared.naming.PageNames.{PageNames}
use Rattle.options.specs.declared.order.Source.{Source}
use Rattle.options.specs.declared.order.Source.TheVariants as source
use Rattle.frontier_core.specs.Tables.{Text}
use Rattle.frontier_core.specs.Routes.{Policy, Answers, Route, IsCandidate, IsDepth, is_open_address}
use Rattle.follow_filters.specs.declared.plan.Plan.{Plan}
use Rattle.local_names.specs.Endings.{ended_name, ended_names}
use Rattle.local_names.specs.Names.{IsNamingBy}
use Rattle.local_names.specs.PlainNames.{plain_name_of}
use Rattle.local_names.specs.declared.rules.NameRules.{NameRules}
use Rattle.report.specs.Named.{is_to_keep, named_pages, names_in}
use Rattle.report.specs.Report.{Line, Fate, Asked, Refused, AreAscending}

-- ---- what an input describes

-- these outcomes and rule sets, with the bodies of outcomes that are given alone
abbrev pub with_bare_bodies : SiteAnswers → RecordedAnswers
with_bare_bodies site = record { answer = λ at. record { outcome = site.outcome at; body = bare_body (site.outcome at) }; rules = site.rules }

-- the site that the lines of a map describe
abbrev pub site_described : List Statement → RecordedAnswers
site_described said = with_bare_bodies (says_of (answers_of said) (rules_of said))

-- the site that the entries of a record describe
abbrev pub site_recorded : List Entry → RecordedAnswers
site_recorded said = record_says (recorded_answers said) (recorded_rules said)

-- the input is a map, of this site
abbrev pub IsMapOf : List ℕ → RecordedAnswers → Type 0
IsMapOf input site = (said : List Statement) × IsMap (text_lines_of input) said × (site ≡ site_described said)

-- the input is a record of this site, if these links of its pages are taken
abbrev pub IsRecordOf : LinkRules → List ℕ → RecordedAnswers → Type 0
IsRecordOf links input site = (said : List Entry) × IsRecord links input said × (site ≡ site_recorded said)

-- the input describes this site, as the source says
abbrev pub IsDescribedBy : Source → LinkRules → List ℕ → RecordedAnswers → Type 0
IsDescribedBy source.Map links input site = IsMapOf input site
IsDescribedBy source.Recorded links input site = IsRecordOf links input site
IsDescribedBy source.Live links input site = ⊥

-- what is wrong with an input that describes no site, as the source says
abbrev pub IsWrongBy : Source → LinkRules → List ℕ → InputFault → Type 0
IsWrongBy source.Map links input wrong = IsFaultOfMap input wrong
IsWrongBy source.Recorded links input wrong = IsFaultOfRecord links input wrong
IsWrongBy source.Live links input wrong = ⊥

-- ---- a whole site

-- all that there is to know of a site: each outcome and each rule set
abbrev pub whole_of : RecordedAnswers → Answers
whole_of site = record { outcome = λ u. Some (site.answer u).outcome; rules = λ o. Some (site.rules o) }

-- of which kind the body of an address is
abbrev pub kind_at : RecordedAnswers → Text → BodyKind
kind_at site u = (site.answer u).body.kind

-- what becomes of a candidate: it is requested, with the site's outcome, unless its origin's robots rules refuse it
-- (RFC 9309, section 2.2.2)
abbrev pub IsFate : Policy → Answers → Text → Fate → Type 0
IsFate p m u (Asked x) = IsTrue (is_open_address p m u) × (m.outcome u ≡ Some x)
IsFate p m u Refused = is_open_address p m u ≡ false

-- The lines of what is known of a site: one for each candidate, in the order of the addresses' texts, with its least
-- depth and what becomes of it (GNU Wget manual, Recursive Download); no more than the plan lets be held.
pub record AreLines (p : Policy) (m : Answers) (lines : List Line) : Type 0 where
  pub ascending : AreAscending lines
  pub each : All (λ line. IsDepth p m line.address line.depth × IsFate p m line.address line.fate) lines
  pub all : (u : Text) → IsCandidate p m u → Any (λ line. line.address ≡ u) lines
  pub few : length lines ≤ p.max_urls

-- The lines of a front of a retrieval, by what is recorded: one for each address that was answered and perhaps for some that robots
-- rules refuse, in the order of the addresses' texts, with the depth of a route that leads there and what becomes of it.
pub record AreFrontLines (p : Policy) (m : Answers) (lines : List Line) : Type 0 where
  pub ascending : AreAscending lines
  pub each : All (λ line. ((route : List Edge) × Route p m route line.address line.depth) × IsFate p m line.address line.fate) lines
  pub all : (u : Text) → IsSome (m.outcome u) → Any (λ line. line.address ≡ u) lines
  pub few : length lines ≤ p.max_urls

-- ---- names

-- the plain name of a page whose body is of this kind, by whether names have endings
abbrev pub plain_name_by : Bool → NameRules → BodyKind → Text → List ℕ
plain_name_by false rules kind page = plain_name_of rules page
plain_name_by true rules kind page = ended_name rules kind page

-- those of pages whose bodies are of these kinds
abbrev pub plain_names_by : Bool → NameRules → List Text → List BodyKind → List (List ℕ)
plain_names_by false rules pages kinds = map (plain_name_of rules) pages
plain_names_by true rules pages kinds = ended_names rules pages kinds

-- the names of such pages, each in its place
abbrev pub AreNamesOf : PageNames → List Text → List BodyKind → List (List ℕ) → Type 0
AreNamesOf naming pages kinds names = IsNamingBy naming.has_endings (plain_names_by naming.has_endings naming.rules pages kinds) names

-- Only the pages to keep have a name, and it is the one that the list of all of them gives it, in the order of their
-- addresses, by these rules (GNU Wget manual, Directory Options), and by the kinds of their bodies if names have endings.
pub record AreNamed (plan : Plan) (naming : PageNames) (kinds : List BodyKind) (lines : List Line) : Type 0 where
  pub kept : All (λ line. is_some line.name ≡ is_to_keep plan line) lines
  pub names : AreNamesOf naming (named_pages lines) kinds (names_in lines)
