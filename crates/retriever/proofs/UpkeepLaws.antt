-- A mirror that is kept up to date is that of a fresh run: what a live run found of one site, however it was answered, is determined by
-- its plan and the site.
use Rattle.std.proofs.Common.{◌≡◌, ◌∙◌, ℕ, ◌+◌, Bool, true, false, List, [], ◌∷◌, ◌++◌, Option, Some, None, IsSome, map, refl, sym, ap, subst, inl, inr, ⊎_elim}
use Rattle.std.specs.Prelude.{◌<◌, Contains, length, slice_index_or}
use Rattle.std.specs.List.{AllZip}
use Rattle.std.proofs.lemmas.Bool.{false≢true, cases_Bool}
use Rattle.kept_bodies.specs.Bodies.{BodyValue, bytes_of}
use Rattle.kept_bodies.specs.declared.body_kind.BodyKind.{BodyKind}
use Rattle.robots_rules.specs.Access.{RuleSetValue}
use Rattle.fetcher.specs.Outcomes.{edges}
use Rattle.fetcher.specs.declared.edge.Edge.{Edge}
use Rattle.fetcher.specs.declared.outcome.Outcome.{Outcome}
use Rattle.follow_filters.specs.declared.plan.Plan.{Plan}
use Rattle.frontier_core.specs.Plans.{policy}
use Rattle.frontier_core.specs.Routes.{is_start, Policy, Answers, Walk, Route, HasEdge, IsCandidate, IsDepth, IsNeeded, IsWanted, is_open_address, is_exempt, weight}
use Rattle.frontier_core.specs.Tables.{Text}
use Rattle.frontier_core.proofs.RouteLaws.{Extends, route_extends, open_extends, route-snoc, WhyOpen, why_open, open_why, exempt, allowed}
use Rattle.frontier_core.proofs.StartLaws.{test_of_start}
use Rattle.local_tree.specs.Folders.{Files, Holding}
use Rattle.local_tree.specs.SiteFiles.{IsWhole}
use Rattle.options.specs.declared.naming.PageNames.{PageNames}
use Rattle.options.specs.declared.order.Order.{Order}
use Rattle.report.specs.Named.{named_pages, names_in}
use Rattle.report.specs.Report.{Line, Fate, Asked, Refused, report_text}
use Rattle.site_records.specs.Records.{RecordedAnswers}
use Rattle.workers.proofs.RestLaws.{not_exempt}
use Rattle.workers.proofs.SiteLaws.{some_of}
use Rattle.harvest.specs.Pages.{IsBodyOf}
use Rattle.retriever.proofs.SoleLaws.{sole_lines}
use Rattle.retriever.specs.Found.{Crew, IsFound, IsPutAt, IsReportFound, MaySay}
use Rattle.retriever.specs.Keeping.{Keeping, in_memory, kinds_of}
use Rattle.retriever.specs.Site.{AreLines, AreNamed, IsFate, kind_at, whole_of}
use Rattle.retriever.specs.Upkeep.{AreWantedOf, IsKeptOf, IsMirror, IsOfSite, SaysSite, bodies_at}

-- ---- what was recorded of all that is wanted by it

-- all that is wanted by what is recorded is recorded, and so are the rules that are needed
record IsAll (p : Policy) (m : Answers) : Type 0 where
  wanted : (u : Text) → IsWanted p m u → IsSome (m.outcome u)
  needed : (o : Text) → IsNeeded p m o → IsSome (m.rules o)

module _ (p : Policy) (m whole : Answers) (is_all : IsAll p m) (more : Extends m whole) where
  -- a candidate of the record that is open in the site is open in the record
  open_down : (u : Text) → IsCandidate p m u → is_open_address p whole u ≡ true → is_open_address p m u ≡ true
  open_down u candidate h = open_why p m u (go (is_exempt p u) refl (why_open p whole u h))
    where
      known : is_exempt p u ≡ false → (r : RuleSetValue) → whole.rules (p.origin u) ≡ Some r → p.allows r u ≡ true → WhyOpen p m u
      known off r is allows =
          let both = not_exempt (is_start p u) p.robots off in
          let apart : ¬ Contains p.starts u = λ among. false≢true (sym both.0 ∙ test_of_start p.starts u among) in
          let (q, found) = some_of (m.rules (p.origin u)) (is_all.needed (p.origin u) (both.1, u, candidate, apart, refl)) in
          let there : whole.rules (p.origin u) ≡ Some q = more.rules (p.origin u) q found in
          let at : r ≡ q = cc in
          allowed q found (ap (λ (x : RuleSetValue). p.allows x u) (sym at) ∙ allows)

      go : (b : Bool) → is_exempt p u ≡ b → WhyOpen p whole u → WhyOpen p m u
      go true is why = exempt is
      go false is (exempt e) = absurd (false≢true (sym is ∙ e))
      go false is (allowed r f k) = known is r f k

  -- a walk of the site from a candidate of the record is one of the record
  walk_down : (u : Text) (n : ℕ) (route : List Edge) → Route p m route u n → (walk : List Edge) (v : Text) (d : ℕ) → Walk p whole (u, n) walk (v, d) → Walk p m (u, n) walk (v, d)
  walk_down u n route here [] v d w = w
  walk_down u n route here (edge ∷ walk) v d w =
      let (y, is, contains) = w.1 in
      let candidate : IsCandidate p m u = (route, n, here) in
      let opens : is_open_address p m u ≡ true = open_down u candidate w.0 in
      let (x, recorded) = some_of (m.outcome u) (is_all.wanted u (candidate, opens)) in
      let there : whole.outcome u ≡ Some x = more.outcome u x recorded in
      let at : y ≡ x = cc in
      let has : HasEdge m u edge = (x, recorded, subst (λ (z : Outcome). Contains (edges z) edge) at contains) in
      (opens, has, w.2, walk_down edge.target (n + weight edge.kind) (route ++ edge ∷ []) (route-snoc p m route u n edge here opens has w.2) walk v d w.3)

  route_down : (route : List Edge) (u : Text) (d : ℕ) → Route p whole route u d → Route p m route u d
  route_down route u d (start, among, walk) = (start, among, walk_down start 0 [] (start, among, (refl, refl)) route u d walk)

  candidate_down : (u : Text) → IsCandidate p whole u → IsCandidate p m u
  candidate_down u (route, d, walk) = (route, d, route_down route u d walk)

  candidate_up : (u : Text) → IsCandidate p m u → IsCandidate p whole u
  candidate_up u (route, d, walk) = (route, d, route_extends p m whole more route u d walk)

  depth_up : (u : Text) (d : ℕ) → IsDepth p m u d → IsDepth p whole u d
  depth_up u d least = record {
    reached = (let (route, walk) = least.reached in (route, route_extends p m whole more route u d walk));
    least = (λ route n walk. least.least route n (route_down route u n walk));
  }

  -- what became of a candidate
  fate_up : (u : Text) (fate : Fate) → IsCandidate p m u → IsFate p m u fate → IsFate p whole u fate
  fate_up u (Asked x) candidate (opens, is) = (open_extends p m whole u more opens, more.outcome u x is)
  fate_up u Refused candidate shut =
      ⊎_elim (λ opens. absurd (false≢true (sym shut ∙ open_down u candidate opens))) (λ closed. closed) (cases_Bool (is_open_address p whole u))

  -- the same is wanted of the whole site
  wanted_up : (u : Text) → IsWanted p m u → IsWanted p whole u
  wanted_up u (candidate, opens) = (candidate_up u candidate, open_extends p m whole u more opens)

  wanted_down : (u : Text) → IsWanted p whole u → IsWanted p m u
  wanted_down u (candidate, opens) = (let here = candidate_down u candidate in (here, open_down u here opens))

  -- the lines of what is recorded are those of the whole site
  lines_up : (lines : List Line) → AreLines p m lines → AreLines p whole lines
  lines_up lines are = record {
    ascending = are.ascending;
    each = λ k a lt.
        let (depth, fate) = are.each k a lt in
        let (route, walk) = depth.reached in
        (depth_up _ _ depth, fate_up _ _ (route, _, walk) fate);
    all = λ u candidate. are.all u (candidate_down u candidate);
    few = are.few;
  }

-- ---- what a run found of a site

module _ {F B : Type 0} (crew : Crew F B) (site : RecordedAnswers) (plan : Plan) (naming : PageNames) (m : Answers) (lines : List Line) (bodies : List B) (found : IsFound crew plan naming m lines bodies) where
  found_all : IsAll (policy plan) m
  found_all = record {
    wanted = λ u wanted. (found.asked.outcomes u).0 ((found.asked.wanted u).1 wanted);
    needed = λ o needed. (found.asked.rules o).0 ((found.asked.needed o).1 needed);
  }

  kept_of : SaysSite crew site → (pages : List Text) (kept : List B) → AllZip (IsBodyOf (MaySay crew) m) pages kept → AllZip (IsKeptOf crew.keeps site) pages kept
  kept_of says [] [] are = tt
  kept_of says [] (body ∷ kept) are = absurd are
  kept_of says (page ∷ pages) [] are = absurd are
  kept_of says (page ∷ pages) (body ∷ kept) ((x, is, said), are) = ((says.answers page x body said).1, kept_of says pages kept are)

  -- if all that the fetchers may say is what the site answers, what was found is
  pub of_site : SaysSite crew site → IsOfSite crew.keeps site m lines bodies
  of_site says = record {
    outcomes = λ u x is. (let (body, said) = found.asked.told.outcomes u x is in (says.answers u x body said).0);
    rules = λ o set is. says.rules o set (found.asked.told.rules o set is);
    kept = kept_of says (named_pages lines) bodies found.kept;
  }

module _ {B : Type 0} (keeps : Keeping B) (site : RecordedAnswers) where
  extends_to : (m : Answers) (lines : List Line) (bodies : List B) → IsOfSite keeps site m lines bodies → Extends m (whole_of site)
  extends_to m lines bodies of = record {
    outcome = λ u x is. ap Some (sym (of.outcomes u x is));
    rules = λ o set is. ap Some (sym (of.rules o set is));
  }

  -- the kinds of kept bodies are those that the site gives for their pages
  kinds_at : (pages : List Text) (kept : List B) → AllZip (IsKeptOf keeps site) pages kept → kinds_of keeps.kind_of kept ≡ map (kind_at site) pages
  kinds_at [] [] are = refl
  kinds_at [] (body ∷ kept) are = absurd are
  kinds_at (page ∷ pages) [] are = absurd are
  kinds_at (page ∷ pages) (body ∷ kept) ((kind, holds), are) =
      ap (λ (k : BodyKind). k ∷ kinds_of keeps.kind_of kept) kind ∙ ap (λ (kinds : List BodyKind). kind_at site page ∷ kinds) (kinds_at pages kept are)

  -- and they may be the site's
  hold_at : (pages : List Text) (kept : List B) → AllZip (IsKeptOf keeps site) pages kept → AllZip keeps.holds kept (bodies_at site pages)
  hold_at [] [] are = tt
  hold_at [] (body ∷ kept) are = absurd are
  hold_at (page ∷ pages) [] are = absurd are
  hold_at (page ∷ pages) (body ∷ kept) ((kind, holds), are) = (holds, hold_at pages kept are)

-- in memory each body is itself
selves : (kept bodies : List BodyValue) → AllZip in_memory.holds kept bodies → bodies ≡ kept
selves [] [] are = refl
selves [] (body ∷ bodies) are = absurd are
selves (k ∷ kept) [] are = absurd are
selves (k ∷ kept) (body ∷ bodies) (same, are) = ap (λ (b : BodyValue). b ∷ bodies) same ∙ ap (λ (bs : List BodyValue). k ∷ bs) (selves kept bodies are)

-- what was put of bodies that may be these was put of these
put_as : {B : Type 0} (keeps : Keeping B) (converts all : Bool) (m : Answers) (lines : List Line) (kept : List B) (bodies : List BodyValue) (old new : Holding)
    → AllZip keeps.holds kept bodies → IsPutAt converts all keeps m lines kept old new → IsPutAt converts all in_memory m lines bodies old new
put_as keeps false false m lines kept bodies old new holds put = put
put_as keeps false true m lines kept bodies old new holds (shelved, quiet) = ((λ others are. rw (selves bodies others are) (shelved bodies holds)), quiet)
put_as keeps true all m lines kept bodies old new holds (records, recorded, shelved, quiet) =
    (records, recorded, (λ others are. rw (selves bodies others are) (shelved bodies holds)), quiet)

-- a run that found all that is to be found of the site made a mirror of it
pub is_mirror : {F B : Type 0} (crew : Crew F B) (order : Order) (all : Bool) (site : RecordedAnswers) (m : Answers) (lines : List Line) (bodies : List B) (old new : Holding)
    → IsFound crew order.plan order.names m lines bodies → IsOfSite crew.keeps site m lines bodies → IsPutAt order.converts all crew.keeps m lines bodies old new
    → IsMirror order all site lines old new
is_mirror crew order all site m lines bodies old new found of put =
    let p = policy order.plan in
    let whole = whole_of site in
    let is_all = found_all crew site order.plan order.names m lines bodies found in
    let more = extends_to crew.keeps site m lines bodies of in
    record {
      reported = lines_up p m whole is_all more lines found.reported;
      named = subst (λ (kinds : List BodyKind). AreNamed order.plan order.names kinds lines) (kinds_at crew.keeps site (named_pages lines) bodies of.kept) found.named;
      wanted = m;
      are_wanted = λ u x. (
        (λ is. (wanted_up p m whole is_all more u ((found.asked.wanted u).0 ((found.asked.outcomes u).1 (subst IsSome (sym is) refl))), of.outcomes u x is)),
        (λ (wanted, same).
            let (y, is) = some_of (m.outcome u) (is_all.wanted u (wanted_down p m whole is_all more u wanted)) in
            is ∙ ap Some (of.outcomes u y is ∙ sym same)),
      );
      put = put_as crew.keeps order.converts all m lines bodies (bodies_at site (named_pages lines)) old new (hold_at crew.keeps site (named_pages lines) bodies of.kept) put;
    }

-- ---- one site has one mirror

-- what no quota ended found all that is to be found
pub whole_report : {F B : Type 0} (crew : Crew F B) (order : Order) (m : Answers) (lines : List Line) (bodies : List B) → order.quota ≡ None → IsReportFound crew order m lines bodies
    → IsFound crew order.plan order.names m lines bodies
whole_report crew order m lines bodies unlimited (inl (within, found)) = found
whole_report crew order m lines bodies unlimited (inr (passed, front)) = absurd (rw unlimited at passed)

-- two mirrors of a site by orders of one plan and one naming have the same lines, and so the same report, byte for byte
pub one_report : (order other : Order) (all whole : Bool) (site : RecordedAnswers) (xs ys : List Line) (old new before after : Holding) → order.plan ≡ other.plan → order.names ≡ other.names
    → IsMirror order all site xs old new → IsMirror other whole site ys before after → xs ≡ ys
one_report order other all whole site xs ys old new before after plans names one two =
    sole_lines other.plan other.names (kind_at site) (whole_of site) xs ys
    (subst (λ (plan : Plan). AreLines (policy plan) (whole_of site) xs) plans one.reported) two.reported
    (subst (λ (naming : PageNames). AreNamed other.plan naming (map (kind_at site) (named_pages xs)) xs) names
    (subst (λ (plan : Plan). AreNamed plan order.names (map (kind_at site) (named_pages xs)) xs) plans one.named)) two.named

-- a file of what is whole
whole_file : (names : List (List ℕ)) (bodies : List BodyValue) (old new : Option Files) (files : Files) → new ≡ Some files → IsWhole names bodies old new → (i : ℕ) → i < length names
    → files (slice_index_or names i []) ≡ Some (slice_index_or (bytes_of bodies) i [])
whole_file names bodies (Some before) (Some now) files is whole i lt = (let same : now ≡ files = cc in subst (λ (f : Files). f (slice_index_or names i []) ≡ Some (slice_index_or (bytes_of bodies) i [])) same (whole.files i lt))
whole_file names bodies None (Some now) files is whole i lt = absurd whole
whole_file names bodies (Some before) None files is whole i lt = absurd whole
whole_file names bodies None None files is whole i lt = cc

each_itself : (bodies : List BodyValue) → AllZip in_memory.holds bodies bodies
each_itself [] = tt
each_itself (body ∷ bodies) = (refl, each_itself bodies)

-- a file of a mirror whose links aren't changed has the site's body
mirror_file : (order : Order) (all : Bool) (site : RecordedAnswers) (lines : List Line) (old new : Holding) (files : Files) → order.converts ≡ false → new.files ≡ Some files → IsMirror order all site lines old new
    → (i : ℕ) → i < length (names_in lines) → files (slice_index_or (names_in lines) i []) ≡ Some (slice_index_or (bytes_of (bodies_at site (named_pages lines))) i [])
mirror_file order all site lines old new files plain is mirror i lt =
    let bodies = bodies_at site (named_pages lines) in
    let whole = shelved all (subst (λ (b : Bool). IsPutAt b all in_memory mirror.wanted lines bodies old new) plain mirror.put) in
    whole_file (names_in lines) bodies old.files new.files files is whole i lt
  where
    shelved : (b : Bool) → IsPutAt false b in_memory mirror.wanted lines (bodies_at site (named_pages lines)) old new → IsWhole (names_in lines) (bodies_at site (named_pages lines)) old.files new.files
    shelved true put = put.0 (bodies_at site (named_pages lines)) (each_itself (bodies_at site (named_pages lines)))
    shelved false put = absurd put

-- and the same files under the names of the report, in folders whose files are known, if links aren't changed
pub one_folder : (order other : Order) (all whole : Bool) (site : RecordedAnswers) (xs ys : List Line) (old new before after : Holding) (files others : Files) → order.plan ≡ other.plan → order.names ≡ other.names
    → order.converts ≡ false → other.converts ≡ false → new.files ≡ Some files → after.files ≡ Some others
    → IsMirror order all site xs old new → IsMirror other whole site ys before after
    → (i : ℕ) → i < length (names_in xs) → files (slice_index_or (names_in xs) i []) ≡ others (slice_index_or (names_in xs) i [])
one_folder order other all whole site xs ys old new before after files others plans names plain also is are one two i lt =
    let same = one_report order other all whole site xs ys old new before after plans names one two in
    let two_here = subst (λ (lines : List Line). IsMirror other whole site lines before after) (sym same) two in
    mirror_file order all site xs old new files plain is one i lt ∙ sym (mirror_file other whole site xs before after others also are two_here i lt)
