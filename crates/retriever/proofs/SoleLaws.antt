-- The report of a retrieval is determined by its plan and the whole site: by whatever words, by however many workers, it is the
-- same text, byte for byte.
use Rattle.std.proofs.Common.{◌≡◌, ℕ, Bool, true, false, List, [], ◌∷◌, Some, map, refl, sym, ap, ◌∙◌, subst, arith}
use Rattle.std.specs.Prelude.{◌&&◌, is_some}
use Rattle.follow_filters.specs.Rules.{keeps_of}
use Rattle.std.specs.List.{AllZip}
use Rattle.std.proofs.lemmas.Bool.{false≢true}
use Rattle.follow_filters.specs.declared.plan.Plan.{Plan}
use Rattle.frontier_core.specs.Plans.{policy}
use Rattle.frontier_core.specs.Routes.{Policy, Answers, IsDepth}
use Rattle.frontier_core.specs.Tables.{Text}
use Rattle.frontier_core.specs.declared.event.Event.{Event}
use Rattle.kept_bodies.specs.declared.body_kind.BodyKind.{BodyKind}
use Rattle.kept_bodies.specs.declared.body_kind.BodyKind.TheVariants.{Other}
use Rattle.local_names.specs.Endings.{ended_name, ended_names}
use Rattle.local_names.specs.Names.{IsNamingBy}
use Rattle.local_names.specs.PlainNames.{plain_name_of}
use Rattle.local_names.specs.declared.rules.NameRules.{NameRules}
use Rattle.local_names.proofs.NamingLaws.{IsNamingBy-sole}
use Rattle.options.specs.declared.naming.PageNames.{PageNames}
use Rattle.options.specs.declared.order.Order.{Order}
use Rattle.report.specs.Named.{is_to_keep, has_succeeded, named_pages, names_in}
use Rattle.report.specs.Report.{Line, Fate, Asked, Refused, report_text}
use Rattle.report.proofs.SoleLaws.{AreAlike, HasEach, all_alike, same_pages, same_lines}
use Rattle.retriever.specs.Retrieved.{Retrieved, Finishes}
use Rattle.retriever.specs.Run.{finish_text}
use Rattle.site_records.specs.Records.{RecordedAnswers}
use Rattle.retriever.specs.Site.{IsFate, AreLines, AreNamed, AreNamesOf, kind_at, plain_name_by, plain_names_by, whole_of}

pub sole_depth : (p : Policy) (m : Answers) (u : Text) (d e : ℕ) → IsDepth p m u d → IsDepth p m u e → d ≡ e
sole_depth p m u d e one other = omega (arith, one.least other.reached.0 e other.reached.1, other.least one.reached.0 d one.reached.1)

pub sole_fate : (p : Policy) (m : Answers) (u : Text) (f g : Fate) → IsFate p m u f → IsFate p m u g → f ≡ g
sole_fate p m u (Asked x) (Asked y) one other = (let same : Some x ≡ Some y = sym one.1 ∙ other.1 in cc)
sole_fate p m u (Asked x) Refused one other = absurd (false≢true (sym other ∙ one.0))
sole_fate p m u Refused (Asked x) one other = absurd (false≢true (sym one ∙ other.0))
sole_fate p m u Refused Refused one other = refl

-- each line of the one report has its like in the other
each_told : (plan : Plan) (naming : PageNames) (kind : Text → BodyKind) (m : Answers) (xs ys : List Line) → AreLines (policy plan) m xs → AreLines (policy plan) m ys → AreNamed plan naming (map kind (named_pages xs)) xs → AreNamed plan naming (map kind (named_pages ys)) ys → HasEach xs ys
each_told plan naming kind m xs ys lines others named others_named a (k, lt, is) =
    let p = policy plan in
    let one : IsDepth p m a.address a.depth × IsFate p m a.address a.fate = subst (λ (line : Line). IsDepth p m line.address line.depth × IsFate p m line.address line.fate) is (lines.each k a lt) in
    let (i, b, within, at, same) = others.all a.address (one.0.reached.0, a.depth, one.0.reached.1) in
    let two : IsDepth p m b.address b.depth × IsFate p m b.address b.fate = subst (λ (line : Line). IsDepth p m line.address line.depth × IsFate p m line.address line.fate) at (others.each i b within) in
    let depth : a.depth ≡ b.depth = sole_depth p m a.address a.depth b.depth one.0 (subst (λ (u : Text). IsDepth p m u b.depth) same two.0) in
    let fate : a.fate ≡ b.fate = sole_fate p m a.address a.fate b.fate one.1 (subst (λ (u : Text). IsFate p m u b.fate) same two.1) in
    let kept = subst (λ (line : Line). is_some line.name ≡ is_to_keep plan line) is (named.kept k a lt) in
    let kept' = subst (λ (line : Line). is_some line.name ≡ is_to_keep plan line) at (others_named.kept i b within) in
    let alike : is_to_keep plan a ≡ is_to_keep plan b =
    ap (λ (f : Fate). has_succeeded f && keeps_of plan a.address) fate ∙ ap (λ (u : Text). has_succeeded b.fate && keeps_of plan u) (sym same) in
    (b, (i, within, at), record { address = sym same; depth = depth; fate = fate; named = kept ∙ (alike ∙ sym kept') })

-- what is known of a site has the lines of one report
pub sole_lines : (plan : Plan) (naming : PageNames) (kind : Text → BodyKind) (m : Answers) (xs ys : List Line) → AreLines (policy plan) m xs → AreLines (policy plan) m ys → AreNamed plan naming (map kind (named_pages xs)) xs → AreNamed plan naming (map kind (named_pages ys)) ys → xs ≡ ys
sole_lines plan naming kind m xs ys lines others named others_named =
    let alike : AllZip AreAlike xs ys =
    all_alike xs ys lines.ascending others.ascending (each_told plan naming kind m xs ys lines others named others_named) (each_told plan naming kind m ys xs others lines others_named named) in
    let given = subst (λ (pages : List Text). AreNamesOf naming pages (map kind pages) (names_in xs)) (same_pages xs ys alike) named.names in
    let plain = plain_names_by naming.has_endings naming.rules (named_pages ys) (map kind (named_pages ys)) in
    same_lines xs ys alike (IsNamingBy-sole naming.has_endings plain (names_in ys) (names_in xs) others_named.names given)

-- rules by which each page has one plain name, whatever the kind of its body, give a list one list of these
same_plain : (h : Bool) (rules others : NameRules) → ((page : Text) (kind : BodyKind) → plain_name_by h rules kind page ≡ plain_name_by h others kind page) → (pages : List Text) (kinds : List BodyKind)
    → plain_names_by h rules pages kinds ≡ plain_names_by h others pages kinds
same_plain false rules others same [] kinds = refl
same_plain false rules others same (page ∷ pages) kinds =
    ap (λ name. name ∷ map (plain_name_of rules) pages) (same page Other) ∙ ap (λ names. plain_name_of others page ∷ names) (same_plain false rules others same pages kinds)
same_plain true rules others same [] kinds = refl
same_plain true rules others same (page ∷ pages) [] =
    ap (λ name. name ∷ ended_names rules pages []) (same page Other) ∙ ap (λ names. ended_name others Other page ∷ names) (same_plain true rules others same pages [])
same_plain true rules others same (page ∷ pages) (kind ∷ kinds) =
    ap (λ name. name ∷ ended_names rules pages kinds) (same page kind) ∙ ap (λ names. ended_name others kind page ∷ names) (same_plain true rules others same pages kinds)

-- and one naming
pub same_named : (plan : Plan) (naming others : PageNames) (kinds : List BodyKind) (lines : List Line) → naming.has_endings ≡ others.has_endings
    → ((page : Text) (kind : BodyKind) → plain_name_by naming.has_endings naming.rules kind page ≡ plain_name_by naming.has_endings others.rules kind page) → AreNamed plan naming kinds lines → AreNamed plan others kinds lines
same_named plan naming others kinds lines ends same named = record {
  kept = named.kept;
  names = subst (λ (h : Bool). IsNamingBy h (plain_names_by h others.rules (named_pages lines) kinds) (names_in lines)) ends
      (subst (λ plain. IsNamingBy naming.has_endings plain (names_in lines)) (same_plain naming.has_endings naming.rules others.rules same (named_pages lines) kinds) named.names);
}

-- orders of one plan, by whose rules each page has one plain name, result in one report of one site, however many workers each orders
-- and whatever is shown of their traces; if names have endings, a page has one plain name for each kind of its body
pub sole_report : (order other : Order) (site : RecordedAnswers) (shown others : List Event) (xs ys : List Line) → order.plan ≡ other.plan → order.names.has_endings ≡ other.names.has_endings
    → ((page : Text) (kind : BodyKind) → plain_name_by order.names.has_endings order.names.rules kind page ≡ plain_name_by order.names.has_endings other.names.rules kind page)
    → Finishes order site shown (Retrieved xs) → Finishes other site others (Retrieved ys) → finish_text (Retrieved xs) ≡ finish_text (Retrieved ys)
sole_report order other site shown others xs ys plans ends names one two =
    let whole = whole_of site in
    let kinds = map (kind_at site) (named_pages xs) in
    let lines = subst (λ (plan : Plan). AreLines (policy plan) whole xs) plans one.0 in
    let named = same_named other.plan order.names other.names kinds xs ends names (subst (λ (plan : Plan). AreNamed plan order.names kinds xs) plans one.1) in
    ap report_text (sole_lines other.plan other.names (kind_at site) whole xs ys lines two.0 named two.1)
