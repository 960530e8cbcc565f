-- The report of a retrieval is a function of the set of starts: their order and their repeats don't count.
use Rattle.std.proofs.Common.{◌≡◌, ◌∙◌, Bool, List, get_or, map, refl, sym, ap}
use Rattle.std.specs.Prelude.{◌&&◌}
use Rattle.follow_filters.specs.declared.limit.Limit.{Limit}
use Rattle.follow_filters.specs.declared.plan.Plan.{Plan}
use Rattle.follow_filters.specs.Rules.{keeps_of}
use Rattle.follow_filters.proofs.EdgeLaws.{IsAlike, follows_of_set}
use Rattle.frontier_core.specs.Plans.{policy, bound_of}
use Rattle.frontier_core.specs.Routes.{Policy, Answers}
use Rattle.frontier_core.specs.Tables.{Text}
use Rattle.frontier_core.specs.declared.event.Event.{Event}
use Rattle.frontier_core.proofs.SetLaws.{IsSame, same_turned, same_open, same_candidate, same_depth}
use Rattle.kept_bodies.specs.declared.body_kind.BodyKind.{BodyKind}
use Rattle.options.specs.declared.naming.PageNames.{PageNames}
use Rattle.options.specs.declared.order.Order.{Order}
use Rattle.report.specs.Named.{has_succeeded, named_pages}
use Rattle.report.specs.Report.{Line, Fate, Asked, Refused, report_text}
use Rattle.retriever.specs.Retrieved.{Retrieved, Finishes}
use Rattle.retriever.specs.Run.{finish_text}
use Rattle.retriever.specs.Site.{IsFate, AreLines, AreNamed, kind_at, plain_name_by, whole_of}
use Rattle.retriever.proofs.SoleLaws.{sole_lines, same_named}
use Rattle.site_records.specs.Records.{RecordedAnswers}

-- the plans have the same starts, in any order and however often, and are the same otherwise, however many requests may be out
pub record HaveSameStarts (p q : Plan) : Type 0 where
  pub alike : IsAlike p q
  pub limit : p.limit ≡ q.limit
  pub page_requisites : p.page_requisites ≡ q.page_requisites
  pub robots : p.robots ≡ q.robots
  pub max_urls : p.max_urls ≡ q.max_urls

same_policy : (p q : Plan) → HaveSameStarts p q → IsSame (policy p) (policy q)
same_policy p q like = record {
  there = like.alike.there;
  back = like.alike.back;
  bound = λ kind. ap (λ (limit : Limit). bound_of limit p.page_requisites kind) like.limit ∙ ap (λ (b : Bool). bound_of q.limit b kind) like.page_requisites;
  follows = λ page kind target. follows_of_set p q page kind target like.alike;
  robots = like.robots;
  origin = λ u. refl;
  allows = λ rules u. refl;
}

same_fate : (p q : Policy) (m : Answers) → IsSame p q → (u : Text) (fate : Fate) → IsFate p m u fate → IsFate q m u fate
same_fate p q m like u (Asked x) is = (sym (same_open p q m like u) ∙ is.0, is.1)
same_fate p q m like u Refused is = sym (same_open p q m like u) ∙ is

-- the one has the lines that the other has
pub lines_of_set : (p q : Plan) (m : Answers) (lines : List Line) → HaveSameStarts p q → AreLines (policy p) m lines → AreLines (policy q) m lines
lines_of_set p q m lines like are =
    let same = same_policy p q like in
    record {
      ascending = are.ascending;
      each = λ k a lt. (same_depth (policy p) (policy q) m same _ _ (are.each k a lt).0, same_fate (policy p) (policy q) m same _ _ (are.each k a lt).1);
      all = λ u candidate. are.all u (same_candidate (policy q) (policy p) m (same_turned (policy p) (policy q) same) u candidate);
      few = rw like.max_urls at are.few;
    }

keeps_alike : (p q : Plan) → IsAlike p q → (u : Text) → keeps_of p u ≡ keeps_of q u
unfolding keeps_of
keeps_alike p q like u = rw (like.accept, like.reject, like.ignore_case) refl

-- and names those that the other names
named_of_set : (p q : Plan) (naming : PageNames) (kinds : List BodyKind) (lines : List Line) → HaveSameStarts p q → AreNamed p naming kinds lines → AreNamed q naming kinds lines
named_of_set p q naming kinds lines like named = record {
  kept = λ k a lt. named.kept k a lt ∙ ap (λ (b : Bool). has_succeeded (get_or lines k a).fate && b) (keeps_alike p q like.alike (get_or lines k a).address);
  names = named.names;
}

-- Orders whose plans have the same starts, in any order and however often, and are the same otherwise, result in one report of one site, if they name files
-- alike: however many workers each orders, and whatever is shown of their traces.
pub report_of_set : (order other : Order) (site : RecordedAnswers) (shown others : List Event) (xs ys : List Line) → HaveSameStarts order.plan other.plan → order.names.has_endings ≡ other.names.has_endings
    → ((page : Text) (kind : BodyKind) → plain_name_by order.names.has_endings order.names.rules kind page ≡ plain_name_by order.names.has_endings other.names.rules kind page)
    → Finishes order site shown (Retrieved xs) → Finishes other site others (Retrieved ys) → finish_text (Retrieved xs) ≡ finish_text (Retrieved ys)
report_of_set order other site shown others xs ys like ends names one two =
    let whole = whole_of site in
    let kinds = map (kind_at site) (named_pages xs) in
    let lines = lines_of_set order.plan other.plan whole xs like one.0 in
    let named = same_named other.plan order.names other.names kinds xs ends names (named_of_set order.plan other.plan order.names kinds xs like one.1) in
    ap report_text (sole_lines other.plan other.names (kind_at site) whole xs ys lines two.0 named two.1)
