-- If hosts aren't spanned, the report of all starts is the union of those of parts that share no host.
use Rattle.std.proofs.Common.{◌≡◌, ◌⊎◌, ◌∙◌, ℕ, Bool, true, ◌||◌, not, List, ◌++◌, Option, None, Some, get_or, refl, sym, ap, subst, inl, inr, ⊎_elim, arith}
use Rattle.std.specs.Prelude.{◌&&◌, All, Contains, is_some}
use Rattle.std.proofs.lemmas.Bool.{false≢true, cases_Bool, cases_lt}
use Rattle.std.proofs.lemmas.List.{get_or_default}
use Rattle.std.proofs.lemmas.List.Elements.{Contains-append_left, Contains-append_right, Contains-append_cases}
use Rattle.address.specs.Address.{host_of}
use Rattle.address.specs.AddressOrder.{IsBefore}
use Rattle.address.proofs.AddressOrderLaws.{not_before_itself}
use Rattle.follow_filters.specs.declared.limit.Limit.{Limit}
use Rattle.follow_filters.specs.declared.plan.Plan.{Plan}
use Rattle.follow_filters.specs.Plans.{starts}
use Rattle.follow_filters.specs.Rules.{keeps_of}
use Rattle.follow_filters.proofs.EdgeLaws.{follows_stays}
use Rattle.retriever.proofs.FollowLaws.{IsPlanOfPart, follows_of_part}
use Rattle.frontier_core.specs.Plans.{policy, bound_of}
use Rattle.frontier_core.specs.Routes.{Policy, Answers, IsCandidate, IsDepth, is_start, is_open_address, is_allowed_by_rules}
use Rattle.frontier_core.specs.Tables.{Text}
use Rattle.frontier_core.proofs.StartLaws.{test_of_start, start_of_test}
use Rattle.frontier_core.proofs.PartLaws.{IsHome, IsPart, IsSplit, part_up, ends_home, split_candidates, split_depth}
use Rattle.robots_rules.specs.Access.{RuleSetValue}
use Rattle.report.specs.Named.{has_succeeded, is_to_keep}
use Rattle.report.specs.Report.{Line, Fate, Asked, Refused, AreAscending}
use Rattle.report.proofs.SoleLaws.{AreAlike, HasEach}
use Rattle.retriever.specs.Site.{IsFate, AreLines}
use Rattle.retriever.proofs.SoleLaws.{sole_depth, sole_fate}

-- ---- lines of one report

-- a line is at one place alone: of two lines at one address both are one
sole_line : (lines : List Line) → AreAscending lines → (a b : Line) → Contains lines a → Contains lines b → a.address ≡ b.address → a ≡ b
sole_line lines up a b (k, lt, is) (i, within, at) same =
    let is' : get_or lines k b ≡ a = get_or_default lines k b a lt ∙ is in
    elim (cases_lt k i) [
      | inl before ↦ absurd (
          let apart : IsBefore a.address b.address = subst (λ (l : Line). IsBefore l.address b.address) is' (subst (λ (l : Line). IsBefore (get_or lines k b).address l.address) at (up k i b before within)) in
          not_before_itself b.address (subst (λ (u : List ℕ). IsBefore u b.address) same apart)
          )
      | inr after ↦ elim (cases_lt i k) [
        | inl before ↦ absurd (
            let apart : IsBefore b.address a.address = subst (λ (l : Line). IsBefore l.address a.address) at (subst (λ (l : Line). IsBefore (get_or lines i b).address l.address) is' (up i k b before lt)) in
            not_before_itself b.address (subst (λ (u : List ℕ). IsBefore b.address u) same apart)
            )
        | inr also ↦ (let one : k ≡ i = omega (arith, after, also) in sym is' ∙ ap (λ (n : ℕ). get_or lines n b) one ∙ at)
      ]
    ]

alike_turned : (a b : Line) → AreAlike a b → AreAlike b a
alike_turned a b same = record { address = sym same.address; depth = sym same.depth; fate = sym same.fate; named = sym same.named }

-- ---- parts

-- the one has the starts of some hosts of the other, and both have the same rules, which keep edges on their page's host
pub record IsPlanOf (p q : Plan) : Type 0 where
  pub part : IsPlanOfPart p q
  pub limit : p.limit ≡ q.limit
  pub page_requisites : p.page_requisites ≡ q.page_requisites
  pub robots : p.robots ≡ q.robots

policy_of_part : (p q : Plan) → IsPlanOf p q → IsPart host_of (policy p) (policy q)
policy_of_part p q is = record {
  among = is.part.among;
  home = λ start among (other, mine, same). is.part.home start other among mine same;
  follows = λ page kind target (start, mine, home). follows_of_part p q start page kind target is.part mine home;
  stays = λ page kind target followed. follows_stays p page kind target is.part.span_hosts (λ anywhere. false≢true (sym is.part.span_requisites ∙ anywhere.1)) followed;
  bound = λ kind. ap (λ (limit : Limit). bound_of limit p.page_requisites kind) is.limit ∙ ap (λ (b : Bool). bound_of q.limit b kind) is.page_requisites;
  robots = is.robots;
  origin = λ u. refl;
  allows = λ rules u. refl;
}

-- the starts of p are those of q and r, which share no host
pub record AreParts (p q r : Plan) : Type 0 where
  pub left : IsPlanOf p q
  pub right : IsPlanOf p r
  pub either : (start : Text) → Contains (starts p) start → Contains (starts q) start ⊎ Contains (starts r) start
  pub apart : (one other : Text) → Contains (starts q) one → Contains (starts r) other → host_of one ≡ host_of other → ⊥

split_of : (p q r : Plan) → AreParts p q r → IsSplit host_of (policy p) (policy q) (policy r)
split_of p q r parts = record {
  left = policy_of_part p q parts.left;
  right = policy_of_part p r parts.right;
  either = parts.either;
  apart = λ u (one, mine, is) (other, theirs, also). parts.apart one other mine theirs (sym is ∙ also);
}

turned : (p q r : Plan) → AreParts p q r → AreParts p r q
turned p q r parts = record {
  left = parts.right;
  right = parts.left;
  either = λ start among. ⊎_elim inr inl (parts.either start among);
  apart = λ one other mine theirs same. parts.apart other one theirs mine (sym same);
}

-- which lines have a name, in a report by this plan
abbrev pub AreKept : Plan → List Line → Type 0
AreKept plan lines = All (λ line. is_some line.name ≡ is_to_keep plan line) lines

-- on the part's hosts an address is open by the one exactly if it is by the other
module _ (host : Text → Text) (p q : Policy) (m : Answers) (part : IsPart host p q) where
  part_start : (u : Text) → IsHome host q u → is_start p u ≡ is_start q u
  part_start u at_home =
      ⊎_elim
      (λ found. found ∙ sym (test_of_start q.starts u (part.home u (start_of_test p.starts u found) at_home)))
      (λ none. ⊎_elim (λ also. let found : is_start p u ≡ true = test_of_start p.starts u (part.among u (start_of_test q.starts u also)) in cc) (λ gone. none ∙ sym gone) (cases_Bool (is_start q u)))
      (cases_Bool (is_start p u))

  part_rules : (u : Text) (o : Option RuleSetValue) → is_allowed_by_rules p u o ≡ is_allowed_by_rules q u o
  part_rules u None = refl
  part_rules u (Some rules) = part.allows rules u

  part_open : (u : Text) → IsHome host q u → is_open_address p m u ≡ is_open_address q m u
  part_open u at_home =
      ap (λ b. (b || not p.robots) || is_allowed_by_rules p u (m.rules (p.origin u))) (part_start u at_home)
      ∙ ap (λ b. (is_start q u || not b) || is_allowed_by_rules p u (m.rules (p.origin u))) part.robots
      ∙ ap (λ o. (is_start q u || not q.robots) || is_allowed_by_rules p u (m.rules o)) (part.origin u)
      ∙ ap (λ b. (is_start q u || not q.robots) || b) (part_rules u (m.rules (q.origin u)))

keeps_of_part : (p q : Plan) → IsPlanOf p q → (u : Text) → keeps_of p u ≡ keeps_of q u
unfolding keeps_of
keeps_of_part p q is u = rw (is.part.accept, is.part.reject, is.part.ignore_case) refl

fate_of_part : (p q : Plan) (m : Answers) → IsPlanOf p q → (u : Text) → IsHome host_of (policy q) u → (fate : Fate) → IsFate (policy q) m u fate → IsFate (policy p) m u fate
fate_of_part p q m is u home (Asked x) of = (part_open host_of (policy p) (policy q) m (policy_of_part p q is) u home ∙ of.0, of.1)
fate_of_part p q m is u home Refused of = part_open host_of (policy p) (policy q) m (policy_of_part p q is) u home ∙ of

module _ (p q r : Plan) (m : Answers) (parts : AreParts p q r) (all : List Line) (lines : AreLines (policy p) m all) (kept : AreKept p all) where
  -- a line of a part says what the line of its address in the whole report says
  line_of_part : (xs : List Line) → AreLines (policy q) m xs → AreKept q xs → HasEach xs all
  line_of_part xs mine keeps a (k, lt, is) =
      let of = subst (λ (line : Line). IsDepth (policy q) m line.address line.depth × IsFate (policy q) m line.address line.fate) is (mine.each k a lt) in
      let (route, walk) = of.0.reached in
      let split = split_of p q r parts in
      let home = ends_home host_of (policy p) (policy q) m split.left route a.address a.depth walk in
      let depth : IsDepth (policy p) m a.address a.depth = split_depth host_of (policy p) (policy q) (policy r) m split a.address a.depth of.0 in
      let fate : IsFate (policy p) m a.address a.fate = fate_of_part p q m parts.left a.address home a.fate of.1 in
      let (i, b, within, at, same) = lines.all a.address (route, a.depth, part_up host_of (policy p) (policy q) m split.left route a.address a.depth walk) in
      let two = subst (λ (line : Line). IsDepth (policy p) m line.address line.depth × IsFate (policy p) m line.address line.fate) at (lines.each i b within) in
      let depths : a.depth ≡ b.depth = sole_depth (policy p) m a.address a.depth b.depth depth (subst (λ (u : Text). IsDepth (policy p) m u b.depth) same two.0) in
      let fates : a.fate ≡ b.fate = sole_fate (policy p) m a.address a.fate b.fate fate (subst (λ (u : Text). IsFate (policy p) m u b.fate) same two.1) in
      let mine_kept = subst (λ (line : Line). is_some line.name ≡ is_to_keep q line) is (keeps k a lt) in
      let all_kept = subst (λ (line : Line). is_some line.name ≡ is_to_keep p line) at (kept i b within) in
      let named : is_to_keep q a ≡ is_to_keep p b =
      ap (λ (b : Bool). has_succeeded a.fate && b) (sym (keeps_of_part p q parts.left a.address))
      ∙ ap (λ (f : Fate). has_succeeded f && keeps_of p a.address) fates ∙ ap (λ (u : Text). has_succeeded b.fate && keeps_of p u) (sym same) in
      (b, (i, within, at), record { address = sym same; depth = depths; fate = fates; named = mine_kept ∙ (named ∙ sym all_kept) })

-- Of one site each line of the report of all starts is one of a report of the parts, and each of theirs is one of it: since all three are in the order of
-- addresses, it is theirs, merged. Numbers in names of files are of one report.
pub report_of_parts : (p q r : Plan) (m : Answers) (all xs ys : List Line) → AreParts p q r → AreLines (policy p) m all → AreLines (policy q) m xs → AreLines (policy r) m ys → AreKept p all → AreKept q xs → AreKept r ys
    → HasEach all (xs ++ ys) × HasEach (xs ++ ys) all
report_of_parts p q r m all xs ys parts lines left right kept left_kept right_kept = (there, back)
  where
    back : HasEach (xs ++ ys) all
    back a among = ⊎_elim
        (λ mine. line_of_part p q r m parts all lines kept xs left left_kept a mine)
        (λ theirs. line_of_part p r q m (turned p q r parts) all lines kept ys right right_kept a theirs)
        (Contains-append_cases xs ys a among)

    -- the line of an address that a part found
    of_part : (s : Plan) (zs : List Line) → HasEach zs all → AreLines (policy s) m zs → (a : Line) → Contains all a → IsCandidate (policy s) m a.address → (b : Line) × Contains zs b × AreAlike a b
    of_part s zs each mine a among candidate =
        let (i, b, within, at, same) = mine.all a.address candidate in
        let (c, here, alike) = each b (i, within, at) in
        let one : a ≡ c = sole_line all lines.ascending a c among here (sym same ∙ alike.address) in
        (b, (i, within, at), subst (λ (line : Line). AreAlike line b) (sym one) (alike_turned b c alike))

    there : HasEach all (xs ++ ys)
    there a among =
        let (k, lt, is) = among in
        let of = subst (λ (line : Line). IsDepth (policy p) m line.address line.depth × IsFate (policy p) m line.address line.fate) is (lines.each k a lt) in
        let (route, walk) = of.0.reached in
        ⊎_elim
        (λ mine. let (b, here, alike) = of_part q xs (λ z in_xs. back z (Contains-append_left xs ys z in_xs)) left a among mine in (b, Contains-append_left xs ys b here, alike))
        (λ theirs. let (b, here, alike) = of_part r ys (λ z in_ys. back z (Contains-append_right xs ys z in_ys)) right a among theirs in (b, Contains-append_right xs ys b here, alike))
        ((split_candidates host_of (policy p) (policy q) (policy r) m (split_of p q r parts) a.address).0 (route, a.depth, walk))
