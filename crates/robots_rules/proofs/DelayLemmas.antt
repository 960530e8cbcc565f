-- Delays, tallied from the first line on, are those of the groups.
use Rattle.std.proofs.Common.{◌≡◌, ◌∙◌, ℕ, ◌+◌, arith, Bool, true, false, cond, ◌||◌, List, [], ◌∷◌, ◌++◌, map, take, drop, max, Option, Some, None, sym, refl, ap}
use Rattle.std.specs.Prelude.{position, ◌==◌, option_and_then}
use Rattle.std.specs.Option.{option_map, option_map_or}
use Rattle.std.specs.List.{list_any, flat_map, filter, filter_map, cons_option}
use Rattle.std.proofs.lemmas.Bool.{cond-true, cond-false}
use Rattle.robots_rules.specs.Lines.{LineValue, RuleLine, agent, rule, line_of, line_texts_of, lines_in, uncommented, without_blanks}
use Rattle.robots_rules.specs.Delays.{FileLine, says, delays, DelayGroup, DelayGroups, alone, joined, delay_groups_of, longest, longest_naming, delay_by, delay_of, file_line_of, file_lines_in}
use Rattle.robots_rules.specs.Groups.{Group, Groups, agent_joined, with_agent, groups_of, names_us, names_all}
use Rattle.robots_rules.specs.declared.groups.Audience.TheVariants as audience
use Rattle.robots_rules.specs.inner.AudienceView.{names_one}
use Rattle.robots_rules.specs.inner.DelayTally.{counted, longest_from}
use Rattle.robots_rules.proofs.LinesLemmas.{no_colon_by, at_colon_by}

-- ---- the longest of some

longest-append : (some others : List ℕ) → longest (some ++ others) ≡ max (longest some) (longest others)
unfolding longest
longest-append [] others = omega arith
longest-append (delay ∷ some) others = omega (arith, longest-append some others)

longest-nil : longest [] ≡ 0
unfolding longest
longest-nil = refl

longest-cons : (delay : ℕ) (others : List ℕ) → longest (delay ∷ others) ≡ max delay (longest others)
unfolding longest
longest-cons delay others = refl

naming-cons : (names : List ℕ → Bool) (group : DelayGroup) (groups : List DelayGroup) → longest_naming names (group ∷ groups) ≡ max (counted (list_any names group.agents) (longest group.delays)) (longest_naming names groups)
naming-cons names group groups = by_test (list_any names group.agents)
  where
    rest : List DelayGroup
    rest = filter (λ (g : DelayGroup). list_any names g.agents) groups

    by_test : (b : Bool) → longest (flat_map (λ (g : DelayGroup). g.delays) (cond b (group ∷ rest) rest)) ≡ max (cond b (longest group.delays) 0) (longest (flat_map (λ (g : DelayGroup). g.delays) rest))
    by_test true = longest-append group.delays (flat_map (λ (g : DelayGroup). g.delays) rest)
    by_test false = omega arith

naming-nil : (names : List ℕ → Bool) → longest_naming names [] ≡ 0
naming-nil names = longest-nil

-- ---- the rest of a file

-- as if a rule came since the last user agent: the delays at the front are those of the group being read
abbrev after_rule : (List ℕ → Bool) → Bool → ℕ → DelayGroups → ℕ
after_rule names ours here rest = max (counted ours (max here (longest rest.strays))) (longest_naming names rest.groups)

-- the group being read is the first one
first_goes_on : (List ℕ → Bool) → Bool → ℕ → List DelayGroup → ℕ
first_goes_on names ours here [] = counted ours here
first_goes_on names ours here (group ∷ groups) = max (counted (ours || list_any names group.agents) (max here (longest group.delays))) (longest_naming names groups)

-- as if none did: if a user agent is next, its group goes on
abbrev after_name : (List ℕ → Bool) → Bool → ℕ → DelayGroups → ℕ
after_name names ours here rest = cond rest.begins (first_goes_on names ours (max here (longest rest.strays)) rest.groups) (after_rule names ours here rest)

-- the groups with one user agent more
abbrev groups_with : (name : List ℕ) (begins : Bool) (strays : List ℕ) (groups : List DelayGroup) → List DelayGroup
groups_with name begins strays groups = cond begins (joined name strays groups) (alone name strays ∷ groups)

-- ---- arithmetic

counted_more : (named ours any : Bool) (here strays stated others : ℕ) → max (counted ((named || ours) || any) (max (max here strays) stated)) others ≡ max (counted (ours || (named || any)) (max (max here 0) (max strays stated))) others
counted_more true true any here strays stated others = omega arith
counted_more true false any here strays stated others = omega arith
counted_more false true any here strays stated others = omega arith
counted_more false false true here strays stated others = omega arith
counted_more false false false here strays stated others = refl

counted_alone : (named ours : Bool) (here strays others : ℕ) → max (counted (named || ours) (max here strays)) others ≡ max (counted (ours || (named || false)) (max (max here 0) strays)) others
counted_alone true true here strays others = omega arith
counted_alone true false here strays others = omega arith
counted_alone false true here strays others = omega arith
counted_alone false false here strays others = refl

counted_new : (named any : Bool) (strays stated others : ℕ) → max (counted (named || any) (max (max 0 strays) stated)) others ≡ max (counted (named || any) (max strays stated)) others
counted_new true any strays stated others = omega arith
counted_new false true strays stated others = omega arith
counted_new false false strays stated others = refl

counted_first : (named : Bool) (strays others : ℕ) → max (counted named (max 0 strays)) others ≡ max (counted (named || false) strays) others
counted_first true strays others = omega arith
counted_first false strays others = refl

counted_last : (ours : Bool) (here : ℕ) → counted ours here ≡ max (counted ours (max here 0)) 0
counted_last true here = omega arith
counted_last false here = omega arith

counted_before : (ours : Bool) (here others : ℕ) → max (counted ours here) others ≡ max (counted ours (max here 0)) others
counted_before true here others = omega arith
counted_before false here others = refl

with_none : (n : ℕ) → n ≡ max n 0
with_none n = omega arith

regrouped : (here stated strays : ℕ) → max (max here stated) strays ≡ max here (max stated strays)
regrouped here stated strays = omega arith

-- ---- a user agent

goes_on : (names : List ℕ → Bool) (ours : Bool) (here : ℕ) (name : List ℕ) (strays : List ℕ) (begins : Bool) (groups : List DelayGroup)
    → cond begins (first_goes_on names (names name || ours) (max here (longest strays)) groups) (max (counted (names name || ours) (max here (longest strays))) (longest_naming names groups))
    ≡ first_goes_on names ours (max here (longest [])) (groups_with name begins strays groups)
unfolding first_goes_on joined longest
goes_on names ours here name strays true [] = with_none (counted (names name || ours) (max here (longest strays))) ∙ counted_alone (names name) ours here (longest strays) 0
goes_on names ours here name strays true (group ∷ groups) =
    counted_more (names name) ours (list_any names group.agents) here (longest strays) (longest group.delays) (longest_naming names groups)
    ∙ ap (λ n. max (counted (ours || (names name || list_any names group.agents)) (max (max here 0) n)) (longest_naming names groups)) (sym (longest-append strays group.delays))
goes_on names ours here name strays false groups = counted_alone (names name) ours here (longest strays) (longest_naming names groups)

starts_new : (names : List ℕ → Bool) (name : List ℕ) (strays : List ℕ) (begins : Bool) (groups : List DelayGroup)
    → cond begins (first_goes_on names (names name) (max 0 (longest strays)) groups) (max (counted (names name) (max 0 (longest strays))) (longest_naming names groups))
    ≡ longest_naming names (groups_with name begins strays groups)
unfolding first_goes_on joined
starts_new names name strays true [] =
    with_none (counted (names name) (max 0 (longest strays))) ∙ counted_first (names name) (longest strays) 0
    ∙ ap (max (counted (names name || false) (longest strays))) (sym (naming-nil names)) ∙ sym (naming-cons names (alone name strays) [])
starts_new names name strays true (group ∷ groups) =
    counted_new (names name) (list_any names group.agents) (longest strays) (longest group.delays) (longest_naming names groups)
    ∙ ap (λ n. max (counted (names name || list_any names group.agents) n) (longest_naming names groups)) (sym (longest-append strays group.delays))
    ∙ sym (naming-cons names (record { agents = name ∷ group.agents; delays = strays ++ group.delays }) groups)
starts_new names name strays false groups =
    counted_first (names name) (longest strays) (longest_naming names groups) ∙ sym (naming-cons names (alone name strays) groups)

-- ---- all lines

rest_tallied : (names : List ℕ → Bool) (ours : Bool) (here : ℕ) (lines : List FileLine)
    → (longest_from names ours true here lines ≡ after_rule names ours here (delay_groups_of lines)) × (longest_from names ours false here lines ≡ after_name names ours here (delay_groups_of lines))
unfolding longest_from delay_groups_of longest
rest_tallied names ours here [] = (counted_last ours here, counted_last ours here)
rest_tallied names ours here (says (agent name) ∷ lines) =
    let rest = delay_groups_of lines in (
      ap (max (counted ours here)) ((rest_tallied names (names name) 0 lines).1 ∙ starts_new names name rest.strays rest.begins rest.groups)
          ∙ counted_before ours here (longest_naming names (groups_with name rest.begins rest.strays rest.groups)),
      (rest_tallied names (names name || ours) here lines).1 ∙ goes_on names ours here name rest.strays rest.begins rest.groups,
    )
rest_tallied names ours here (says (rule stated) ∷ lines) = let later = (rest_tallied names ours here lines).0 in (later, later)
rest_tallied names ours here (delays stated ∷ lines) =
    let rest = delay_groups_of lines in
    let later = rest_tallied names ours (max here stated) lines in
    let same = regrouped here stated (longest rest.strays) in (
      later.0 ∙ ap (λ n. max (counted ours n) (longest_naming names rest.groups)) same,
      later.1 ∙ ap (λ n. cond rest.begins (first_goes_on names ours n rest.groups) (max (counted ours n) (longest_naming names rest.groups))) same,
    )

-- what is tallied of a whole file is the longest delay of the groups
pub tallied-groups : (names : List ℕ → Bool) (lines : List FileLine) → longest_from names false true 0 lines ≡ longest_naming names (delay_groups_of lines).groups
tallied-groups names lines = (rest_tallied names false 0 lines).0 ∙ omega arith

-- ---- steps of a tally

pub tally_end : (names : List ℕ → Bool) (most here : ℕ) (ours behind is : Bool) → ours ≡ is → max most (counted is here) ≡ max most (longest_from names ours behind here [])
unfolding longest_from
tally_end names most here ours behind is same = ap (λ b. max most (counted b here)) (sym same)

pub tally_new : (names : List ℕ → Bool) (name : List ℕ) (named : Bool) (most here : ℕ) (ours behind : Bool) (next : ℕ) (rest : List FileLine) → behind ≡ true → names name ≡ named → next ≡ max most (longest_from names ours behind here [])
    → max next (longest_from names named false 0 rest) ≡ max most (longest_from names ours behind here (says (agent name) ∷ rest))
unfolding longest_from
tally_new names name named most here ours behind next rest since is ended =
    let later = longest_from names named false 0 rest in
    ap (λ n. max n later) ended ∙ regrouped most (counted ours here) later
    ∙ ap (λ b. max most (max (counted ours here) (longest_from names b false 0 rest))) (sym is)
    ∙ ap (max most) (sym (cond-true behind _ _ since))

pub tally_more : (names : List ℕ → Bool) (name : List ℕ) (named : Bool) (most here : ℕ) (ours behind next : Bool) (rest : List FileLine) → behind ≡ false → names name ≡ named → next ≡ (named || ours)
    → max most (longest_from names next behind here rest) ≡ max most (longest_from names ours behind here (says (agent name) ∷ rest))
unfolding longest_from
tally_more names name named most here ours behind next rest since is joins =
    ap (λ b. max most (longest_from names b behind here rest)) (joins ∙ ap (λ b. b || ours) (sym is))
    ∙ ap (λ b. max most (longest_from names (names name || ours) b here rest)) since
    ∙ ap (max most) (sym (cond-false behind _ _ since))

-- the longest delay for an audience
pub audience_longest : (named : Bool) (groups : List DelayGroup) → longest_naming (names_one (cond named audience.ThisAgent audience.EveryAgent)) groups ≡ cond named (longest_naming names_us groups) (longest_naming names_all groups)
audience_longest true groups = refl
audience_longest false groups = refl

-- ---- the delay of a line

pub no_colon_delay : (text whole : List ℕ) → text ≡ uncommented whole → position (λ octet. octet == 58) text ≡ None → None ≡ delay_of whole
unfolding delay_of
no_colon_delay text whole is none = sym (no_colon_by delay_by text whole is none)

pub at_colon_delay : (text whole : List ℕ) (i : ℕ) → text ≡ uncommented whole → position (λ octet. octet == 58) text ≡ Some i → delay_by (without_blanks (take i text)) (without_blanks (drop (i + 1) text)) ≡ delay_of whole
unfolding delay_of
at_colon_delay text whole i is found = sym (at_colon_by delay_by text whole i is found)

-- ---- the groups are those of the rules

-- what a line says of access
said : FileLine → Option LineValue
said (says line) = Some line
said (delays stated) = None

-- whether a user agent is first
begins_with_name : List LineValue → Bool
begins_with_name [] = false
begins_with_name (agent name ∷ lines) = true
begins_with_name (rule stated ∷ lines) = false

names_first : (lines : List FileLine) → (delay_groups_of lines).begins ≡ begins_with_name (filter_map said lines)
unfolding said begins_with_name delay_groups_of
names_first [] = refl
names_first (says (agent name) ∷ lines) = refl
names_first (says (rule stated) ∷ lines) = refl
names_first (delays stated ∷ lines) = names_first lines

with_agent-groups : (name : List ℕ) (lines : List LineValue) (rest : Groups) → (with_agent name lines rest).groups ≡ cond (begins_with_name lines) (agent_joined name rest.groups) (record { agents = name ∷ []; rules = rest.strays } ∷ rest.groups)
unfolding begins_with_name with_agent
with_agent-groups name [] rest = refl
with_agent-groups name (agent next ∷ lines) rest = refl
with_agent-groups name (rule stated ∷ lines) rest = refl

agents : List DelayGroup → List (List (List ℕ))
agents groups = map (λ (group : DelayGroup). group.agents) groups

agents_of_rules : List Group → List (List (List ℕ))
agents_of_rules groups = map (λ (group : Group). group.agents) groups

same_joined : (name strays : List ℕ) (groups : List DelayGroup) (others : List Group) → agents groups ≡ agents_of_rules others → agents (joined name strays groups) ≡ agents_of_rules (agent_joined name others)
unfolding agents agents_of_rules joined agent_joined
same_joined name strays [] [] same = refl
same_joined name strays [] (other ∷ others) same = cc
same_joined name strays (group ∷ groups) [] same = cc
same_joined name strays (group ∷ groups) (other ∷ others) same = ap (name_first name) same
  where
    name_first : List ℕ → List (List (List ℕ)) → List (List (List ℕ))
    name_first name [] = []
    name_first name (first ∷ later) = (name ∷ first) ∷ later

same_with : (name strays : List ℕ) (stray_rules : List RuleLine) (begins : Bool) (groups : List DelayGroup) (others : List Group) → agents groups ≡ agents_of_rules others
    → agents (groups_with name begins strays groups) ≡ agents_of_rules (cond begins (agent_joined name others) (record { agents = name ∷ []; rules = stray_rules } ∷ others))
unfolding agents agents_of_rules
same_with name strays stray_rules true groups others same = same_joined name strays groups others same
same_with name strays stray_rules false groups others same = ap (λ (rest : List (List (List ℕ))). (name ∷ []) ∷ rest) same

same_groups : (lines : List FileLine) → agents (delay_groups_of lines).groups ≡ agents_of_rules (groups_of (filter_map said lines)).groups
unfolding agents agents_of_rules said delay_groups_of groups_of
same_groups [] = refl
same_groups (says (agent name) ∷ lines) =
    let rest = delay_groups_of lines in
    let read = groups_of (filter_map said lines) in
    same_with name rest.strays read.strays rest.begins rest.groups read.groups (same_groups lines)
    ∙ ap (λ b. agents_of_rules (cond b (agent_joined name read.groups) (record { agents = name ∷ []; rules = read.strays } ∷ read.groups))) (names_first lines)
    ∙ ap agents_of_rules (sym (with_agent-groups name (filter_map said lines) read))
same_groups (says (rule stated) ∷ lines) = same_groups lines
same_groups (delays stated ∷ lines) = same_groups lines

said_of : (line : List ℕ) → option_and_then said (file_line_of line) ≡ line_of line
unfolding said file_line_of
said_of line = by_lines (line_of line) (delay_of line)
  where
    by_lines : (l : Option LineValue) (d : Option ℕ) → option_and_then said (option_map_or (λ line. Some (says line)) l (option_map delays d)) ≡ l
    by_lines (Some l) d = refl
    by_lines None (Some d) = refl
    by_lines None None = refl

said_among : (texts : List (List ℕ)) → filter_map said (filter_map file_line_of texts) ≡ filter_map line_of texts
said_among [] = refl
said_among (text ∷ texts) = by_line (file_line_of text) (line_of text) (said_of text) (said_among texts)
  where
    by_line : (f : Option FileLine) (l : Option LineValue) → option_and_then said f ≡ l → filter_map said (filter_map file_line_of texts) ≡ filter_map line_of texts → filter_map said (cons_option f (filter_map file_line_of texts)) ≡ cons_option l (filter_map line_of texts)
    by_line None l is rest = rest ∙ ap (λ o. cons_option o (filter_map line_of texts)) is
    by_line (Some f) l is rest = ap (λ o. cons_option o (filter_map said (filter_map file_line_of texts))) is ∙ ap (cons_option l) rest

-- the groups of which the delays are have the user agents of those of which the rules are
pub same_agents : (file : List ℕ) → map (λ (group : DelayGroup). group.agents) (delay_groups_of (file_lines_in file)).groups ≡ map (λ (group : Group). group.agents) (groups_of (lines_in file)).groups
unfolding agents agents_of_rules lines_in file_lines_in
same_agents file = same_groups (file_lines_in file) ∙ ap (λ (lines : List LineValue). agents_of_rules (groups_of lines).groups) (said_among (line_texts_of file))
