-- How long this agent is to wait between the beginnings of two requests to an origin: the `Crawl-delay` lines of its robots file. RFC 9309 leaves
-- them to others (section 2.2.4); search engines document them as a number of seconds, for the user agents of the group that they are in.
use Rattle.std.specs.Prelude.{ℕ, ◌+◌, ◌*◌, Bool, true, false, ◌&&◌, ◌==◌, not, List, [], ◌∷◌, ◌++◌, length, take, max, min, codes, filter, if◌then◌else◌, Option, Some, None}
use Rattle.std.specs.List.{before_first, after_first, list_any, list_all, filter_map, flat_map}
use Rattle.std.specs.Option.{option_map, option_map_or}
use Rattle.std.specs.Char.{is_ascii_digit}
use Rattle.std.specs.Str.Parse.{digits_value}
use Rattle.robots_rules.specs.Lines.{LineValue, agent, rule, is_word, line_of, line_texts_of, lines_in, uncommented, without_blanks}
use Rattle.robots_rules.specs.Groups.{groups_of, names_us, names_all}
use Rattle.robots_rules.specs.declared.seconds.TheConstants.{MAX_DELAY}

-- ---- numbers of seconds

-- the point of a number
abbrev pub is_point : ℕ → Bool
is_point octet = octet == 46

-- the nanoseconds that the digits after a point write: the first nine of them, and zeros if there are fewer
abbrev pub nanos_in : List ℕ → ℕ
nanos_in fraction = digits_value 10 (take 9 (fraction ++ codes "000000000"))

-- a number with these digits before and after its point
abbrev pub is_number : List ℕ → List ℕ → Bool
is_number whole fraction = list_all is_ascii_digit whole && list_all is_ascii_digit fraction && not (length whole == 0 && length fraction == 0)

-- the nanoseconds that so many seconds are, at most 60 seconds; nothing if the text is no number
unfoldable pub delay_in : List ℕ → Option ℕ
delay_in text =
    let whole = before_first is_point text in
    let fraction = after_first is_point text in
    if is_number whole fraction then Some (min (digits_value 10 whole * 1_000_000_000 + nanos_in fraction) MAX_DELAY) else None

-- ---- lines

-- a line that says something of access, or a delay in nanoseconds
pub data FileLine : Type 0 where
  says : LineValue → FileLine
  delays : ℕ → FileLine

-- the delay that a line with this key and this value states
abbrev pub delay_by : List ℕ → List ℕ → Option ℕ
delay_by key value = if is_word (codes "crawl-delay") key then delay_in value else None

-- the delay that a line states, if it does
unfoldable pub delay_of : List ℕ → Option ℕ
delay_of line =
    let text = uncommented line in
    if list_any (λ octet. octet == 58) text
    then delay_by (without_blanks (before_first (λ octet. octet == 58) text)) (without_blanks (after_first (λ octet. octet == 58) text))
    else None

-- what a line says of access, or else the delay that it states
unfoldable pub file_line_of : List ℕ → Option FileLine
file_line_of line = option_map_or (λ line. Some (says line)) (line_of line) (option_map delays (delay_of line))

-- the lines of a file that say something or state a delay, in their order
unfoldable pub file_lines_in : List ℕ → List FileLine
file_lines_in file = filter_map file_line_of (line_texts_of file)

-- ---- groups

-- the user agents of a group, and its delays
pub record DelayGroup : Type 0 where
  pub agents : List (List ℕ)
  pub delays : List ℕ

-- the delays at the front that are in no group, whether the first line that says something names a user agent, and the groups
pub record DelayGroups : Type 0 where
  pub strays : List ℕ
  pub begins : Bool
  pub groups : List DelayGroup

-- a group that begins with the user agent, and has these delays
abbrev pub alone : List ℕ → List ℕ → DelayGroup
alone name strays = record { agents = name ∷ []; delays = strays }

-- the user agent joins the first group, with the delays between them
unfoldable pub joined : List ℕ → List ℕ → List DelayGroup → List DelayGroup
joined name strays [] = alone name strays ∷ []
joined name strays (first ∷ others) = record { agents = name ∷ first.agents; delays = strays ++ first.delays } ∷ others

-- a user agent before the rest: it joins the first group if no rule is between, as in `with_agent` of `Groups`, else it begins a group
abbrev pub with_name : List ℕ → DelayGroups → DelayGroups
with_name name rest =
    record {
      strays = [];
      begins = true;
      groups = if rest.begins then joined name rest.strays rest.groups else alone name rest.strays ∷ rest.groups;
    }

-- the groups of a file's lines, read from the last line: a delay is in a group as a rule is, but doesn't end the list of its user agents
unfoldable pub delay_groups_of : List FileLine → DelayGroups
delay_groups_of [] = record { strays = []; begins = false; groups = [] }
delay_groups_of (says (agent name) ∷ lines) = with_name name (delay_groups_of lines)
delay_groups_of (says (rule stated) ∷ lines) = let rest = delay_groups_of lines in record { strays = rest.strays; begins = false; groups = rest.groups }
delay_groups_of (delays stated ∷ lines) = let rest = delay_groups_of lines in record { strays = stated ∷ rest.strays; begins = rest.begins; groups = rest.groups }

-- ---- this agent

-- the longest of some delays, 0 if there is none
unfoldable pub longest : List ℕ → ℕ
longest [] = 0
longest (delay ∷ others) = max delay (longest others)

-- the longest delay of all groups with a user agent that passes
abbrev pub longest_naming : (List ℕ → Bool) → List DelayGroup → ℕ
longest_naming names groups = longest (flat_map (λ group. group.delays) (filter (λ group. list_any names group.agents) groups))

-- the nanoseconds that this agent is to wait, 0 if the file says nothing of it: the longest delay of all groups that name this agent, or if there is
-- none, of all that name every agent
unfoldable pub crawl_delay_in : List ℕ → ℕ
crawl_delay_in file =
    let groups = (delay_groups_of (file_lines_in file)).groups in
    if list_any (λ group. list_any names_us group.agents) (groups_of (lines_in file)).groups
    then longest_naming names_us groups
    else longest_naming names_all groups
