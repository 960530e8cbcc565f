-- Why links are rejected, in the words of Wget's log (GNU Wget manual, Recursive Retrieval Options).
use Rattle.std.specs.Prelude.{ℕ, List, codes}
use Rattle.follow_filters.specs.declared.rule.FollowRule.{FollowRule}
use Rattle.follow_filters.specs.declared.rule.FollowRule.TheVariants as rule
use Rattle.rejected_links.specs.declared.reason.Reason.{Reason}
use Rattle.rejected_links.specs.declared.reason.Reason.TheVariants.{Blacklist, Domain, List as Directories, Parent, Regex, Rules, SpannedHost}

-- the reason of a link that doesn't meet the rule
abbrev pub reason_of : FollowRule → Reason
reason_of rule.RobotsFile = Blacklist
reason_of rule.Host = SpannedHost
reason_of rule.Parent = Parent
reason_of rule.Domain = Domain
reason_of rule.ExcludedDomain = Domain
reason_of rule.NotIncluded = Directories
reason_of rule.Excluded = Directories
reason_of rule.NotAccepted = Rules
reason_of rule.Rejected = Rules
reason_of rule.ExpressionMissing = Regex
reason_of rule.ExpressionFound = Regex

-- the word of a reason
abbrev pub word_of : Reason → List ℕ
word_of Blacklist = codes "BLACKLIST"
word_of Domain = codes "DOMAIN"
word_of Directories = codes "LIST"
word_of Parent = codes "PARENT"
word_of Regex = codes "REGEX"
word_of Rules = codes "RULES"
word_of SpannedHost = codes "SPANNEDHOST"
