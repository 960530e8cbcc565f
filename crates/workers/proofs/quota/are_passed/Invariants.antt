use Rattle.std.proofs.Common.{◌≡◌, ◌+◌, take}
use Rattle.std.specs.List.{sum_by}
use Rattle.workers.specs.Quotas.{page_len}
use Rattle.workers.proofs.quota.are_passed.Given as goal

-- what is left and what was counted are the quota
abbrev pub invariant-loop-page : goal.invariant-loop-page
invariant-loop-page g l = l.left + sum_by (page_len g.Q.Quota.len_of) (take l.page-index l.pages) ≡ l.most
