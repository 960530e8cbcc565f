-- Plans of a retrieval.
use Rattle.std.specs.Prelude.{◌≡◌, false, ℕ, List, [], ◌∷◌}
use Rattle.follow_filters.specs.declared.plan.Plan.{Plan}

-- where the retrieval starts
abbrev pub starts : Plan → List (List ℕ)
starts plan = plan.start ∷ plan.others

-- the plan has one start, no filters beyond the start's host, robots files aren't honoured, nothing lies beyond the limit, and two requests may be out to an origin
pub record IsUnfiltered (plan : Plan) : Type 0 where
  pub others : plan.others ≡ []
  pub span_hosts : plan.span_hosts ≡ false
  pub no_parent : plan.no_parent ≡ false
  pub domains : plan.domains ≡ []
  pub exclude_domains : plan.exclude_domains ≡ []
  pub include_dirs : plan.include_dirs ≡ []
  pub exclude_dirs : plan.exclude_dirs ≡ []
  pub accept : plan.accept ≡ []
  pub reject : plan.reject ≡ []
  pub accept_expressions : plan.accept_expressions ≡ []
  pub reject_expressions : plan.reject_expressions ≡ []
  pub ignore_case : plan.ignore_case ≡ false
  pub robots : plan.robots ≡ false
  pub page_requisites : plan.page_requisites ≡ false
  pub span_requisites : plan.span_requisites ≡ false
  pub per_host : plan.per_host ≡ 2
