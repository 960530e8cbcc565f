-- What plans keep by their lists of names.
use Rattle.std.proofs.Common.{◌≡◌, ℕ, ◌||◌, ◌&&◌, List, ap, ◌∙◌}
use Rattle.std.specs.Prelude.{not}
use Rattle.follow_filters.specs.Rules.{is_absent, names_some, kept_name, full_name, keeps_of}
use Rattle.follow_filters.specs.declared.plan.Plan.{Plan}

-- plans with the same lists of file names, read alike, keep the same pages
pub keeps_same : (p q : Plan) → p.accept ≡ q.accept → p.reject ≡ q.reject → p.ignore_case ≡ q.ignore_case → (address : List ℕ) → keeps_of p address ≡ keeps_of q address
unfolding keeps_of
keeps_same p q accept reject case address =
    let name = kept_name address in
    let full = full_name address in
    ap (λ a. (is_absent a || names_some p.ignore_case a name full) && not (names_some p.ignore_case p.reject name full)) accept
    ∙ ap (λ r. (is_absent q.accept || names_some p.ignore_case q.accept name full) && not (names_some p.ignore_case r name full)) reject
    ∙ ap (λ i. (is_absent q.accept || names_some i q.accept name full) && not (names_some i q.reject name full)) case
