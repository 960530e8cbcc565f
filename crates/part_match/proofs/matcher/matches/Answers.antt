use Rattle.std.proofs.Common.{◌≡◌, false, ◌+◌, length, sym, ap, ◌∙◌}
use Rattle.std.proofs.lemmas.List.{take_rest}
use Rattle.std.specs.List.{list_all}
use Rattle.part_match.specs.Cuts.{is_match}
use Rattle.part_match.proofs.Decided.{cuts_by_value, too_short, State, Misses, State_run, State_one, State_moved, State_back, State_refused, State_end, State_first, State_nothing_behind, State_run_less, State_back_less, one_less, tries, at_miss, at_no_part}
use Rattle.part_match.proofs.matcher.matches.Goals as goal
use Rattle.part_match.proofs.matcher.matches.Goals.{then-at-parts+else-is_run+else-takes, else-at-parts}

pub loop-octet-preserved-then-is_run : goal.loop-octet-preserved-then-is_run
loop-octet-preserved-then-is_run g c =
    State_run _ _ _ _ _ _ _ _ _ c.loop-octet.invariant c.if-at-parts.true c.index-parts-at.is (sym c.is_run.ensures ∙ c.if-is_run.true)

pub loop-octet-preserved-then-takes : goal.loop-octet-preserved-then-takes
loop-octet-preserved-then-takes g c =
    let done : State g.P.Part.is_run g.P.Part.takes g.T.Text.octets c.args.parts.now c.args.text (c.loop-octet.at + 1) c.in-Some.behind c.loop-octet.last_run =
    State_one _ _ _ _ _ _ _ _ _ _ _ c.loop-octet.invariant c.if-at-parts.true c.index-parts-at.is (sym c.is_run.ensures ∙ c.if-is_run.false) (sym c.takes.ensures ∙ c.if-takes.true) c.in-Some.ensures in
    State_moved _ _ _ _ _ _ _ _ _ done (cc)

pub returns-then-not-is_long_enough : goal.returns-then-not-is_long_enough
returns-then-not-is_long_enough g c =
    let value : false ≡ is_match g.P.Part.is_run g.P.Part.takes c.args.parts.now (g.T.Text.octets c.args.text) = too_short _ _ _ _ _ c.if-not-is_long_enough.true c.is_long_enough.ensures in
    record { value = value; cuts = cuts_by_value _ _ _ _ _ value }

pub returns-in_default-last_run : goal.returns-in_default-last_run
returns-in_default-last_run g c =
    let missed : Misses g.P.Part.is_run g.P.Part.takes c.args.parts.now c.loop-octet.at c.in-Some.octet =
    λ behind. elim c.if-at-parts.branch [
      | then-at-parts+else-is_run+else-takes w ↦ at_miss _ _ _ _ _ _ _ w.if-at-parts.true w.index-parts-at.is (sym w.is_run.ensures ∙ w.if-is_run.false) (sym w.takes.ensures ∙ w.if-takes.false)
      | else-at-parts w ↦ at_no_part _ _ _ _ _ _ w.if-at-parts.false
    ] in
    let value : false ≡ is_match g.P.Part.is_run g.P.Part.takes c.args.parts.now (g.T.Text.octets c.args.text) = State_refused _ _ _ _ _ _ _ _ _ _ c.loop-octet.invariant c.in-Some.ensures missed c.in_default-last_run.is in
    record { value = value; cuts = cuts_by_value _ _ _ _ _ value }

pub loop-octet-preserved : goal.loop-octet-preserved
loop-octet-preserved g c =
    let missed : Misses g.P.Part.is_run g.P.Part.takes c.args.parts.now c.loop-octet.at c.in-Some.octet =
    λ behind. elim c.if-at-parts.branch [
      | then-at-parts+else-is_run+else-takes w ↦ at_miss _ _ _ _ _ _ _ w.if-at-parts.true w.index-parts-at.is (sym w.is_run.ensures ∙ w.if-is_run.false) (sym w.takes.ensures ∙ w.if-takes.false)
      | else-at-parts w ↦ at_no_part _ _ _ _ _ _ w.if-at-parts.false
    ] in
    State_back _ _ _ _ _ _ _ _ _ _ _ _ _ _ _ c.loop-octet.invariant c.in-Some.ensures missed c.in-Some-last_run.is (cc) c.in-Some-split_first.ensures

pub returns : goal.returns
returns g c =
    let value : c.only_runs.result ≡ is_match g.P.Part.is_run g.P.Part.takes c.args.parts.now (g.T.Text.octets c.args.text) =
    State_end _ _ _ _ _ _ _ _ _ c.loop-octet.invariant c.in_default.ensures (c.only_runs.ensures ∙ ap (λ ps. list_all g.P.Part.is_run ps) (take_rest c.args.parts.now c.loop-octet.at)) in
    record { value = value; cuts = cuts_by_value _ _ _ _ _ value }

pub loop-octet-init : goal.loop-octet-init
loop-octet-init g c = State_first _ _ _ _ _

pub returns-in_default-split_first : goal.returns-in_default-split_first
returns-in_default-split_first g c = absurd (State_nothing_behind _ _ _ _ _ _ _ _ _ _ _ _ _ c.loop-octet.invariant c.in-Some.ensures c.in-Some-last_run.is (cc) c.in_default-split_first.ensures)

pub loop-octet-smaller-then-is_run : goal.loop-octet-smaller-then-is_run
loop-octet-smaller-then-is_run g c = State_run_less _ _ _ _ _ _ _ _ c.loop-octet.invariant c.if-at-parts.true

pub loop-octet-smaller-then-takes : goal.loop-octet-smaller-then-takes
loop-octet-smaller-then-takes g c =
    one_less (tries g.T.Text.octets c.loop-octet.last_run (length (g.T.Text.octets c.args.text))) (length c.args.parts.now) c.loop-octet.at c.if-at-parts.true

pub loop-octet-smaller : goal.loop-octet-smaller
loop-octet-smaller g c =
    State_back_less g.T.Text.octets c.args.parts.now c.args.text c.loop-octet.at c.loop-octet.last_run _ _ _ _ _ c.in-Some-last_run.is (cc) c.in-Some-split_first.ensures
