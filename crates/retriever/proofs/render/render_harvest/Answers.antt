-- The names are those that the report states, and its text follows what is shown.
use Rattle.std.proofs.Common.{refl}
use Rattle.std.proofs.lemmas.Result.{IfOk-from_err}
use Rattle.retriever.proofs.render.render_harvest.Goals as goal

pub returns : goal.returns
returns g c = record {
  naming = c.in_ok-names.ensures.naming;
  count = c.in_ok-names.ensures.count;
  distinct = c.in_ok-names.ensures.distinct;
  text = rw (c.in_ok-push_str.ensures.bytes, c.in_ok-push_shown.ensures.ok, c.new-text.ensures.bytes, c.as_str.ensures.value, c.in_ok-report.ensures.text, c.as_slice.ensures.value, c.trace-trace.ensures.trace) refl;
  read = (c.in_ok-report.ensures.entries, c.in_ok-report.ensures.records, c.names_of.ensures.pages, c.trace-trace.ensures.sound);
}

pub returns-in_err-names : goal.returns-in_err-names
returns-in_err-names g c =
    let failed = c.from_residual.ensures.0 in
    record {
      naming = IfOk-from_err _ _ failed;
      count = IfOk-from_err _ _ failed;
      distinct = IfOk-from_err _ _ failed;
      text = IfOk-from_err _ _ failed;
      read = IfOk-from_err _ _ failed;
    }

pub returns-in_err-report : goal.returns-in_err-report
returns-in_err-report g c =
    let failed = c.from_residual-in_err-report.ensures.0 in
    record {
      naming = IfOk-from_err _ _ failed;
      count = IfOk-from_err _ _ failed;
      distinct = IfOk-from_err _ _ failed;
      text = IfOk-from_err _ _ failed;
      read = IfOk-from_err _ _ failed;
    }

pub returns-in_err-push_shown : goal.returns-in_err-push_shown
returns-in_err-push_shown g c =
    let failed = c.from_residual-in_err-push_shown.ensures.0 in
    record {
      naming = IfOk-from_err _ _ failed;
      count = IfOk-from_err _ _ failed;
      distinct = IfOk-from_err _ _ failed;
      text = IfOk-from_err _ _ failed;
      read = IfOk-from_err _ _ failed;
    }

pub returns-in_err-push_str : goal.returns-in_err-push_str
returns-in_err-push_str g c =
    let failed = c.from_residual-in_err-push_str.ensures.0 in
    record {
      naming = IfOk-from_err _ _ failed;
      count = IfOk-from_err _ _ failed;
      distinct = IfOk-from_err _ _ failed;
      text = IfOk-from_err _ _ failed;
      read = IfOk-from_err _ _ failed;
    }
