-- `return_calls::record_received_tpdu` meets its contract: what was read is recorded.
use Rattle.std.proofs.Common.{ap, ◌∙◌}
use Rattle.std.proofs.lemmas.Result.{err_from_is_err_and}
use Rattle.rows.specs.Columns.{columns_marked}
use Rattle.observer.specs.Answer.{observer_of}
use Rattle.return_calls.specs.Reading.{record_returned}
use Rattle.return_calls.proofs.Laws.{untold, received_is}
use Rattle.return_calls.proofs.record_received_tpdu.Goals as goal

pub returns-in_err-record_returned-clause-recorded :
    goal.returns-in_err-record_returned-clause-recorded
returns-in_err-record_returned-clause-recorded c =
    let o = observer_of (columns_marked c.args.sheet.now) c.args.counts.now in
    let t = c.args.return_timestamp_ns in
    let p = err_from_is_err_and c.from_residual.result c.from_residual.ensures.1 in
    rw (p.1, p.2)
    (ap untold (c.in_err-record_returned.ensures.recorded ∙ ap (record_returned o t) c.read_tpdu.ensures) ∙ received_is o t c.args.tpdu.now)

pub returns-clause-recorded : goal.returns-clause-recorded
returns-clause-recorded c =
    let o = observer_of (columns_marked c.args.sheet.now) c.args.counts.now in
    let t = c.args.return_timestamp_ns in
    ap untold (c.in_ok-record_returned.ensures.recorded ∙ ap (record_returned o t) c.read_tpdu.ensures) ∙ received_is o t c.args.tpdu.now
