-- `return_calls::record_return_gtpu_datagram` meets its contract: what was read is recorded, and told.
use Rattle.std.proofs.Common.{ap, ◌∙◌}
use Rattle.rows.specs.Columns.{columns_marked}
use Rattle.observer.specs.Answer.{observer_of}
use Rattle.return_calls.specs.Reading.{record_returned}
use Rattle.return_calls.proofs.Laws.{message_is, tunnel_is}
use Rattle.return_calls.proofs.record_return_gtpu_datagram.Goals as goal

pub returns-clause-recorded : goal.returns-clause-recorded
returns-clause-recorded c =
    let a = c.args in
    let o = observer_of (columns_marked a.sheet.now) a.counts.now in
    c.record_returned.ensures.recorded
    ∙ ap (record_returned o a.return_timestamp_ns) c.read_message-read.ensures
    ∙ message_is a.message.message_type a.payload.now o a.return_timestamp_ns

pub returns-clause-tunnel : goal.returns-clause-tunnel
returns-clause-tunnel c =
    tunnel_is c.args.message.message_type c.args.payload.now c.record_returned.result (rw c.read_message-read.ensures at c.record_returned.ensures.as_read)
