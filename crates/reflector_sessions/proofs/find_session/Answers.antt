use Rattle.std.proofs.Common.{sym, ◌∙◌, length}
use Rattle.reflector_sessions.specs.Table.{table_read, searched_rows, searched_count}
use Rattle.reflector_sessions.proofs.Search.{row, no_row, searched_within, told, nothing_told}
use Rattle.reflector_sessions.proofs.find_session.Goals as goal

pub returns-in_err-place : goal.returns-in_err-place
returns-in_err-place c =
    c.from_residual.ensures ∙ sym (nothing_told c.args.local_teid (searched_rows (table_read c.args.sessions)) (no_row c.args.local_teid (searched_rows (table_read c.args.sessions)) c.in_err-place.ensures))

pub returns : goal.returns
returns c =
    let t = table_read c.args.sessions in
    let found = row c.args.local_teid (searched_count (length t.sessions) t.used t.maximum) _ t.sessions c.in_ok-place.place (searched_within t) c.in_ok-place.ensures in
    sym (told c.args.local_teid (searched_rows t) found.is found.found)
