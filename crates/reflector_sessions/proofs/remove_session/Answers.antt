use Rattle.std.proofs.Common.{arith}
use Rattle.std.proofs.lemmas.Result.{err_from_is_err_and}
use Rattle.reflector_sessions.specs.Session.{no_session}
use Rattle.reflector_sessions.specs.Table.{table_lent}
use Rattle.reflector_sessions.proofs.Calls.{removal_refused, none_removed, removed}
use Rattle.reflector_sessions.proofs.Search.{read_refused, read_sound, used_row, no_used_row}
use Rattle.reflector_sessions.proofs.remove_session.Goals as goal

pub returns-in_err-judge-clause-removes : goal.returns-in_err-judge-clause-removes
returns-in_err-judge-clause-removes c =
    let p = err_from_is_err_and c.from_residual.result c.from_residual.ensures.1 in
    rw (p.1, p.2) (removal_refused (table_lent c.args.table.now) c.args.local_teid _ (read_refused _ _ c.read.ensures c.in_err-judge.ensures))

pub swap_remove-requires : goal.swap_remove-requires
swap_remove-requires c =
    let s = read_sound _ _ c.read.ensures c.in_ok-judge.ensures in
    let r = used_row _ _ c.read-2.ensures s.0 c.args.local_teid c.in-Some.hole no_session c.in-Some.ensures in
    (r.within, omega (arith, s.0.enough, s.0.room))

pub returns-in-None-clause-removes : goal.returns-in-None-clause-removes
returns-in-None-clause-removes c =
    let s = read_sound _ _ c.read.ensures c.in_ok-judge.ensures in
    none_removed (table_lent c.args.table.now) c.args.local_teid s.0 (no_used_row _ _ c.read-2.ensures s.0 c.args.local_teid c.in-None.ensures)

pub returns-in-Some-clause-removes : goal.returns-in-Some-clause-removes
returns-in-Some-clause-removes c =
    let s = read_sound _ _ c.read.ensures c.in_ok-judge.ensures in
    let r = used_row _ _ c.read-2.ensures s.0 c.args.local_teid c.in-Some.hole _ c.in-Some.ensures in
    rw (c.swap_remove.ensures.table, c.swap_remove.ensures.removed) (removed (table_lent c.args.table.now) c.args.local_teid s.0 c.in-Some.hole _ _ r.is r.within r.found)
