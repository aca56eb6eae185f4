use Rattle.std.proofs.Common.{sym, ◌∙◌, arith}
use Rattle.std.proofs.lemmas.Result.{err_from_is_err_and}
use Rattle.reflector_sessions.specs.Table.{table_lent}
use Rattle.reflector_sessions.proofs.Calls.{unsound_refused, invalid_refused, same_kept, other_refused, full_refused, added}
use Rattle.reflector_sessions.proofs.Same.{session_same}
use Rattle.reflector_sessions.proofs.Search.{read_refused, read_sound, used_row, no_used_row}
use Rattle.reflector_sessions.proofs.register_session.Goals as goal

pub returns-in_err-judge-clause-registers : goal.returns-in_err-judge-clause-registers
returns-in_err-judge-clause-registers c =
    let p = err_from_is_err_and c.from_residual.result c.from_residual.ensures.1 in
    rw (p.1, p.2) (unsound_refused (table_lent c.args.table.now) c.args.session _ (read_refused _ _ c.read.ensures c.in_err-judge.ensures))

pub returns-then-is_invalid-clause-registers : goal.returns-then-is_invalid-clause-registers
returns-then-is_invalid-clause-registers c =
    let s = read_sound _ _ c.read.ensures c.in_ok-judge.ensures in
    invalid_refused (table_lent c.args.table.now) c.args.session s.0 (sym c.is_invalid.ensures ∙ c.if-is_invalid.true)

pub returns-then-eq-clause-registers : goal.returns-then-eq-clause-registers
returns-then-eq-clause-registers c =
    let s = read_sound _ _ c.read.ensures c.in_ok-judge.ensures in
    let r = used_row _ _ c.read-2.ensures s.0 c.args.session.local_teid c.in-Some.place _ c.in-Some.ensures in
    same_kept (table_lent c.args.table.now) c.args.session s.0 (sym c.is_invalid.ensures ∙ c.if-is_invalid.false) _ r.found
    (sym (session_same _ _) ∙ sym c.eq.ensures ∙ c.if-eq.true)

pub returns-in-Some-clause-registers : goal.returns-in-Some-clause-registers
returns-in-Some-clause-registers c =
    let s = read_sound _ _ c.read.ensures c.in_ok-judge.ensures in
    let r = used_row _ _ c.read-2.ensures s.0 c.args.session.local_teid c.in-Some.place _ c.in-Some.ensures in
    other_refused (table_lent c.args.table.now) c.args.session s.0 (sym c.is_invalid.ensures ∙ c.if-is_invalid.false) _ r.found
    (sym (session_same _ _) ∙ sym c.eq.ensures ∙ c.if-eq.false)

pub returns-then-table-clause-registers : goal.returns-then-table-clause-registers
returns-then-table-clause-registers c =
    let s = read_sound _ _ c.read.ensures c.in_ok-judge.ensures in
    full_refused (table_lent c.args.table.now) c.args.session s.0 (sym c.is_invalid.ensures ∙ c.if-is_invalid.false)
    (no_used_row _ _ c.read-2.ensures s.0 c.args.session.local_teid c.in_default.ensures) c.if-table.true

pub append-requires : goal.append-requires
append-requires c =
    let s = read_sound _ _ c.read.ensures c.in_ok-judge.ensures in
    omega (arith, s.0.enough, s.0.room, c.if-table.false)

pub returns-clause-registers : goal.returns-clause-registers
returns-clause-registers c =
    let s = read_sound _ _ c.read.ensures c.in_ok-judge.ensures in
    rw c.append.ensures.table
    (added (table_lent c.args.table.now) c.args.session s.0 (sym c.is_invalid.ensures ∙ c.if-is_invalid.false)
    (no_used_row _ _ c.read-2.ensures s.0 c.args.session.local_teid c.in_default.ensures) c.if-table.false)
