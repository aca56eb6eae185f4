use Rattle.std.proofs.lemmas.Result.{err_from_is_err_and}
use Rattle.reflector_answer.proofs.Answers.{refused_as, short_as, passed_as}
use Rattle.reflector_answer.proofs.handle_found.Goals as goal

pub returns-in_err-judge_table : goal.returns-in_err-judge_table
returns-in_err-judge_table c =
    let a = c.args in
    let p = err_from_is_err_and c.from_residual.result c.from_residual.ensures.1 in
    rw (p.1, p.2)
    (refused_as a.length a.used a.config a.state.now a.session a.source a.message a.payload.now a.out.now _ c.in_err-judge_table.ensures)

pub returns-then-out-lt-REFLECTOR_BYTES : goal.returns-then-out-lt-REFLECTOR_BYTES
returns-then-out-lt-REFLECTOR_BYTES c =
    let a = c.args in
    short_as a.length a.used a.config a.state.now a.session a.source a.message a.payload.now a.out.now c.in_ok-judge_table.ensures
    c.if-out-lt-REFLECTOR_BYTES.true

pub returns : goal.returns
returns c =
    let a = c.args in
    passed_as a.length a.used a.config a.state.now a.session a.source a.message a.payload.now a.out.now c.answer_message.result
    c.answer_message.new.state c.answer_message.new.out c.in_ok-judge_table.ensures c.if-out-lt-REFLECTOR_BYTES.false c.answer_message.ensures
