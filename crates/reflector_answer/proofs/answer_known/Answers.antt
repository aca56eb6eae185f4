use Rattle.std.proofs.lemmas.Result.{err_from_is_err_and}
use Rattle.reflector_answer.proofs.Answers.{echo_refused, echoed, sunk, routed}
use Rattle.reflector_answer.proofs.answer_known.Goals as goal

pub returns-in_err-bytes-in-Echo : goal.returns-in_err-bytes-in-Echo
returns-in_err-bytes-in-Echo c =
    let a = c.args in
    let p = err_from_is_err_and c.from_residual.result c.from_residual.ensures.1 in
    rw (c.raise.ensures, p.1, p.2)
    (echo_refused a.config a.state.now a.session a.payload.now a.out.now c.in-Echo.is c.requires c.echo_tpdu.new.out _ c.in_err-bytes-in-Echo.ensures)

pub returns-in_ok-bytes-in-Echo : goal.returns-in_ok-bytes-in-Echo
returns-in_ok-bytes-in-Echo c =
    let a = c.args in
    rw (c.forward.ensures.0, c.forward.ensures.1, c.raise.ensures, c.from.ensures)
    (echoed a.config a.state.now a.session a.payload.now a.out.now c.in-Echo.is c.requires c.echo_tpdu.new.out c.in_ok-bytes-in-Echo.bytes c.in_ok-bytes-in-Echo.ensures)

pub returns-in-SinkAndCount : goal.returns-in-SinkAndCount
returns-in-SinkAndCount c =
    let a = c.args in
    rw (c.raise.ensures, c.raise-in-SinkAndCount.ensures) (sunk a.config a.state.now a.session a.payload.now a.out.now c.in-SinkAndCount.is)

pub returns-in-Route : goal.returns-in-Route
returns-in-Route c =
    let a = c.args in
    rw (c.forward-in-Route.ensures.0, c.forward-in-Route.ensures.1, c.raise.ensures)
    (routed a.config a.state.now a.session a.payload.now a.out.now c.in-Route.target c.in-Route.is)
