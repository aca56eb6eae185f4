use Rattle.std.proofs.Common.{subst}
use Rattle.reflector.specs.Handle.{handle_datagram}
use Rattle.reflector_answer.specs.Answer.{Answer}
use Rattle.testkit_reflector.specs.Interface.{AnswersNumbers}
use Rattle.testkit_reflector.proofs.Calls.{numbered}
use Rattle.testkit_reflector.proofs.testkit_handle_datagram.Goals as goal

pub returns : goal.returns
returns c =
    let a = c.args in
    subst (λ (to : Answer). AnswersNumbers c.new.result c.handle_datagram-handled.new.out to a.out.now)
    (λ i. handle_datagram a.sessions.now a.used (c.into.ensures i) a.state (c.into-2.ensures i) (c.into-3.ensures i) a.payload.now a.out.now)
    (numbered c.new.result c.handle_datagram-handled.result c.handle_datagram-handled.new.state c.handle_datagram-handled.new.out _ a.out.now
    c.new.ensures c.handle_datagram-handled.ensures)
