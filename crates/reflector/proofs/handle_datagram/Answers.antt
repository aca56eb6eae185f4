use Rattle.std.proofs.Common.{Option, ap, subst, length, ◌∙◌}
use Rattle.reflector_sessions.specs.declared.ReflectorSession.{ReflectorSession}
use Rattle.reflector_answer.specs.Answer.{Answer}
use Rattle.reflector_answer.specs.Handle.{HandledAs, handle_found}
use Rattle.reflector.specs.Handle.{session_found}
use Rattle.reflector.proofs.Handling.{session_is, handled_is}
use Rattle.reflector.proofs.handle_datagram.Goals as goal

pub returns : goal.returns
returns c =
    let a = c.args in
    subst (λ (to : Answer). HandledAs c.handle_found.result c.handle_found.new.state c.handle_found.new.out to a.out.now)
    (ap (λ (session : Option ReflectorSession). handle_found (length a.rows.now) a.used a.config a.state.now session a.source a.message a.payload.now a.out.now) (c.session_of-session.ensures ∙ ap session_found c.find_session.ensures ∙ session_is a.message.teid _)
    ∙ handled_is a.config a.state.now a.source a.message a.payload.now a.out.now a.rows.now a.used)
    c.handle_found.ensures
