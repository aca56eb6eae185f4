use Rattle.std.proofs.Common.{rules}
use Rattle.error.specs.Outcome.{first_cause}
use Rattle.reflector_answer.specs.Answer.{echo_request, echo_request_outcome}
use Rattle.reflector_answer.proofs.answer_echo_request.Goals as goal

pub returns-then-message-ne0 : goal.returns-then-message-ne0
unfolding echo_request echo_request_outcome first_cause
returns-then-message-ne0 c = search rules

pub returns-then-is_none : goal.returns-then-is_none
unfolding echo_request echo_request_outcome first_cause
returns-then-is_none c = search rules

pub returns : goal.returns
unfolding echo_request echo_request_outcome first_cause
returns c = search rules
