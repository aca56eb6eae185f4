use Rattle.std.proofs.Common.{rules}
use Rattle.reflector_answer.specs.Answer.{other_message}
use Rattle.reflector_answer.proofs.answer_other.Goals as goal

pub returns-in_default : goal.returns-in_default
unfolding other_message
returns-in_default c = search rules

pub returns-in-2 : goal.returns-in-2
unfolding other_message
returns-in-2 c = search rules

pub returns-in-26 : goal.returns-in-26
unfolding other_message
returns-in-26 c = search rules

pub returns-in-254 : goal.returns-in-254
unfolding other_message
returns-in-254 c = search rules

pub returns-in-31 : goal.returns-in-31
unfolding other_message
returns-in-31 c = search rules
