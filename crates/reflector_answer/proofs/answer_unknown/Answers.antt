use Rattle.std.proofs.Common.{rules}
use Rattle.reflector_answer.specs.Answer.{gpdu_unknown}
use Rattle.reflector_answer.proofs.answer_unknown.Goals as goal

pub returns : goal.returns
unfolding gpdu_unknown
returns c = search rules
