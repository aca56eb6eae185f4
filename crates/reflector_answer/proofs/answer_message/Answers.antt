use Rattle.std.proofs.Common.{rules, arith}
use Rattle.reflector_answer.specs.Answer.{answer}
use Rattle.reflector_answer.proofs.Answers.{echo_fits, other_answered}
use Rattle.reflector_answer.proofs.answer_message.Goals as goal

pub answer_known-requires : goal.answer_known-requires
answer_known-requires c = echo_fits c.args.payload.now c.args.out.now c.requires

pub returns-in-Some : goal.returns-in-Some
unfolding answer
returns-in-Some c = search rules

pub returns-in-None : goal.returns-in-None
unfolding answer
returns-in-None c = search rules

pub returns-in-1 : goal.returns-in-1
unfolding answer
returns-in-1 c = search rules

pub returns-in_default : goal.returns-in_default
returns-in_default c =
    let a = c.args in
    other_answered a.config a.state.now a.session a.source a.message a.payload.now a.out.now _ _ (λ e. omega arith) (λ e. omega arith) c.answer_other.ensures
