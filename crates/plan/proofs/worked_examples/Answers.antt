use Rattle.plan.proofs.Claims.{intervals, examples}
use Rattle.plan.proofs.worked_examples.Goals as goal

pub returns : goal.returns
returns c = (intervals, examples)
