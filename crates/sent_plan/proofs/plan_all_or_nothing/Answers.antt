-- `sent_plan::plan_all_or_nothing` carries its claims.
use Rattle.sent_plan.proofs.PlanClaims.{all_or_nothing, plan_before_room}
use Rattle.sent_plan.proofs.plan_all_or_nothing.Goals as goal

pub returns : goal.returns
returns c = (all_or_nothing, plan_before_room)
