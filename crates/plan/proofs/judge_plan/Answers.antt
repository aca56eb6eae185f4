use mathlib.Core.Path.{refl}
use Rattle.plan.proofs.Judged.{judges_as, plan_refused, plan_too_many, plan_judged, plan_timed}
use Rattle.plan.proofs.judge_plan.Goals as goal

pub returns-in-Ok : goal.returns-in-Ok
returns-in-Ok c =
    judges_as _ (record { outcome = refl; next = refl }) (plan_too_many _ _ _ c.in-Ok.ensures c.if-plan-gt-MAXIMUM_PACKETS.true)

pub judge_packets-requires : goal.judge_packets-requires
judge_packets-requires c = plan_timed _ c.args.next_sequence _ c.in-Ok.ensures c.if-plan-gt-MAXIMUM_PACKETS.false

pub returns-in-Ok-2 : goal.returns-in-Ok-2
returns-in-Ok-2 c =
    judges_as _ c.judge_packets.ensures (plan_judged _ _ _ c.in-Ok.ensures c.if-plan-gt-MAXIMUM_PACKETS.false)

pub returns-in-Err : goal.returns-in-Err
returns-in-Err c = judges_as _ (record { outcome = refl; next = refl }) (plan_refused _ _ _ c.in-Err.ensures)
