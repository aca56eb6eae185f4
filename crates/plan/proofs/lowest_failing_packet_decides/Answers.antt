use Rattle.plan.proofs.Claims.{rate_then_count, sequence_decides, time_decides, plan_numbers}
use Rattle.plan.proofs.lowest_failing_packet_decides.Goals as goal

pub returns : goal.returns
returns c = (rate_then_count, sequence_decides, time_decides, plan_numbers)
