use Rattle.plan.proofs.Claims.{accepted_if_acceptable, acceptable_if_accepted, packets_ordered}
use Rattle.plan.proofs.accepted_exactly_if_acceptable.Goals as goal

pub returns : goal.returns
returns c = (accepted_if_acceptable, acceptable_if_accepted, packets_ordered)
