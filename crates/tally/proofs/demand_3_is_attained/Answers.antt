-- `tally::demand_3_is_attained` meets its contract.
use Rattle.tally.proofs.Attained.{attained}
use Rattle.tally.proofs.demand_3_is_attained.Goals as goal

pub returns : goal.returns
returns c = attained
