-- `tally::demand_3` meets its contract.
use Rattle.tally.proofs.Demand.{demand3}
use Rattle.tally.proofs.demand_3.Goals as goal

pub returns : goal.returns
returns c = demand3
