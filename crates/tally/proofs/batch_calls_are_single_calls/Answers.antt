-- `tally::batch_calls_are_single_calls` meets its contract.
use Rattle.tally.proofs.Batches.{batches}
use Rattle.tally.proofs.batch_calls_are_single_calls.Goals as goal

pub returns : goal.returns
returns c = batches
