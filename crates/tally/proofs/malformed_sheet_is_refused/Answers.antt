-- `tally::malformed_sheet_is_refused` meets its contract.
use Rattle.tally.proofs.Malformed.{malformed_first}
use Rattle.tally.proofs.malformed_sheet_is_refused.Goals as goal

pub returns : goal.returns
returns c = malformed_first
