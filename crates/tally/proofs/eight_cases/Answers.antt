-- `tally::eight_cases` meets its contract.
use Rattle.tally.proofs.Cases.{eight_cases}
use Rattle.tally.proofs.eight_cases.Goals as goal

pub returns : goal.returns
returns c = eight_cases
