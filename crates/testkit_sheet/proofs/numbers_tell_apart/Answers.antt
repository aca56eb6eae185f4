-- `testkit_sheet::numbers_tell_apart` meets its contract.
use Rattle.testkit_sheet.proofs.Told.{verdicts_told, datagrams_told}
use Rattle.testkit_sheet.proofs.numbers_tell_apart.Goals as goal

pub returns : goal.returns
returns c = (verdicts_told, datagrams_told)
