-- `testkit_sheet::passes_by_figures` meets its contract.
use Rattle.testkit_sheet.proofs.Told.{passes_by_figures}
use Rattle.testkit_sheet.proofs.passes_by_figures.Goals as goal

pub returns : goal.returns
returns c = passes_by_figures
