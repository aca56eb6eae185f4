-- `testkit_sheet::own_budget_gives_own_verdict` meets its contract.
use Rattle.testkit_sheet.proofs.Verdict.{own_budget}
use Rattle.testkit_sheet.proofs.own_budget_gives_own_verdict.Goals as goal

pub returns : goal.returns
returns c = own_budget
