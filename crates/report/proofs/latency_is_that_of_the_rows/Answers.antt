-- `report::latency_is_that_of_the_rows` meets its contract.
use Rattle.report.proofs.Claims.{latency_of_the_rows}
use Rattle.report.proofs.latency_is_that_of_the_rows.Goals as goal

pub returns : goal.returns
returns c = latency_of_the_rows
