-- `measurement::versions_read_back` meets its contract.
use Rattle.measurement.proofs.Versions.{versions_numbered}
use Rattle.measurement.proofs.versions_read_back.Goals as goal

pub returns : goal.returns
returns c = versions_numbered
