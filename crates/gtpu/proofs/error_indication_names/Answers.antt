-- `gtpu::error_indication_names` meets its contract.
use Rattle.gtpu.proofs.Tunnels.{error_indication_names}
use Rattle.gtpu.proofs.error_indication_names.Goals as goal

pub returns : goal.returns
returns c = error_indication_names
