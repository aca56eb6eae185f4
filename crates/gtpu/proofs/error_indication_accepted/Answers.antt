-- `gtpu::error_indication_accepted` meets its contract.
use Rattle.gtpu.proofs.Claims.{error_indication_accepted}
use Rattle.gtpu.proofs.error_indication_accepted.Goals as goal

pub returns : goal.returns
returns c = error_indication_accepted
