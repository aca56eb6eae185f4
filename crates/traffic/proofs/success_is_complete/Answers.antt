use Rattle.traffic.proofs.Claims.{success_is_complete}
use Rattle.traffic.proofs.success_is_complete.Goals as goal

pub returns : goal.returns
returns c = success_is_complete
