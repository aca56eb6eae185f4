-- `return_calls::tunnel_is_handed_on` meets its contract.
use Rattle.return_calls.proofs.Claims.{tunnel_of_indication, no_other_tunnel}
use Rattle.return_calls.proofs.tunnel_is_handed_on.Goals as goal

pub returns : goal.returns
returns c = (tunnel_of_indication, no_other_tunnel)
