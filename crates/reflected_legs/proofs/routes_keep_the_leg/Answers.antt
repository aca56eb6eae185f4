-- `reflected_legs::routes_keep_the_leg` meets its contract.
use Rattle.reflected_legs.proofs.Claims.{routes_included}
use Rattle.reflected_legs.proofs.routes_keep_the_leg.Goals as goal

pub returns : goal.returns
returns c = routes_included
