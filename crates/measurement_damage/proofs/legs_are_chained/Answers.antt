-- `measurement_damage::legs_are_chained` meets its contract.
use Rattle.measurement_damage.proofs.Claims.{legs_chained}
use Rattle.measurement_damage.proofs.legs_are_chained.Goals as goal

pub returns : goal.returns
returns c = legs_chained
