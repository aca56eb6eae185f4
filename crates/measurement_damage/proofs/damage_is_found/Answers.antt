-- `measurement_damage::damage_is_found` meets its contract.
use Rattle.measurement_damage.proofs.Claims.{damage_found, sent_is_read}
use Rattle.measurement_damage.proofs.damage_is_found.Goals as goal

pub returns : goal.returns
returns c = (damage_found, sent_is_read)
