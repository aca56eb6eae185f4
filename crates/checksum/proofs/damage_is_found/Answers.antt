-- `checksum::damage_is_found` meets its contract.
use Rattle.checksum.proofs.Claims.{damage_found, clipped}
use Rattle.checksum.proofs.damage_is_found.Goals as goal

pub returns : goal.returns
returns c = (damage_found, clipped)
