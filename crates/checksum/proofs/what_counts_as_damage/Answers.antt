-- `checksum::what_counts_as_damage` meets its contract.
use Rattle.checksum.proofs.Claims.{damage_is, sharp}
use Rattle.checksum.proofs.what_counts_as_damage.Goals as goal

pub returns : goal.returns
returns c = (damage_is, sharp)
