-- `checksum::placed_checksum_verifies` meets its contract.
use Rattle.checksum.proofs.Claims.{placed_verifies}
use Rattle.checksum.proofs.placed_checksum_verifies.Goals as goal

pub returns : goal.returns
returns c = placed_verifies
