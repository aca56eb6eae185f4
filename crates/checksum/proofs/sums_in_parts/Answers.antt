-- `checksum::sums_in_parts` meets its contract.
use Rattle.checksum.proofs.Claims.{sum_in_parts}
use Rattle.checksum.proofs.sums_in_parts.Goals as goal

pub returns : goal.returns
returns c = sum_in_parts
