-- `measurement_packet::checksums_verify` meets its contract.
use Rattle.measurement_packet.proofs.Claims.{checksums_verify}
use Rattle.measurement_packet.proofs.checksums_verify.Goals as goal

pub returns : goal.returns
returns c = checksums_verify
