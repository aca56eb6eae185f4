-- `measurement_damage::built_packet_reads_back` meets its contract.
use Rattle.measurement_damage.proofs.Claims.{reads_back}
use Rattle.measurement_damage.proofs.built_packet_reads_back.Goals as goal

pub returns : goal.returns
returns c = reads_back
