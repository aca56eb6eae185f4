-- `measurement_damage::padded_packet_reads_back` meets its contract.
use Rattle.measurement_damage.proofs.Padding.{built_with_padding}
use Rattle.measurement_damage.proofs.padded_packet_reads_back.Goals as goal

pub returns : goal.returns
returns c = built_with_padding
