-- `tally::every_packet_reads_back` meets its contract.
use Rattle.tally.proofs.Generated.{packets_read_back}
use Rattle.tally.proofs.every_packet_reads_back.Goals as goal

pub returns : goal.returns
returns c = packets_read_back
