use Rattle.testkit_reflector.proofs.Claims.{sequence_reads_back, address_reads_back}
use Rattle.testkit_reflector.proofs.numbers_read_back.Goals as goal

pub returns : goal.returns
returns c = (sequence_reads_back, address_reads_back)
