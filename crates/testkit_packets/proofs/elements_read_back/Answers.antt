-- `testkit_packets::elements_read_back` meets its contract.
use Rattle.testkit_packets.proofs.Claims.{elements_read_back}
use Rattle.testkit_packets.proofs.elements_read_back.Goals as goal

pub returns : goal.returns
returns c = elements_read_back
