-- `measurement_reading::udp_is_judged_by_rfcs` meets its contract.
use Rattle.measurement_reading.proofs.Padding.{judged_by_rfcs}
use Rattle.measurement_reading.proofs.udp_is_judged_by_rfcs.Goals as goal

pub returns : goal.returns
returns c = judged_by_rfcs
