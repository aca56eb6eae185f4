-- `measurement_reading::cut_is_not_ihl` meets its contract.
use Rattle.measurement_reading.proofs.Claims.{cut_is_not_4, cut_examples}
use Rattle.measurement_reading.proofs.cut_is_not_ihl.Goals as goal

pub returns : goal.returns
returns c = (cut_is_not_4, cut_examples)
