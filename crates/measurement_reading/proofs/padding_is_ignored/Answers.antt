-- `measurement_reading::padding_is_ignored` meets its contract.
use Rattle.measurement_reading.proofs.Padding.{all_padding_ignored, padding_examples}
use Rattle.measurement_reading.proofs.padding_is_ignored.Goals as goal

pub returns : goal.returns
returns c = (all_padding_ignored, padding_examples)
