-- `measurement_damage::padding_is_not_echoed` meets its contract.
use Rattle.measurement_damage.proofs.Padding.{padding_not_echoed}
use Rattle.measurement_damage.proofs.padding_is_not_echoed.Goals as goal

pub returns : goal.returns
returns c = padding_not_echoed
