-- `measurement_damage::fragments_are_not_echoed` meets its contract.
use Rattle.measurement_damage.proofs.Fragments.{fragments_not_echoed}
use Rattle.measurement_damage.proofs.fragments_are_not_echoed.Goals as goal

pub returns : goal.returns
returns c = fragments_not_echoed
