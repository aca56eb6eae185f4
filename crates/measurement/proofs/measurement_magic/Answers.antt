-- `measurement::measurement_magic` meets its contract.
use mathlib.Core.Path.{refl}
use Rattle.measurement.specs.Probe.{measurement_magic}
use Rattle.measurement.proofs.measurement_magic.Goals as goal

pub returns : goal.returns
unfolding measurement_magic
returns c = refl
