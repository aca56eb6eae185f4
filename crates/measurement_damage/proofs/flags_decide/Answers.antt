-- `measurement_damage::flags_decide` meets its contract.
use Rattle.measurement_damage.proofs.Fragments.{built_with_flags}
use Rattle.measurement_damage.proofs.flags_decide.Goals as goal

pub returns : goal.returns
returns c = built_with_flags
