-- `measurement_reading::fragments_are_refused` meets its contract.
use Rattle.measurement_reading.proofs.Fragments.{fragments_not_read, refused_as_fragment}
use Rattle.measurement_reading.proofs.fragments_are_refused.Goals as goal

pub returns : goal.returns
returns c = (fragments_not_read, refused_as_fragment)
