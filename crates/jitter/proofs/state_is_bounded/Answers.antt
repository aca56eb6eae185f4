-- `jitter::state_is_bounded` carries what proofs/Claims.antt proves.
use Rattle.jitter.proofs.Claims.{step_fits_all, bounded, reached, first_of_zero}
use Rattle.jitter.proofs.state_is_bounded.Goals as goal

pub returns : goal.returns
returns c = (step_fits_all, bounded, reached, first_of_zero)
