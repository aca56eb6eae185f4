-- `measurement_damage::echo_is_reversed` meets its contract.
use Rattle.measurement_damage.proofs.Claims.{echo_is_reversed, echo_of_echo}
use Rattle.measurement_damage.proofs.echo_is_reversed.Goals as goal

pub returns : goal.returns
returns c = (echo_is_reversed, echo_of_echo)
