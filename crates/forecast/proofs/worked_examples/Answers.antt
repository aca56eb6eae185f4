use Rattle.forecast.proofs.Claims.{examples}
use Rattle.forecast.proofs.worked_examples.Goals as goal

pub returns : goal.returns
returns c = examples
