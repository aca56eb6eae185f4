use Rattle.observer.proofs.Claims.{rest_kept}
use Rattle.observer.proofs.rest_is_kept.Goals as goal

pub returns : goal.returns
returns c = rest_kept
