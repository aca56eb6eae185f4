use Rattle.observer.proofs.Claims.{malformed_is}
use Rattle.observer.proofs.what_is_malformed.Goals as goal

pub returns : goal.returns
returns c = malformed_is
