use Rattle.reflector_sessions.proofs.Claims.{added_is_found, unchanged_is_found, removed_is_not_found}
use Rattle.reflector_sessions.proofs.registered_until_removed.Goals as goal

pub returns : goal.returns
returns c = (added_is_found, unchanged_is_found, removed_is_not_found)
