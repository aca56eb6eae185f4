use Rattle.reflector_sessions.proofs.Claims.{other_rows_kept}
use Rattle.reflector_sessions.proofs.other_rows_kept.Goals as goal

pub returns : goal.returns
returns c = other_rows_kept
