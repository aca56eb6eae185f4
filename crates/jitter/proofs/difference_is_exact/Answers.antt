-- `jitter::difference_is_exact` carries what proofs/Claims.antt proves.
use Rattle.jitter.proofs.Claims.{difference_exact, is_rfc_3550}
use Rattle.jitter.proofs.difference_is_exact.Goals as goal

pub returns : goal.returns
returns c = (difference_exact, is_rfc_3550)
