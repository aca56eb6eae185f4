-- `received_tpdus::taken_apart_as_they_were` meets its contract.
use Rattle.received_tpdus.proofs.Claims.{end_to_end_lem}
use Rattle.received_tpdus.proofs.taken_apart_as_they_were.Goals as goal

pub returns : goal.returns
returns c = end_to_end_lem
