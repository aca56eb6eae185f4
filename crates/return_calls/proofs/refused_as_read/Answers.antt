-- `return_calls::refused_as_read` meets its contract.
use Rattle.return_calls.proofs.Claims.{refused_as_read}
use Rattle.return_calls.proofs.refused_as_read.Goals as goal

pub returns : goal.returns
returns c = refused_as_read
