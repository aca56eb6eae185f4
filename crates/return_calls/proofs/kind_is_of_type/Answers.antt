-- `return_calls::kind_is_of_type` carries its claim.
use Rattle.return_calls.proofs.Claims.{kind_is_of_type}
use Rattle.return_calls.proofs.kind_is_of_type.Goals as goal

pub returns : goal.returns
returns c = kind_is_of_type
