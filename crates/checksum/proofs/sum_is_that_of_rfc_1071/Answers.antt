-- `checksum::sum_is_that_of_rfc_1071` meets its contract.
use Rattle.checksum.proofs.Claims.{folded_sum, examples}
use Rattle.checksum.proofs.sum_is_that_of_rfc_1071.Goals as goal

pub returns : goal.returns
returns c = (folded_sum, examples)
