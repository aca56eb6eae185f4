-- `gtpu::answer_is_the_same` meets its contract.
use Rattle.gtpu.proofs.Tunnels.{same_answer, indication_numbers}
use Rattle.gtpu.proofs.answer_is_the_same.Goals as goal

pub returns : goal.returns
returns c = (same_answer, indication_numbers)
