-- `gtpu::elements_read_by_one_rule` meets its contract.
use Rattle.gtpu.proofs.Claims.{same_rule, end_rule, empty_list, worked_examples}
use Rattle.gtpu.proofs.elements_read_by_one_rule.Goals as goal

pub returns : goal.returns
returns c = (same_rule, end_rule, empty_list, worked_examples)
