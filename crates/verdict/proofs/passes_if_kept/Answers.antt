-- `verdict::passes_if_kept` meets its contract.
use Rattle.verdict.proofs.Claims.{passes_if_kept, reasons_are_true}
use Rattle.verdict.proofs.passes_if_kept.Goals as goal

pub returns : goal.returns
returns c = (passes_if_kept, reasons_are_true)
