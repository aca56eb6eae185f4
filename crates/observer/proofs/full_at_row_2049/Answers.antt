use Rattle.observer.proofs.Claims.{full_only_when_full, full_at_row_2049, sent_again_time}
use Rattle.observer.proofs.full_at_row_2049.Goals as goal

pub returns : goal.returns
returns c = (full_only_when_full, full_at_row_2049, sent_again_time)
