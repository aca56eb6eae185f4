use Rattle.observer.proofs.Arrivals.{arrival_kept, arrival_kept_for_good, first_return_arrives, resend_parts}
use Rattle.observer.proofs.arrival_is_kept.Goals as goal

pub returns : goal.returns
returns c = (arrival_kept, arrival_kept_for_good, first_return_arrives, resend_parts)
