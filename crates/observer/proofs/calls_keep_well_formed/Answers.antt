use Rattle.observer.proofs.Claims.{put_back, fresh_is_well, calls_keep_well}
use Rattle.observer.proofs.calls_keep_well_formed.Goals as goal

pub returns : goal.returns
returns c = (put_back, fresh_is_well, calls_keep_well)
