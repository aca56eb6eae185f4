use Rattle.observer.proofs.Claims.{search_finds, below_highest_marked}
use Rattle.observer.proofs.search_finds.Goals as goal

pub returns : goal.returns
returns c = (search_finds, below_highest_marked)
