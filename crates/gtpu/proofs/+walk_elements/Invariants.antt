use Rattle.std.proofs.Common.{length}
use Rattle.gtpu.proofs.+walk_elements.Given as goal

-- Each call has a shorter rest.
abbrev pub decreases-walk_elements : goal.decreases-walk_elements
decreases-walk_elements l = length l.seen.now.rest.now
