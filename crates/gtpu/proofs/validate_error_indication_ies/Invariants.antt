-- The loop's invariant: with what was seen so far, the rest is judged as the payload is. The measure is the length of
-- the rest, from which each walk takes at least one byte.
use Rattle.std.proofs.Common.{◌≡◌, length}
use Rattle.std.specs.Prelude.{None}
use Rattle.gtpu.specs.Firsts.{firsts_seen, firsts_from}
use Rattle.gtpu.proofs.Firsts.{firsts}
use Rattle.gtpu.proofs.validate_error_indication_ies.Given as goal

abbrev pub invariant-loop-seen : goal.invariant-loop-seen
invariant-loop-seen l = firsts_from (firsts_seen l.seen) l.seen.rest.now ≡ firsts_from (firsts None None) l.payload

abbrev pub decreases-loop-seen : goal.decreases-loop-seen
decreases-loop-seen l = length l.seen.rest.now
