-- The words fill less than the room.
use Rattle.std.proofs.Common.{◌≤◌, length}
use Rattle.rehearsal.proofs.words.put_all.Given as goal

abbrev pub invariant-loop-i : goal.invariant-loop-i
invariant-loop-i g l = l.at ≤ length l.room
