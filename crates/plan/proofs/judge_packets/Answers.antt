-- The closed form of the two causes that stand at each packet.
use native.Mathlib.Omega.{arith}
use Rattle.plan.proofs.Judged.{closed_19, closed_20, closed_accepted}
use Rattle.plan.proofs.judge_packets.Goals as goal
use Rattle.plan.proofs.judge_packets.Goals.{else-in_sequence-count-via-then-in_sequence-count+else-in_sequence-in_time, else-in_sequence-count-via-else-in_sequence-count}

pub returns-then-in_sequence-in_time : goal.returns-then-in_sequence-in_time
returns-then-in_sequence-in_time c =
    closed_19 _ _ _ _ c.requires c.packets_in_time-in_time.ensures (omega arith) c.if-in_sequence-count.true c.if-in_sequence-in_time.true

pub returns-then-in_time-count : goal.returns-then-in_time-count
returns-then-in_time-count c =
    closed_20 _ _ _ _ c.requires c.packets_in_time-in_time.ensures c.if-in_time-count.true
    (elim c.else-in_sequence-count.branch [ else-in_sequence-count-via-then-in_sequence-count+else-in_sequence-in_time w ↦ omega arith | else-in_sequence-count-via-else-in_sequence-count w ↦ omega arith ])

pub returns : goal.returns
returns c =
    closed_accepted _ _ _ _ c.requires c.packets_in_time-in_time.ensures c.if-in_time-count.false
    (elim c.else-in_sequence-count.branch [ else-in_sequence-count-via-then-in_sequence-count+else-in_sequence-in_time w ↦ omega arith | else-in_sequence-count-via-else-in_sequence-count w ↦ omega arith ]) (omega arith)
