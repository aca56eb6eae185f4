-- The packets before packet k stand at the front, and what lies behind them is as it was.
use Prim.Native.Nat.{◌*◌}
use mathlib.Core.Path.{◌≡◌}
use mathlib.Core.List.{◌++◌}
use lib.ListN.{drop}
use Rattle.plan.specs.Plan.{packets_from}
use Rattle.traffic.specs.Generate.{end_to_end}
use Rattle.traffic.proofs.write_packets.Given as goal

abbrev pub invariant-loop-k : goal.invariant-loop-k
invariant-loop-k l =
    (l.at ≡ l.k * l.size)
    × (l.out ≡ end_to_end l.flow (packets_from l.plan l.next_sequence l.k 0) ++ drop l.at l.initial.out)
