-- What is claimed of a list of T-PDUs that came back. proofs/Claims.antt proves it.
use Rattle.std.specs.Prelude.{ℕ, ◌≡◌, length}
use mathlib.Core.List.{List, ◌++◌, flatten, map}
use Rattle.received_tpdus.specs.Received.{tpdus_of}

-- T-PDUs that lie end to end, taken apart by their lengths, are those T-PDUs, whatever lies behind them. So the single
-- calls are made with what came back: a list cut elsewhere would be read as other T-PDUs.
abbrev pub EndToEnd : Type 0
EndToEnd = (tpdus : List (List ℕ)) (behind : List ℕ)
    → tpdus_of (map (λ (tpdu : List ℕ). length tpdu) tpdus) (flatten tpdus ++ behind) ≡ tpdus
