-- Entering a plan: each of its packets is recorded as sent, or none is. The Rust has no such call. The sheet is judged
-- as by every call (document 01, leaf 6), the plan as by the generator (leaf 5), and 22 is due where some packet would
-- not find a row.
use Rattle.std.specs.Prelude.{ℕ, suc, ◌-◌, List, [], ◌∷◌, true, false, ltb}
use Rattle.error.specs.Number.{observer_full}
use Rattle.error.specs.Outcome.{Outcome, refused, gives, Cause, ◌⇒◌, first_cause}
use Rattle.measurement.specs.declared.MeasurementHeader.{MeasurementHeader}
use Rattle.plan.specs.Plan.{judge_plan}
use Rattle.plan.specs.declared.TrafficPlan.{TrafficPlan}
use Rattle.observer.specs.Observer.{Row, Observer, capacity, rows}
use Rattle.observer.specs.Judge.{judged, Step, step}
use Rattle.observer.specs.Place.{was_sent}
use Rattle.observer.specs.Sending.{record_sent}
use Rattle.observer.specs.InTurn.{Steps, in_turn}

-- The single calls, one for each packet, in this order.
abbrev pub send_packet : Observer → MeasurementHeader → Step
send_packet o p = record_sent o p.sequence p.send_timestamp_ns

abbrev pub send_in_turn : Observer → List MeasurementHeader → Steps
send_in_turn o packets = in_turn send_packet o packets

-- How many of the packets need a row: those whose sequence is not on the sheet.
abbrev pub rows_needed : List Row → List MeasurementHeader → ℕ
rows_needed rs [] = 0
rows_needed rs (p ∷ packets) =
    elim (was_sent p.sequence rs) [ true ↦ rows_needed rs packets | false ↦ suc (rows_needed rs packets) ]

-- The rows that are not in use. (The sheet was judged, so no more rows are in use than it has.)
abbrev pub free_rows : Observer → ℕ
free_rows o = capacity o - o.counts.used

-- "new sequence, used count equals capacity": one of the packets would meet this cause.
unfoldable pub entering_causes : Observer → List MeasurementHeader → List Cause
entering_causes o packets = (ltb (free_rows o) (rows_needed (rows o) packets) ⇒ observer_full) ∷ []

unfoldable pub entering : Observer → List MeasurementHeader → Outcome Observer
entering o packets = first_cause (entering_causes o packets) (gives (send_in_turn o packets).observer)

-- A plan is entered, its first packet with this sequence. It is judged 21, 16 to 20, 22. The next sequence is the
-- generator's, and is not changed here.
unfoldable pub record_sent_plan : Observer → TrafficPlan → ℕ → Step
record_sent_plan o plan next =
    step o
    (judged o (elim (judge_plan plan next).outcome [ refused n ↦ refused n | gives packets ↦ entering o packets ]))
