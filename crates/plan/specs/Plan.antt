-- A traffic plan, and how it is judged: document 01, leaf 5, and the card's causes 16 to 20.
use Rattle.std.specs.Prelude.{ℕ, zero, suc, ◌+◌, ◌*◌, ◌/◌, List, [], ◌∷◌, ◌++◌, Bool, true, false, eqb, ltb}
use Rattle.error.specs.Number.{target_rate_is_zero, target_rate_exceeds_resolution, too_many_packets}
use Rattle.error.specs.Number.{sequence_overflow, send_timestamp_overflow}
use Rattle.error.specs.Outcome.{Outcome, refused, gives, Cause, ◌⇒◌, first_cause}
use Rattle.measurement.specs.declared.MeasurementHeader.{MeasurementHeader}
use Rattle.plan.specs.declared.TrafficPlan.{TrafficPlan}

-- The top of a sequence and of a time, which have 64 bits.
abbrev pub top : ℕ
top = 18446744073709551615

-- "Interval is 1,000,000,000 divided by the rate, rounded down." Nothing is divided by 0: 16 is judged before any
-- interval is used.
abbrev pub interval : ℕ → ℕ
interval rate = 1000000000 / rate

-- "rate 0; rate above 1,000,000,000"
unfoldable pub rate_causes : ℕ → List Cause
rate_causes rate =
    (eqb rate 0 ⇒ target_rate_is_zero)
    ∷ (ltb 1000000000 rate ⇒ target_rate_exceeds_resolution)
    ∷ []

unfoldable pub interval_of : ℕ → Outcome ℕ
interval_of rate = first_cause (rate_causes rate) (gives (interval rate))

-- "Packet k (from 0) has the next sequence and time first + k × interval".
abbrev pub time_at : TrafficPlan → ℕ → ℕ
time_at plan k = plan.first_send_timestamp_ns + k * interval plan.target_rate_pps

abbrev pub packet_at : TrafficPlan → ℕ → ℕ → MeasurementHeader
packet_at plan next k = record { sequence = next + k; send_timestamp_ns = time_at plan k }

-- The next n packets, starting with packet k.
unfoldable pub packets_from : TrafficPlan → ℕ → ℕ → ℕ → List MeasurementHeader
packets_from plan next zero k = []
packets_from plan next (suc n) k = packet_at plan next k ∷ packets_from plan next n (suc k)

-- All packets of a plan.
unfoldable pub packets_of : TrafficPlan → ℕ → List MeasurementHeader
packets_of plan next = packets_from plan next plan.packet_count 0

-- A cause of refusal that also says what the next sequence is afterwards: the last column of the card.
pub data PlanCause : Type 0 where
  ◌⇒◌leaves◌ : Bool → ℕ → ℕ → PlanCause

infix 20 ◌⇒◌leaves◌
-- Causes that leave the next sequence as it was.
unfoldable pub leaving : ℕ → List Cause → List PlanCause
leaving next [] = []
leaving next ((test ⇒ number) ∷ rows) = (test ⇒ number leaves next) ∷ leaving next rows

-- "sequence would pass its top at packet k": 19, "all but next sequence, now first + k"; "time would pass its top at
-- packet k": 20, "all but next sequence, now first + k + 1" (the card's "first" is the next sequence before the call).
-- The sequence after packet k's is what would pass, so the top itself is never sent.
unfoldable pub causes_at : TrafficPlan → ℕ → ℕ → List PlanCause
causes_at plan next k =
    (ltb top (next + k + 1) ⇒ sequence_overflow leaves (next + k))
    ∷ (ltb top (time_at plan k) ⇒ send_timestamp_overflow leaves (next + k + 1))
    ∷ []

-- "19 before 20 at the lowest failing k": the packets that are left, from packet k on.
unfoldable pub causes_from : TrafficPlan → ℕ → ℕ → ℕ → List PlanCause
causes_from plan next zero k = []
causes_from plan next (suc n) k = causes_at plan next k ++ causes_from plan next n (suc k)

-- How a plan is judged: refused, or its packets; and the next sequence afterwards, if the packets are then built.
pub record Judged : Type 0 where
  pub outcome : Outcome (List MeasurementHeader)
  pub next : ℕ

-- The first cause that holds, as `first_cause` of the crate error.
unfoldable pub first_plan_cause : List PlanCause → Judged → Judged
first_plan_cause [] onward = onward
first_plan_cause ((test ⇒ number leaves next) ∷ rows) onward =
    elim test [ true ↦ record { outcome = refused number; next = next } | false ↦ first_plan_cause rows onward ]

-- 19 and 20. Where none holds, the packets are given and the next sequence is the one behind the last.
unfoldable pub judge_packets : TrafficPlan → ℕ → Judged
judge_packets plan next =
    first_plan_cause (causes_from plan next plan.packet_count 0)
    (record { outcome = gives (packets_of plan next); next = next + plan.packet_count })

-- "count above 2,048 (added)", behind 16 and 17
unfoldable pub plan_causes : TrafficPlan → List Cause
plan_causes plan = rate_causes plan.target_rate_pps ++ (ltb 2048 plan.packet_count ⇒ too_many_packets) ∷ []

-- "Order: 16, 17, 18, then 19 before 20 at the lowest failing k"
unfoldable pub judge_plan : TrafficPlan → ℕ → Judged
judge_plan plan next = first_plan_cause (leaving next (plan_causes plan)) (judge_packets plan next)
