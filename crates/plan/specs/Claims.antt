-- What is claimed of plans. proofs/Claims.antt proves each claim.
use Rattle.std.specs.Prelude.{ℕ, ◌+◌, ◌<◌, ◌≤◌, ◌≡◌, List, [], ◌∷◌}
use Rattle.error.specs.Outcome.{refused, gives}
use Rattle.measurement.specs.declared.MeasurementHeader.{MeasurementHeader}
use Rattle.plan.specs.Plan.{top, interval_of, time_at, packets_of, Judged, judge_plan}
use Rattle.plan.specs.declared.TrafficPlan.{TrafficPlan}

-- What it takes to be accepted, packet by packet: the top sequence is never sent, and no time passes the top.
pub record Acceptable (plan : TrafficPlan) (next : ℕ) : Type 0 where
  pub rate_positive : 0 < plan.target_rate_pps
  pub rate_within : plan.target_rate_pps ≤ 1000000000
  pub count_within : plan.packet_count ≤ 2048
  pub sequences : (k : ℕ) → k < plan.packet_count → next + k < top
  pub times : (k : ℕ) → k < plan.packet_count → time_at plan k ≤ top

-- The judgement of an accepted plan.
abbrev pub accepted : TrafficPlan → ℕ → Judged
accepted plan next = record { outcome = gives (packets_of plan next); next = next + plan.packet_count }

-- A plan is accepted if and only if it is acceptable: sequence 18,446,744,073,709,551,615 "is never sent".
abbrev pub AcceptedIfAcceptable : Type 0
AcceptedIfAcceptable = (plan : TrafficPlan) (next : ℕ)
    → Acceptable plan next → judge_plan plan next ≡ accepted plan next

abbrev pub AcceptableIfAccepted : Type 0
AcceptableIfAccepted = (plan : TrafficPlan) (next : ℕ) (packets : List MeasurementHeader)
    → (judge_plan plan next).outcome ≡ gives packets
    → Acceptable plan next × (judge_plan plan next ≡ accepted plan next)

-- "19 before 20 at the lowest failing k": every packet before k is right.
pub record FirstAt (plan : TrafficPlan) (next k : ℕ) : Type 0 where
  pub rate_positive : 0 < plan.target_rate_pps
  pub rate_within : plan.target_rate_pps ≤ 1000000000
  pub count_within : plan.packet_count ≤ 2048
  pub among : k < plan.packet_count
  pub sequences : (j : ℕ) → j < k → next + j < top
  pub times : (j : ℕ) → j < k → time_at plan j ≤ top

abbrev pub SequenceDecides : Type 0
SequenceDecides = (plan : TrafficPlan) (next k : ℕ) → FirstAt plan next k → top ≤ next + k
    → judge_plan plan next ≡ record { outcome = refused 19; next = next + k }

abbrev pub TimeDecides : Type 0
TimeDecides = (plan : TrafficPlan) (next k : ℕ) → FirstAt plan next k → next + k < top → top < time_at plan k
    → judge_plan plan next ≡ record { outcome = refused 20; next = next + k + 1 }

-- "Order: 16, 17, 18, then ..": the rate decides before the count, and both before any packet; each leaves the next
-- sequence.
pub record BeforePackets (plan : TrafficPlan) (next : ℕ) : Type 0 where
  pub no_rate : plan.target_rate_pps ≡ 0 → judge_plan plan next ≡ record { outcome = refused 16; next = next }
  pub too_fast : 1000000000 < plan.target_rate_pps
      → judge_plan plan next ≡ record { outcome = refused 17; next = next }
  pub too_many : 0 < plan.target_rate_pps → plan.target_rate_pps ≤ 1000000000 → 2048 < plan.packet_count
      → judge_plan plan next ≡ record { outcome = refused 18; next = next }

abbrev pub RateThenCount : Type 0
RateThenCount = (plan : TrafficPlan) (next : ℕ) → BeforePackets plan next

-- A plan is refused by 16 to 20, and by no other number.
abbrev pub PlanNumbers : Type 0
PlanNumbers = (plan : TrafficPlan) (next n : ℕ) → (judge_plan plan next).outcome ≡ refused n → (16 ≤ n) × (n ≤ 20)

-- What holds of every element.
abbrev pub Each : {A : Type 0} → (A → Type 0) → List A → Type 0
Each P [] = Unit {0}
Each P (x ∷ l) = P x × Each P l

-- The sequences rise strictly, and the times do not fall: each packet against every later one.
abbrev pub Ordered : List MeasurementHeader → Type 0
Ordered [] = Unit {0}
Ordered (p ∷ packets) =
    Each (λ q. (p.sequence < q.sequence) × (p.send_timestamp_ns ≤ q.send_timestamp_ns)) packets
    × Ordered packets

abbrev pub PacketsOrdered : Type 0
PacketsOrdered = (plan : TrafficPlan) (next : ℕ) (packets : List MeasurementHeader)
    → (judge_plan plan next).outcome ≡ gives packets
    → Ordered packets × Each (λ p. (p.sequence < top) × (p.send_timestamp_ns ≤ top)) packets

-- Document 01, case 4: "Rate 1,000,000,000 gives interval 1; 1,000,000,001 gives 17; 3 gives 333,333,333."
pub record Intervals : Type 0 where
  pub one : interval_of 1000000000 ≡ gives 1
  pub too_fast : interval_of 1000000001 ≡ refused 17
  pub third : interval_of 3 ≡ gives 333333333
  pub zero : interval_of 0 ≡ refused 16

-- A plan of this count and first time, at a rate.
abbrev pub plan_of : ℕ → ℕ → ℕ → TrafficPlan
plan_of count rate first =
    record { packet_count = count; target_rate_pps = rate; first_send_timestamp_ns = first }

-- Accepted: a plan of no packets, whatever the next sequence is; 2,048 packets at the highest rate, from sequence 0 and
-- time 0; and a plan that ends one below the top sequence and at the top time. Refused at packet 1: by 19 where both
-- would pass their tops, by 20 where only the time would.
pub record Examples : Type 0 where
  pub empty : (next first : ℕ) → judge_plan (plan_of 0 1 first) next ≡ record { outcome = gives []; next = next }
  pub longest : let plan : TrafficPlan = plan_of 2048 1000000000 0 in judge_plan plan 0 ≡ accepted plan 0
  pub highest : let plan : TrafficPlan = plan_of 2 1 18446744072709551615 in
      judge_plan plan 18446744073709551613 ≡ accepted plan 18446744073709551613
  pub tie : judge_plan (plan_of 2 1 18446744072709551616) 18446744073709551614
      ≡ record { outcome = refused 19; next = 18446744073709551615 }
  pub time_first : judge_plan (plan_of 2 1 18446744072709551616) 7 ≡ record { outcome = refused 20; next = 9 }
