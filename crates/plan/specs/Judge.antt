-- What the code's answer to a judgement means, and the contracts of private functions.
use Rattle.std.specs.Prelude.{ℕ, ◌+◌, ◌*◌, ◌<◌, ◌≤◌, ◌≡◌, List}
use Rattle.error.specs.Answer.{answered}
use Rattle.error.specs.Outcome.{Outcome, refused, gives}
use Rattle.measurement.specs.declared.MeasurementHeader.{MeasurementHeader}
use Rattle.plan.specs.Plan.{top, interval, time_at, Judged}
use Rattle.plan.specs.declared.JudgedPlan.{JudgedPlan}
use Rattle.plan.specs.declared.TrafficPlan.{TrafficPlan}

-- What the code answers to a judgement: for an accepted plan, its interval.
abbrev pub interval_judged : TrafficPlan → Outcome (List MeasurementHeader) → Outcome ℕ
interval_judged plan (refused n) = refused n
interval_judged plan (gives packets) = gives (interval plan.target_rate_pps)

-- The code's answer means a judgement of the plan, and has its next sequence.
pub record Judges (plan : TrafficPlan) (r : JudgedPlan) (to : Judged) : Type 0 where
  pub outcome : answered r.interval ≡ interval_judged plan to.outcome
  pub next : r.next_sequence ≡ to.next

-- What the judgement of an accepted plan says of its packets: this is their interval, and no sequence and no time
-- passes its top.
pub record Planned (plan : TrafficPlan) (i next : ℕ) : Type 0 where
  pub is : i ≡ interval plan.target_rate_pps
  pub count : plan.packet_count ≤ 2048
  pub sequences : next + plan.packet_count ≤ top
  pub times : (k : ℕ) → k < plan.packet_count → time_at plan k ≤ top

-- The first r of `count` packets have a time that fits, and packet r does not.
pub record InTime (first i count r : ℕ) : Type 0 where
  pub within : r ≤ count
  pub before : (k : ℕ) → k < r → first + k * i ≤ top
  pub at : r < count → top < first + r * i

-- The interval of a plan whose rate and count are judged.
pub record Timed (plan : TrafficPlan) (i : ℕ) : Type 0 where
  pub is : i ≡ interval plan.target_rate_pps
  pub positive : 0 < i
  pub count : plan.packet_count ≤ 2048
