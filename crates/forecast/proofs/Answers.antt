-- The code's answers mean the forecast.
use Prim.Native.Nat.{ℕ, ◌+◌, ◌-◌, ◌*◌, ◌^◌, ◌<◌, ◌≤◌}
use native.Mathlib.Omega.{arith}
use mathlib.Core.Path.{◌≡◌, ap₂, ◌∙◌}
use mathlib.Core.Option.{some}
use Rattle.error.specs.Answer.{number_of}
use Rattle.error.specs.Outcome.{gives}
use Rattle.measurement.specs.declared.IpVersion.{IpVersion}
use Rattle.measurement_packet.specs.Packet.{ip_header_length}
use Rattle.plan.specs.Plan.{top, judge_plan}
use Rattle.plan.specs.Judge.{Judges, Planned}
use Rattle.std.specs.Prelude as code
use Rattle.error.specs.declared.Refusal.{Refusal}
use Rattle.plan.specs.declared.JudgedPlan.{JudgedPlan}
use Rattle.plan.specs.declared.TrafficPlan.{TrafficPlan}
use Rattle.plan.proofs.Answers.{answer_refused, answer_accepted, answer_planned, planned_time, planned_fits}
use Rattle.traffic.proofs.Answers.{all_within}
use Rattle.forecast.specs.Answer.{forecast_means}
use Rattle.forecast.specs.Forecast.{forecast_of}
use Rattle.forecast.proofs.Figures.{some_last, forecast_refused, forecast_accepted, forecast_empty}

module _ (version : IpVersion) (plan : TrafficPlan) (next : ℕ) (r : JudgedPlan) (e : Judges plan r (judge_plan plan next)) where
  pub answer_refuses : (why : Refusal) → r.interval ≡ code.Err why → forecast_means (code.Err why) ≡ forecast_of version plan next
  answer_refuses why a = forecast_refused plan next version (number_of why) (answer_refused plan next r e why a)

  module _ (i : ℕ) (a : r.interval ≡ code.Ok i) where
    pub answer_empty : plan.packet_count ≡ 0 → forecast_means (code.Ok code.None) ≡ forecast_of version plan next
    answer_empty z = forecast_empty plan next version z (answer_accepted plan next r e i a).2

    planned : next ≤ top → Planned plan i next
    planned low = answer_planned plan next r e i a low

    pub bytes_fit : (s : ℕ) → s ≡ ip_header_length version + 32 → plan.packet_count * s < 2 ^ 64
    bytes_fit s es = omega (arith, all_within version 2048 plan.packet_count s (answer_accepted plan next r e i a).1.count_within es)

    pub sequence_fits : next ≤ top → next + plan.packet_count ≤ top
    sequence_fits low = (planned low).sequences

    pub time_fits : next ≤ top → (k : ℕ) → k < plan.packet_count → plan.first_send_timestamp_ns + k * i ≤ top
    time_fits low k h = planned_fits (planned low) k h

    pub answer_packets : (s : ℕ) → s ≡ ip_header_length version + 32 → next ≤ top → 0 < plan.packet_count
        → forecast_means (code.Ok (code.Some (record {
          bytes = plan.packet_count * s;
          last = record {
            sequence = next + (plan.packet_count - 1);
            send_timestamp_ns = plan.first_send_timestamp_ns + (plan.packet_count - 1) * i;
          };
        }))) ≡ forecast_of version plan next
    answer_packets s es low h =
        ap₂ (λ (x t : ℕ). gives (record { bytes = plan.packet_count * x; last = some (record { sequence = next + (plan.packet_count - 1); send_timestamp_ns = t }) }))
        es (planned_time (planned low) (plan.packet_count - 1))
        ∙ forecast_accepted plan next version _ (some_last plan next h) (answer_accepted plan next r e i a).2
