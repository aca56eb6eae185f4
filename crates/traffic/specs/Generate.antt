-- What the generator leaves: its outcome, the next sequence and the lent buffer (document 01, leaf 5, and the card).
use Rattle.std.specs.Prelude.{ℕ, List, [], ◌∷◌, ◌++◌, Result}
use Rattle.error.specs.Answer.{answered}
use Rattle.error.specs.Outcome.{Outcome, refused, gives}
use Rattle.error.specs.declared.Refusal.{Refusal}
use Rattle.measurement.specs.Answer.{Writing, writing}
use Rattle.measurement.specs.declared.InnerIpFlow.{InnerIpFlow}
use Rattle.measurement.specs.declared.MeasurementHeader.{MeasurementHeader}
use Rattle.measurement_packet.specs.Packet.{build_of}
use Rattle.plan.specs.Plan.{judge_plan}
use Rattle.plan.specs.declared.TrafficPlan.{TrafficPlan}

-- "packets lie end to end"
unfoldable pub end_to_end : InnerIpFlow → List MeasurementHeader → List ℕ
end_to_end flow [] = []
end_to_end flow (p ∷ packets) = build_of flow p.sequence p.send_timestamp_ns ++ end_to_end flow packets

-- The next sequence of a new engine.
abbrev pub first_sequence : ℕ
first_sequence = 0

-- The number of bytes written, or a refusal; the next sequence; the buffer.
pub record Generating : Type 0 where
  pub outcome : Outcome ℕ
  pub next : ℕ
  pub buffer : List ℕ

-- Packets written into a buffer, with the next sequence before and after: 15 leaves "all", the next sequence too.
unfoldable pub placing : List ℕ → ℕ → ℕ → List ℕ → Generating
placing bytes next after buffer =
    let w : Writing = writing bytes buffer in
    record {
      outcome = w.outcome;
      next = elim w.outcome [ refused n ↦ next | gives count ↦ after ];
      buffer = w.buffer;
    }

-- The plan is judged first, "then 15"; a refusal leaves every byte.
unfoldable pub generate_of : InnerIpFlow → TrafficPlan → ℕ → List ℕ → Generating
generate_of flow plan next buffer =
    elim (judge_plan plan next).outcome [
      | refused n ↦ record { outcome = refused n; next = (judge_plan plan next).next; buffer = buffer }
      | gives packets ↦ placing (end_to_end flow packets) next (judge_plan plan next).next buffer
    ]

-- What the code answered, and the next sequence and the buffer as it left them.
abbrev pub generated : Result ℕ Refusal → ℕ → List ℕ → Generating
generated written next buffer = record { outcome = answered written; next = next; buffer = buffer }
