-- The Rust's traffic.rs: plans and the generator, lines 18 to 115; the observer, lines 140 to 232; its report, lines
-- 235 to 332.
use Rattle.std.specs.Prelude.{ℕ, zero, suc, ◌+◌, ◌-◌, ◌*◌, ◌/◌, ◌%◌, min, max, true, false, ◌&&◌, ◌||◌, ltb, leb, List, [], ◌∷◌, ◌++◌, length, ◌==◌, nat_eq, nat_le, nat_lt}
use Rattle.evidence.specs.declared.LatencySummary.{LatencySummary}
use Rattle.evidence.specs.declared.PacketContinuityBudget.{PacketContinuityBudget}
use Rattle.return_calls.specs.Kinds.{Kind, MeasurementTpdu, ErrorIndication, EchoResponse, Ignored}
use Rattle.plan.specs.declared.TrafficPlan.{TrafficPlan}
use Rattle.rust_reference.specs.Error as error
use Rattle.rust_reference.specs.Error.{DataplaneTestkitError, Result, Ok, Err, InvalidPacket, Overflow}
use Rattle.rust_reference.specs.Error.{TimestampReversed, return_if, ◌>>◌}
use Rattle.rust_reference.specs.Values.{u64_max, saturating_add, saturating_add_u128}
use Rattle.rust_reference.specs.Evidence.{PacketContinuityReport}
use Rattle.rust_reference.specs.Map.{Option, None, Some, is_some_and, map_or, Entry, get, contains_key}
use Rattle.rust_reference.specs.Map.{insert, keys, values, contains}
use Rattle.rust_reference.specs.Measurement.{InnerIpFlow, build_measurement_tpdu, decode_measurement_tpdu}
use Rattle.rust_reference.specs.Gtpu.{GTPU_MSG_ECHO_RESPONSE, GTPU_MSG_ERROR_INDICATION}
use Rattle.rust_reference.specs.Gtpu.{GTPU_MSG_SUPPORTED_EXTENSION_HEADERS_NOTIFICATION, GTPU_MSG_END_MARKER}
use Rattle.rust_reference.specs.Gtpu.{GTPU_MSG_GPDU, validate_error_indication_ies}

-- ---- the generator

-- lines 18 to 25, `TrafficPlan`: our struct has the same three fields. Lines 29 to 42:
unfoldable pub interval_ns : TrafficPlan → Result ℕ
interval_ns plan = do
  return_if (plan.target_rate_pps == 0) (InvalidPacket error.target_rate_must_be_non_zero)
  let interval : ℕ = 1000000000 / plan.target_rate_pps
  return_if (interval == 0) (InvalidPacket error.target_rate_exceeds_nanosecond_timestamp_resolution)
  Ok interval

-- lines 47 to 54
pub record GeneratedPacket : Type 0 where
  pub sequence : ℕ
  pub send_timestamp_ns : ℕ
  pub tpdu : List ℕ

-- lines 58 to 60, and the two ways to make one: lines 65 to 67, and 71 to 75
pub record TrafficEngine : Type 0 where
  pub next_sequence : ℕ

abbrev pub TrafficEngine_new : TrafficEngine
TrafficEngine_new = record { next_sequence = 0 }

abbrev pub with_first_sequence : ℕ → TrafficEngine
with_first_sequence first_sequence = record { next_sequence = first_sequence }

-- What `generate` answers, and `next_sequence` of the engine as it leaves it.
pub record Generated : Type 0 where
  pub result : Result (List GeneratedPacket)
  pub next_sequence : ℕ

-- `let x = attempt?;` in a function that has an engine: an error returns, and the engine stays as it is then.
abbrev pub attempted : {A : Type 0} → Result A → ℕ → (A → Generated) → Generated
attempted (Ok x) next_sequence rest = rest x
attempted (Err e) next_sequence rest = record { result = Err e; next_sequence = next_sequence }

-- `u64::checked_add` and `u64::checked_mul`, with `ok_or`: a number that fits, or the error
unfoldable pub checked : ℕ → DataplaneTestkitError → Result ℕ
checked number e = elim (leb number u64_max) [ true ↦ Ok number | false ↦ Err e ]

-- lines 89 to 112: `for offset in 0..plan.packet_count`, the turns that are left from this offset on, with the engine's
-- next sequence and the packets that were pushed
unfoldable pub for_offset : ℕ → ℕ → InnerIpFlow → TrafficPlan → ℕ → ℕ → List GeneratedPacket → Generated
for_offset zero offset flow plan interval next_sequence packets = record {
  result = Ok packets;
  next_sequence = next_sequence;
}
for_offset (suc turns) offset flow plan interval next_sequence packets =
    let sequence : ℕ = next_sequence in
    attempted (checked (next_sequence + 1) (Overflow error.sequence)) next_sequence λ next_sequence.
    attempted (checked (offset * interval) (Overflow error.send_timestamp_ns)) next_sequence λ offset_ns.
    attempted (checked (plan.first_send_timestamp_ns + offset_ns) (Overflow error.send_timestamp_ns))
    next_sequence λ send_timestamp_ns.
    attempted (build_measurement_tpdu flow sequence send_timestamp_ns) next_sequence λ tpdu.
    for_offset turns (suc offset) flow plan interval next_sequence
    (packets ++ record { sequence = sequence; send_timestamp_ns = send_timestamp_ns; tpdu = tpdu } ∷ [])

-- lines 78 to 114. `usize::try_from(plan.packet_count)` only reserves room, and does not fail where a `usize` has 64
-- bits.
unfoldable pub generate : ℕ → InnerIpFlow → TrafficPlan → Generated
generate next_sequence flow plan =
    attempted (interval_ns plan) next_sequence λ interval.
    for_offset plan.packet_count 0 flow plan interval next_sequence []

-- ---- the observer

-- lines 140 to 147. A `ReceivedPacket` (lines 118 to 120) is its latency.
pub record ContinuityObserver : Type 0 where
  pub sent : List Entry
  pub received : List Entry
  pub duplicate_packets : ℕ
  pub out_of_order_packets : ℕ
  pub gtpu_error_indications : ℕ
  pub highest_received_sequence : Option ℕ

-- lines 152 to 161
abbrev pub new : ContinuityObserver
new = record {
  sent = [];
  received = [];
  duplicate_packets = 0;
  out_of_order_packets = 0;
  gtpu_error_indications = 0;
  highest_received_sequence = None;
}

-- What a call answers, and the observer as it leaves it.
pub record Recorded (A : Type 0) : Type 0 where
  pub result : Result A
  pub observer : ContinuityObserver

-- `let x = attempt?;`, as above, with an observer
abbrev pub tried : {A B : Type 0} → Result A → ContinuityObserver → (A → Recorded B) → Recorded B
tried (Ok x) o rest = rest x
tried (Err e) o rest = record { result = Err e; observer = o }

abbrev pub ok_or : {A : Type 0} → Option A → DataplaneTestkitError → Result A
ok_or None e = Err e
ok_or (Some x) e = Ok x

-- `u64::checked_sub`
unfoldable pub checked_sub : ℕ → ℕ → Option ℕ
checked_sub a b = elim (nat_lt a b) [ true ↦ None | false ↦ Some (a - b) ]

-- lines 164 to 166, of a packet's sequence and time
unfoldable pub record_sent : ContinuityObserver → ℕ → ℕ → ContinuityObserver
record_sent o sequence send_timestamp_ns = record {
  sent = insert sequence send_timestamp_ns o.sent;
  received = o.received;
  duplicate_packets = o.duplicate_packets;
  out_of_order_packets = o.out_of_order_packets;
  gtpu_error_indications = o.gtpu_error_indications;
  highest_received_sequence = o.highest_received_sequence;
}

-- line 186
unfoldable pub duplicate : ContinuityObserver → ContinuityObserver
duplicate o = record {
  sent = o.sent;
  received = o.received;
  duplicate_packets = saturating_add o.duplicate_packets 1;
  out_of_order_packets = o.out_of_order_packets;
  gtpu_error_indications = o.gtpu_error_indications;
  highest_received_sequence = o.highest_received_sequence;
}

-- lines 190 to 201
unfoldable pub first_return : ContinuityObserver → ℕ → ℕ → ContinuityObserver
first_return o sequence latency_ns = record {
  sent = o.sent;
  received = insert sequence latency_ns o.received;
  duplicate_packets = o.duplicate_packets;
  out_of_order_packets = elim (is_some_and o.highest_received_sequence (λ highest. ltb sequence highest)) [
    | true ↦ saturating_add o.out_of_order_packets 1
    | false ↦ o.out_of_order_packets
  ];
  gtpu_error_indications = o.gtpu_error_indications;
  highest_received_sequence =
      Some (map_or o.highest_received_sequence sequence (λ highest. max highest sequence));
}

-- lines 169 to 203
unfoldable pub record_received_tpdu : ContinuityObserver → ℕ → List ℕ → Recorded (Unit {0})
record_received_tpdu o return_timestamp_ns tpdu =
    tried (decode_measurement_tpdu tpdu) o λ decoded.
    tried
    (ok_or (get decoded.measurement.sequence o.sent) (InvalidPacket error.received_sequence_was_not_sent))
    o λ send_timestamp_ns.
    tried (ok_or (checked_sub return_timestamp_ns send_timestamp_ns) TimestampReversed) o λ latency_ns.
    elim (contains_key decoded.measurement.sequence o.received) [
      | true ↦ record { result = Ok tt; observer = duplicate o }
      | false ↦ record { result = Ok tt; observer = first_return o decoded.measurement.sequence latency_ns }
    ]

-- line 219
unfoldable pub error_indication : ContinuityObserver → ContinuityObserver
error_indication o = record {
  sent = o.sent;
  received = o.received;
  duplicate_packets = o.duplicate_packets;
  out_of_order_packets = o.out_of_order_packets;
  gtpu_error_indications = saturating_add o.gtpu_error_indications 1;
  highest_received_sequence = o.highest_received_sequence;
}

-- lines 212 to 231, behind `decode_gtpu`: the match on the type of the message
unfoldable pub record_return_gtpu_datagram : ContinuityObserver → ℕ → ℕ → List ℕ → Recorded Kind
record_return_gtpu_datagram o return_timestamp_ns message_type payload =
    elim (nat_eq message_type GTPU_MSG_GPDU) [
      | true ↦
          let recorded : Recorded (Unit {0}) = record_received_tpdu o return_timestamp_ns payload in
          tried recorded.result recorded.observer λ u.
          record { result = Ok MeasurementTpdu; observer = recorded.observer }
      | false ↦ elim (nat_eq message_type GTPU_MSG_ERROR_INDICATION) [
        | true ↦
            tried (validate_error_indication_ies payload) o λ u.
            record { result = Ok ErrorIndication; observer = error_indication o }
        | false ↦ elim (nat_eq message_type GTPU_MSG_ECHO_RESPONSE) [
          | true ↦ record { result = Ok EchoResponse; observer = o }
          | false ↦ elim (nat_eq message_type GTPU_MSG_END_MARKER
              || nat_eq message_type GTPU_MSG_SUPPORTED_EXTENSION_HEADERS_NOTIFICATION) [
                | true ↦ record { result = Ok (Ignored message_type); observer = o }
                | false ↦ record {
                  result = Err (InvalidPacket error.unsupported_GTP_U_return_message_type);
                  observer = o;
                }
              ]
        ]
      ]
    ]

-- ---- the report

-- lines 284 to 295: `for latency in values`, with what the loop carries
unfoldable pub for_latency : List ℕ → ℕ → ℕ → ℕ → ℕ → LatencySummary
for_latency [] min_ns max_ns sum count = record {
  min_ns = min_ns;
  max_ns = max_ns;
  avg_ns = sum / count % 18446744073709551616;
}
for_latency (latency ∷ latencies) min_ns max_ns sum count =
    for_latency latencies (min min_ns latency) (max max_ns latency)
    (saturating_add_u128 sum latency) (saturating_add_u128 count 1)

-- lines 272 to 296, of `self.received.values()`
unfoldable pub latency_summary : List ℕ → Option LatencySummary
latency_summary [] = None
latency_summary (latency ∷ latencies) = Some (for_latency (latency ∷ latencies) u64_max 0 0 0)

-- the pair that `gap_summary` answers
pub record GapSummary : Type 0 where
  pub max_count : ℕ
  pub max_duration : ℕ

-- lines 308 to 331: `for (sequence, send_ts) in &self.sent`, with what the loop carries, and what follows it
unfoldable pub for_sent : List Entry → List ℕ → ℕ → ℕ → ℕ → ℕ → ℕ → GapSummary
for_sent [] received window_end_ns current_count current_start_ts max_count max_duration =
    elim (nat_lt 0 current_count) [
      | true ↦ record {
        max_count = max max_count current_count;
        max_duration = max max_duration (window_end_ns - current_start_ts);
      }
      | false ↦ record { max_count = max_count; max_duration = max_duration }
    ]
for_sent (e ∷ sent) received window_end_ns current_count current_start_ts max_count max_duration =
    elim (contains e.key received) [
      | true ↦
          elim (nat_lt 0 current_count) [
            | true ↦
                for_sent sent received window_end_ns 0 current_start_ts
                (max max_count current_count) (max max_duration (e.value - current_start_ts))
            | false ↦ for_sent sent received window_end_ns current_count current_start_ts max_count max_duration
          ]
      | false ↦
          for_sent sent received window_end_ns (saturating_add current_count 1)
          (elim (current_count == 0) [ true ↦ e.value | false ↦ current_start_ts ]) max_count max_duration
    ]

-- lines 298 to 332, of `self.sent` and `self.received`
unfoldable pub gap_summary : List Entry → List Entry → ℕ → GapSummary
gap_summary [] received window_end_ns = record { max_count = 0; max_duration = 0 }
gap_summary (e ∷ sent) received window_end_ns = for_sent (e ∷ sent) (keys received) window_end_ns 0 0 0 0

-- lines 235 to 270
unfoldable pub report : ContinuityObserver → ℕ → ℕ → PacketContinuityBudget → PacketContinuityReport
report o window_start_ns window_end_ns budget =
    let sent_packets : ℕ = length o.sent in
    let received_packets : ℕ = length o.received in
    let lost_packets : ℕ = sent_packets - received_packets in
    let gap : GapSummary = gap_summary o.sent o.received window_end_ns in
    record {
      window_start_ns = window_start_ns;
      window_end_ns = window_end_ns;
      sent_packets = sent_packets;
      received_packets = received_packets;
      lost_packets = lost_packets;
      duplicate_packets = o.duplicate_packets;
      out_of_order_packets = o.out_of_order_packets;
      gtpu_error_indications = o.gtpu_error_indications;
      max_consecutive_lost_packets = gap.max_count;
      max_gap_duration_ns = gap.max_duration;
      latency = latency_summary (values o.received);
      budget = budget;
      forwarding_proven = nat_lt 0 received_packets;
      packet_continuity_proven =
          nat_le lost_packets budget.max_lost_packets
          && (nat_le gap.max_count budget.max_consecutive_lost_packets
          && (nat_le gap.max_duration budget.outage_budget_ns
          && o.gtpu_error_indications == 0));
    }
