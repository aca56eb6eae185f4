-- The Rust's values as ours ("What must change shape", document 01): flows and T-PDUs; `Vec`s in a lent buffer; the
-- report.
use Rattle.std.specs.Prelude.{ℕ, List, [], ◌∷◌, ◌++◌, map, length, drop}
use Rattle.std.specs.Prelude as code
use Rattle.error.specs.Outcome.{refused, gives}
use Rattle.measurement.specs.Answer.{Writing}
use Rattle.measurement.specs.Flow.{address, padded}
use Rattle.measurement.specs.declared.DecodedTpdu.{DecodedTpdu}
use Rattle.measurement.specs.declared.InnerIpFlow.{InnerIpFlow}
use Rattle.measurement.specs.declared.MeasurementHeader.{MeasurementHeader}
use Rattle.measurement.specs.declared.IpVersion.{IpVersion}
use Rattle.measurement.specs.declared.IpVersion.TheVariants.{V4, V6}
use Rattle.evidence.specs.declared.LatencySummary.{LatencySummary}
use Rattle.evidence.specs.declared.PacketContinuityReport.{PacketContinuityReport}
use Rattle.rust_reference.specs.Compared.{told}
use Rattle.rust_reference.specs.Error.{Result, Ok, Err}
use Rattle.rust_reference.specs.Number.{error_number}
use Rattle.rust_reference.specs.Evidence as evidence
use Rattle.rust_reference.specs.Map.{Option, None, Some}
use Rattle.rust_reference.specs.Measurement as rust
use Rattle.rust_reference.specs.Traffic.{GeneratedPacket}
use Rattle.traffic.specs.Generate.{Generating}

-- Our flow, handed to the Rust: "of an IPv4 address only the first 4 bytes count".
abbrev pub rust_flow_of : IpVersion → List ℕ → List ℕ → ℕ → ℕ → rust.InnerIpFlow
rust_flow_of V4 src dst src_port dst_port = rust.Ipv4 (address V4 src) (address V4 dst) src_port dst_port
rust_flow_of V6 src dst src_port dst_port = rust.Ipv6 (address V6 src) (address V6 dst) src_port dst_port

abbrev pub rust_flow : InnerIpFlow → rust.InnerIpFlow
rust_flow flow = rust_flow_of flow.version flow.src flow.dst flow.src_port flow.dst_port

-- A flow that the Rust answers: "what makes one leaves the rest 0".
abbrev pub flow_of : rust.InnerIpFlow → InnerIpFlow
flow_of (rust.Ipv4 src dst src_port dst_port) = record {
  version = V4;
  src = padded src;
  dst = padded dst;
  src_port = src_port;
  dst_port = dst_port;
}
flow_of (rust.Ipv6 src dst src_port dst_port) = record {
  version = V6;
  src = padded src;
  dst = padded dst;
  src_port = src_port;
  dst_port = dst_port;
}

abbrev pub tpdu_of : rust.DecodedTpdu → DecodedTpdu
tpdu_of decoded = record { flow = flow_of decoded.flow; measurement = decoded.measurement }

-- The Rust's `Vec` at the front of the lent buffer; the bytes past it are kept, and an error keeps them all.
abbrev pub in_buffer : Result (List ℕ) → List ℕ → Writing
in_buffer (Ok vec) buffer = record { outcome = gives (length vec); buffer = vec ++ drop (length vec) buffer }
in_buffer (Err error) buffer = record { outcome = refused (error_number error); buffer = buffer }

-- What our writer leaves, in the numbers that are compared.
abbrev pub told_writing : Writing → Writing
told_writing w = record { outcome = told w.outcome; buffer = w.buffer }

-- The Rust's packets, end to end.
abbrev pub vecs : List GeneratedPacket → List ℕ
vecs [] = []
vecs (p ∷ packets) = p.tpdu ++ vecs packets

-- The sequences and times of the Rust's packets.
abbrev pub headers_of : List GeneratedPacket → List MeasurementHeader
headers_of packets = map (λ p. record { sequence = p.sequence; send_timestamp_ns = p.send_timestamp_ns }) packets

-- `in_buffer` for the Rust's packets, with the next sequence of its engine, also after an error.
abbrev pub packets_in_buffer : Result (List GeneratedPacket) → ℕ → List ℕ → Generating
packets_in_buffer (Ok packets) next buffer = record {
  outcome = gives (length (vecs packets));
  next = next;
  buffer = vecs packets ++ drop (length (vecs packets)) buffer;
}
packets_in_buffer (Err error) next buffer =
    record { outcome = refused (error_number error); next = next; buffer = buffer }

-- What our generator leaves, in the numbers that are compared.
abbrev pub told_generating : Generating → Generating
told_generating g = record { outcome = told g.outcome; next = g.next; buffer = g.buffer }

-- The Rust's report as ours.
abbrev pub latency_of : Option LatencySummary → code.Option LatencySummary
latency_of None = code.None
latency_of (Some summary) = code.Some summary

abbrev pub report_of : evidence.PacketContinuityReport → PacketContinuityReport
report_of rust = record {
  window_start_ns = rust.window_start_ns;
  window_end_ns = rust.window_end_ns;
  sent_packets = rust.sent_packets;
  received_packets = rust.received_packets;
  lost_packets = rust.lost_packets;
  duplicate_packets = rust.duplicate_packets;
  out_of_order_packets = rust.out_of_order_packets;
  gtpu_error_indications = rust.gtpu_error_indications;
  max_consecutive_lost_packets = rust.max_consecutive_lost_packets;
  max_gap_duration_ns = rust.max_gap_duration_ns;
  latency = latency_of rust.latency;
  budget = rust.budget;
  forwarding_proven = rust.forwarding_proven;
  packet_continuity_proven = rust.packet_continuity_proven;
}
