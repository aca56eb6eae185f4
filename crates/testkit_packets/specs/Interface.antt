-- How the C interface represents packets: a version as a number, an outcome as a number and values beside it.
use Rattle.std.specs.Prelude.{ℕ, ◌+◌, ◌*◌, ◌≡◌, List, true, false}
use Rattle.std.proofs.Math.Option.{some, none}
use Rattle.error.specs.Outcome.{Outcome, refused, gives}
use Rattle.gtpu.specs.declared.RefusedTunnel.{RefusedTunnel}
use Rattle.measurement.specs.Flow.{version_numbered, version_number}
use Rattle.measurement.specs.declared.InnerIpFlow.{InnerIpFlow}
use Rattle.measurement_decode.specs.declared.TpduNumbers.{TpduNumbers}
use Rattle.traffic.specs.Generate.{Generating}
use Rattle.forecast.specs.Forecast.{Figures}
use Rattle.testkit_packets.specs.declared.TestkitElements.{TestkitElements}
use Rattle.testkit_packets.specs.declared.TestkitPlanForecast.{TestkitPlanForecast}
use Rattle.testkit_packets.specs.declared.TestkitTpdu.{TestkitTpdu}
use Rattle.testkit_packets.specs.declared.TestkitWritten.{TestkitWritten}

-- A version of the interface as one number, a byte for each of the last two parts.
abbrev pub version_of : ℕ → ℕ → ℕ → ℕ
version_of major minor patch = major * 65536 + minor * 256 + patch

abbrev pub flow_of : ℕ → List ℕ → List ℕ → ℕ → ℕ → InnerIpFlow
flow_of version src dst source_port destination_port = record {
  version = version_numbered version;
  src = src;
  dst = dst;
  src_port = source_port;
  dst_port = destination_port;
}

-- 0 and the count of bytes, or a refusal's number and 0 bytes.
abbrev pub written_numbers : Outcome ℕ → TestkitWritten
written_numbers (refused n) = record { number = n; bytes = 0 }
written_numbers (gives bytes) = record { number = 0; bytes = bytes }

-- A forecast where there is no last packet.
abbrev pub without_last : ℕ → ℕ → TestkitPlanForecast
without_last number bytes =
    record { number = number; has_last = false; bytes = bytes; last_sequence = 0; last_send_timestamp_ns = 0 }

-- 0 and the figures of a plan; or a refusal's number and zeros.
abbrev pub forecast_numbers : Outcome Figures → TestkitPlanForecast
forecast_numbers (refused n) = without_last n 0
forecast_numbers (gives figures) = elim figures.last [
  | none ↦ without_last 0 figures.bytes
  | some last ↦ record {
    number = 0;
    has_last = true;
    bytes = figures.bytes;
    last_sequence = last.sequence;
    last_send_timestamp_ns = last.send_timestamp_ns;
  }
]

-- What reading answers, as C has it: 0 and the values, or a refusal's number and zeros beside version 4.
abbrev pub testkit_tpdu : Outcome TpduNumbers → TestkitTpdu
testkit_tpdu (refused n) =
    record { number = n; version = 4; src_port = 0; dst_port = 0; sequence = 0; send_timestamp_ns = 0 }
testkit_tpdu (gives values) = record {
  number = 0;
  version = version_number values.version;
  src_port = values.src_port;
  dst_port = values.dst_port;
  sequence = values.sequence;
  send_timestamp_ns = values.send_timestamp_ns;
}

-- 0, the version of the peer's address and the TEID; or a refusal's number, version 4 and TEID 0.
abbrev pub elements_numbers : Outcome RefusedTunnel → TestkitElements
elements_numbers (refused n) = record { number = n; version = 4; teid = 0 }
elements_numbers (gives t) = record { number = 0; version = version_number t.version; teid = t.teid }

-- The address that they name; where they are refused, what was lent: "Left as it was: all".
abbrev pub address_left : Outcome RefusedTunnel → List ℕ → List ℕ
address_left (refused n) lent = lent
address_left (gives t) lent = t.peer_address

-- The answer, the next sequence in the caller's place and the buffer, as the generator leaves them.
pub record GeneratedStep (r : TestkitWritten) (next : ℕ) (buffer : List ℕ) (g : Generating) : Type 0 where
  pub answer : r ≡ written_numbers g.outcome
  pub next_sequence : next ≡ g.next
  pub output : buffer ≡ g.buffer
