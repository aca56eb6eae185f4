-- What is claimed of fragments where T-PDUs are built and echoed: document 02, job 1. proofs/Fragments.antt proves each
-- claim.
use Rattle.std.specs.Prelude.{ℕ, ◌+◌, ◌%◌, ◌<◌, ◌≡◌, List, ◌++◌, take, drop}
use Rattle.error.specs.Outcome.{refused, gives}
use Rattle.field.specs.Field.{Bytes, big_endian}
use Rattle.checksum.specs.Sum.{checksum_of}
use Rattle.measurement.specs.Flow.{InRange}
use Rattle.measurement.specs.declared.InnerIpFlow.{InnerIpFlow}
use Rattle.measurement.specs.declared.IpVersion.TheVariants.{V4}
use Rattle.measurement_packet.specs.Packet.{build_of}
use Rattle.measurement_reading.specs.Fragments.{IsIpv4, Fragment}
use Rattle.measurement_reading.specs.Read.{read_of}
use Rattle.measurement_damage.specs.Claims.{tpdu_built}
use Rattle.measurement_damage.specs.Echo.{echo_of}

-- An IPv4 header of 20 bytes with this word at a place before its checksum, and with the checksum made right: "For
-- purposes of computing the checksum, the value of the checksum field is zero."
abbrev pub header_with : ℕ → ℕ → List ℕ → List ℕ
header_with at word header =
    let front : List ℕ = take at header ++ big_endian 2 word ++ drop (at + 2) (take 10 header) in
    let addresses : List ℕ = drop 12 header in
    front ++ big_endian 2 (checksum_of (front ++ big_endian 2 0 ++ addresses)) ++ addresses

-- A packet without options, with this word for its flags and fragment offset.
abbrev pub packet_with : ℕ → List ℕ → List ℕ
packet_with word packet = header_with 6 word (take 20 packet) ++ drop 20 packet

-- A built IPv4 packet with other flags or another fragment offset, whatever stands behind it in the buffer. RFC 791,
-- section 3.1, from the most significant of the 16 bits on: the reserved bit, Don't Fragment, More Fragments, and the
-- fragment offset.
pub record FlagsDecide (flow : InnerIpFlow) (sequence time : ℕ) (behind : List ℕ) : Type 0 where
  pub reserved_bit : read_of (packet_with 0x8000 (build_of flow sequence time) ++ behind)
      ≡ gives (tpdu_built flow sequence time)
  pub dont_fragment : read_of (packet_with 0x4000 (build_of flow sequence time) ++ behind)
      ≡ gives (tpdu_built flow sequence time)
  pub more_fragments : read_of (packet_with 0x2000 (build_of flow sequence time) ++ behind) ≡ refused 38
  pub offset_1 : read_of (packet_with 0x0001 (build_of flow sequence time) ++ behind) ≡ refused 38
  -- So of every word the reserved bit and Don't Fragment do not count; it is 38 where another bit is set.
  pub no_other_bit : (word : ℕ) → word < 0x10000 → word % 0x4000 ≡ 0
      → read_of (packet_with word (build_of flow sequence time) ++ behind) ≡ gives (tpdu_built flow sequence time)
  pub another_bit : (word : ℕ) → word < 0x10000 → (word % 0x4000 ≡ 0 → ⊥)
      → read_of (packet_with word (build_of flow sequence time) ++ behind) ≡ refused 38

abbrev pub BuiltWithFlags : Type 0
BuiltWithFlags = (flow : InnerIpFlow) (sequence time : ℕ) → InRange flow sequence time → flow.version ≡ V4
    → (behind : List ℕ) → FlagsDecide flow sequence time behind

-- No fragment is echoed, whatever else it is.
abbrev pub FragmentsNotEchoed : Type 0
FragmentsNotEchoed = (tpdu : List ℕ) → Bytes tpdu → IsIpv4 tpdu → Fragment tpdu
    → (echo : List ℕ) → echo_of tpdu ≡ gives echo → ⊥
