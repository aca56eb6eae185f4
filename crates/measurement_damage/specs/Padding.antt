-- What is claimed of padding where T-PDUs are built and echoed: document 02, job 6. proofs/Padding.antt proves each
-- claim.
use Rattle.std.specs.Prelude.{ℕ, ◌+◌, ◌-◌, ◌≤◌, ◌≡◌, List, ◌++◌, length, take, drop}
use Rattle.error.specs.Outcome.{gives}
use Rattle.field.specs.Field.{big_endian}
use Rattle.measurement.specs.Flow.{reversed_of, InRange}
use Rattle.measurement.specs.declared.InnerIpFlow.{InnerIpFlow}
use Rattle.measurement.specs.declared.IpVersion.{IpVersion}
use Rattle.measurement.specs.declared.IpVersion.TheVariants.{V4, V6}
use Rattle.measurement_packet.specs.Packet.{build_of}
use Rattle.measurement_reading.specs.Padding.{Carries}
use Rattle.measurement_reading.specs.Read.{read_of}
use Rattle.measurement_damage.specs.Claims.{tpdu_built}
use Rattle.measurement_damage.specs.Echo.{echo_of}
use Rattle.measurement_damage.specs.Fragments.{header_with}

-- A built packet as a switch pads it: "A switch in the field pads the IP payload." Its IP header counts the padding,
-- and its UDP header does not. RFC 791, section 3.1: bytes 2 and 3 are the total length, which the header's checksum
-- covers; RFC 8200, section 3: bytes 4 and 5 are the payload length.
abbrev pub with_padding : IpVersion → List ℕ → List ℕ → List ℕ
with_padding V4 padding packet = header_with 2 (52 + length padding) (take 20 packet) ++ drop 20 packet ++ padding
with_padding V6 padding packet = take 4 packet ++ big_endian 2 (32 + length padding) ++ drop 6 packet ++ padding

-- The most padding that the 16 bits of these lengths can count.
abbrev pub most_padding : IpVersion → ℕ
most_padding V4 = 65535 - 52
most_padding V6 = 65535 - 32

-- With padding of any length and contents, and whatever stands behind it in the buffer, a built packet is read and
-- echoed as it is without.
pub record PaddedIsRead (flow : InnerIpFlow) (sequence time : ℕ) (tpdu : List ℕ) : Type 0 where
  pub reading : read_of tpdu ≡ gives (tpdu_built flow sequence time)
  pub echoing : echo_of tpdu ≡ gives (build_of (reversed_of flow) sequence time)

abbrev pub BuiltWithPadding : Type 0
BuiltWithPadding = (flow : InnerIpFlow) (sequence time : ℕ) → InRange flow sequence time
    → (padding : List ℕ) → length padding ≤ most_padding flow.version → (behind : List ℕ)
    → PaddedIsRead flow sequence time (with_padding flow.version padding (build_of flow sequence time) ++ behind)

-- Of every packet, built or not: padding changes no answer of echoing.
abbrev pub PaddingNotEchoed : Type 0
PaddingNotEchoed = (v : IpVersion) (source destination segment padding other : List ℕ) (tpdu same : List ℕ)
    → Carries v source destination segment padding tpdu → Carries v source destination segment other same
    → echo_of tpdu ≡ echo_of same
