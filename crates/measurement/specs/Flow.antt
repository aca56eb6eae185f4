-- Versions, addresses and flows, as building and reading share them.
use Rattle.std.specs.Prelude.{ℕ, ◌-◌, ◌^◌, ◌<◌, ◌≡◌, List, ◌++◌, true, false, eqb, length, replicate}
use Rattle.field.specs.Field.{Bytes, bytes_at}
use Rattle.measurement.specs.declared.InnerIpFlow.{InnerIpFlow}
use Rattle.measurement.specs.declared.IpVersion.{IpVersion}
use Rattle.measurement.specs.declared.IpVersion.TheVariants.{V4, V6}

-- The version that a number stands for: 4 for IPv4, every other number for IPv6. The card has no number for a flow or
-- an address of a third version (2 is for a T-PDU).
unfoldable pub version_numbered : ℕ → IpVersion
version_numbered n = elim (eqb n 4) [ true ↦ V4 | false ↦ V6 ]

-- The number of a version, as the IP header has it.
abbrev pub version_number : IpVersion → ℕ
version_number V4 = 4
version_number V6 = 6

-- Addresses: "of an IPv4 address only the first 4 bytes count, and what makes one leaves the rest 0" (document 01).
unfoldable pub address_length : IpVersion → ℕ
address_length V4 = 4
address_length V6 = 16

unfoldable pub address : IpVersion → List ℕ → List ℕ
address v bytes = bytes_at (address_length v) 0 bytes

unfoldable pub padded : List ℕ → List ℕ
padded address = address ++ replicate (16 - length address) 0

-- "source and destination address and port exchanged"
abbrev pub reversed_of : InnerIpFlow → InnerIpFlow
reversed_of flow = record {
  version = flow.version;
  src = flow.dst;
  dst = flow.src;
  src_port = flow.dst_port;
  dst_port = flow.src_port;
}

-- A flow, a sequence and a time of the code's types: 16 bytes for an address, of which IPv4 uses 4; ports below 2^16;
-- numbers below 2^64.
pub record InRange (flow : InnerIpFlow) (s t : ℕ) : Type 0 where
  pub source : Bytes flow.src
  pub destination : Bytes flow.dst
  pub source_length : length flow.src ≡ 16
  pub destination_length : length flow.dst ≡ 16
  pub source_port : flow.src_port < 2 ^ 16
  pub destination_port : flow.dst_port < 2 ^ 16
  pub sequence : s < 2 ^ 64
  pub time : t < 2 ^ 64
