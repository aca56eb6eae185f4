-- What is claimed of fragments: document 02, job 1. Said by the packet's bytes and the paper's digits, and not by the
-- rows of specs/Read.antt. proofs/Fragments.antt proves each claim.
use Rattle.std.specs.Prelude.{ℕ, ◌+◌, ◌*◌, ◌/◌, ◌%◌, ◌≤◌, ◌≡◌, List, ◌⊎◌, length, take, get_or}
use Rattle.error.specs.Outcome.{refused, gives}
use Rattle.field.specs.Field.{Bytes}
use Rattle.checksum.specs.Claims.{Verifies}
use Rattle.measurement.specs.declared.DecodedTpdu.{DecodedTpdu}
use Rattle.measurement_reading.specs.Read.{read_of}

-- RFC 791, section 3.1: the upper four bits of byte 0 are the version.
abbrev pub IsIpv4 : List ℕ → Type 0
IsIpv4 tpdu = get_or tpdu 0 0 / 16 ≡ 4

-- RFC 791, section 3.1: of the eight bits of byte 6, the most significant first, the third is More Fragments; the last
-- five and byte 7 are the Fragment Offset. "the more-fragments flag set or a fragment offset other than 0"
abbrev pub Fragment : List ℕ → Type 0
Fragment tpdu = (get_or tpdu 6 0 / 32 % 2 ≡ 1) ⊎ (get_or tpdu 6 0 % 32 * 256 + get_or tpdu 7 0 ≡ 0 → ⊥)

-- None of the causes before 38 holds, for a packet of version 4 with this IHL and this total length: 3, 4, 39, 5, 6
-- and 7. Of such a packet 1 and 2 are never due.
pub record HeaderRight (ihl total_length : ℕ) (tpdu : List ℕ) : Type 0 where
  pub not_3 : 20 ≤ length tpdu
  pub not_4 : 5 ≤ ihl
  pub not_39 : ihl * 4 + 8 ≤ length tpdu
  pub not_5 : (ihl * 4 + 8 ≤ total_length) × (total_length ≤ length tpdu)
  pub not_6 : get_or tpdu 9 0 ≡ 17
  pub not_7 : Verifies (take (ihl * 4) tpdu)

-- The lower four bits of byte 0 are the IHL, bytes 2 and 3 the total length.
abbrev pub NoEarlierCause : List ℕ → Type 0
NoEarlierCause tpdu = HeaderRight (get_or tpdu 0 0 % 16) (get_or tpdu 2 0 * 256 + get_or tpdu 3 0) tpdu

-- "From now on a packet with the more-fragments flag set or a fragment offset other than 0 (RFC 791) is refused."
abbrev pub FragmentsNotRead : Type 0
FragmentsNotRead = (tpdu : List ℕ) → Bytes tpdu → IsIpv4 tpdu → Fragment tpdu
    → (read : DecodedTpdu) → read_of tpdu ≡ gives read → ⊥

-- "38, fragment, directly after 7": it is given exactly where the packet is a fragment and no earlier cause holds, so
-- before 10, whatever stands behind the header; and of version 4 only.
pub record RefusedAsFragment : Type 0 where
  pub where_due : (tpdu : List ℕ) → Bytes tpdu → IsIpv4 tpdu → NoEarlierCause tpdu → Fragment tpdu
      → read_of tpdu ≡ refused 38
  pub only_where_due : (tpdu : List ℕ) → Bytes tpdu → read_of tpdu ≡ refused 38
      → IsIpv4 tpdu × NoEarlierCause tpdu × Fragment tpdu
