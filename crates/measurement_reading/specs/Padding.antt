-- What is claimed of the UDP part of a packet, and of padding behind its segment: document 02, job 6. Said by the
-- packet's bytes, the paper's digits and the RFCs' pseudo-header, and not by the rows of specs/Read.antt.
-- proofs/Padding.antt proves each claim.
use Rattle.std.specs.Prelude.{ℕ, ◌+◌, ◌-◌, ◌*◌, ◌/◌, ◌%◌, ◌<◌, ◌≤◌, ◌≡◌, List, [], ◌∷◌, ◌++◌, ◌⊎◌, length, take, drop, get_or, replicate}
use Rattle.error.specs.Outcome.{refused, gives}
use Rattle.field.specs.Field.{Bytes, big_endian, bytes_at, field}
use Rattle.checksum.specs.Claims.{Verifies}
use Rattle.measurement.specs.Flow.{padded}
use Rattle.measurement.specs.Pseudo.{pseudo_header}
use Rattle.measurement.specs.declared.DecodedTpdu.{DecodedTpdu}
use Rattle.measurement.specs.declared.IpVersion.{IpVersion}
use Rattle.measurement.specs.declared.IpVersion.TheVariants.{V4, V6}
use Rattle.measurement_reading.specs.Fragments.{IsIpv4, Fragment, NoEarlierCause}
use Rattle.measurement_reading.specs.Read.{read_of}

-- ---- where a packet has its UDP part

-- RFC 8200, section 3: the upper four bits of byte 0 are the version, bytes 4 and 5 the payload length, and byte 6 is
-- the next header. None of the causes before 10 holds: 8, 6 and 9; of such a packet 1 and 2 are never due.
pub record Ipv6Right (tpdu : List ℕ) : Type 0 where
  pub is_ipv6 : get_or tpdu 0 0 / 16 ≡ 6
  pub not_8 : 48 ≤ length tpdu
  pub not_6 : get_or tpdu 6 0 ≡ 17
  pub not_9 : (8 ≤ field 2 4 tpdu) × (field 2 4 tpdu + 40 ≤ length tpdu)

-- No cause before 10 refuses the packet, so its UDP part is judged.
abbrev pub ReachesUdp : IpVersion → List ℕ → Type 0
ReachesUdp V4 tpdu = IsIpv4 tpdu × NoEarlierCause tpdu × (Fragment tpdu → ⊥)
ReachesUdp V6 tpdu = Ipv6Right tpdu

-- RFC 791, section 3.1; RFC 8200, section 3
abbrev pub source_in : IpVersion → List ℕ → List ℕ
source_in V4 tpdu = bytes_at 4 12 tpdu
source_in V6 tpdu = bytes_at 16 8 tpdu

abbrev pub destination_in : IpVersion → List ℕ → List ℕ
destination_in V4 tpdu = bytes_at 4 16 tpdu
destination_in V6 tpdu = bytes_at 16 24 tpdu

-- "the part from IHL × 4 to total length"; in IPv6 the payload length counts it from byte 40 on.
abbrev pub part_in : IpVersion → List ℕ → List ℕ
part_in V4 tpdu =
    let header : ℕ = get_or tpdu 0 0 % 16 * 4 in
    take (field 2 2 tpdu - header) (drop header tpdu)
part_in V6 tpdu = take (field 2 4 tpdu) (drop 40 tpdu)

-- ---- what is judged

-- RFC 768: bytes 4 and 5 of the UDP header are its length, which counts header and data.
abbrev pub LengthRight : List ℕ → Type 0
LengthRight part = (8 ≤ field 2 4 part) × (field 2 4 part ≤ length part)

-- RFC 768; RFC 8200, section 8.1: the sum is taken over a pseudo-header with the UDP length, and over as many bytes. An
-- odd one at the end is the upper half of a word, whatever stands behind it in the part.
abbrev pub Sums : IpVersion → List ℕ → Type 0
Sums v tpdu =
    let part : List ℕ = part_in v tpdu in
    Verifies (pseudo_header v (source_in v tpdu) (destination_in v tpdu) (field 2 4 part) ++ take (field 2 4 part) part)

-- RFC 768: bytes 6 and 7 are the checksum. "An IPv4 UDP checksum field of 0 is not verified".
abbrev pub SumRight : IpVersion → List ℕ → Type 0
SumRight v tpdu =
    let part : List ℕ = part_in v tpdu in
    ((v ≡ V4) × (field 2 6 part ≡ 0)) ⊎ ((field 2 6 part ≡ 0 → ⊥) × Sums v tpdu)

-- What is read: RFC 768 has the ports in bytes 0 to 3; behind the UDP header's 8 bytes and the tag's 8 the probe has
-- its sequence and its send time.
abbrev pub values_in : IpVersion → List ℕ → DecodedTpdu
values_in v tpdu =
    let part : List ℕ = part_in v tpdu in
    record {
      flow = record {
        version = v;
        src = padded (source_in v tpdu);
        dst = padded (destination_in v tpdu);
        src_port = field 2 0 part;
        dst_port = field 2 2 part;
      };
      measurement = record { sequence = field 8 16 part; send_timestamp_ns = field 8 24 part };
    }

-- Every answer, where a UDP part is judged. Of these six cases exactly one is a packet's, so the order is 10, 11, 12,
-- 13, 14 in both versions, but that IPv4 has no 11. "13 counts only the bytes within the UDP length": the UDP header
-- has 8 and the probe 24, which begins with the tag "OPCDPTK1".
pub record AnswerByRfcs (v : IpVersion) (tpdu : List ℕ) : Type 0 where
  pub bad_length : (LengthRight (part_in v tpdu) → ⊥) → read_of tpdu ≡ refused 10
  pub no_checksum : LengthRight (part_in v tpdu) → v ≡ V6 → field 2 6 (part_in v tpdu) ≡ 0 → read_of tpdu ≡ refused 11
  pub bad_sum : LengthRight (part_in v tpdu) → (field 2 6 (part_in v tpdu) ≡ 0 → ⊥) → (Sums v tpdu → ⊥)
      → read_of tpdu ≡ refused 12
  pub too_short : LengthRight (part_in v tpdu) → SumRight v tpdu → field 2 4 (part_in v tpdu) < 32
      → read_of tpdu ≡ refused 13
  pub no_probe : LengthRight (part_in v tpdu) → SumRight v tpdu → 32 ≤ field 2 4 (part_in v tpdu)
      → (field 8 8 (part_in v tpdu) ≡ 0x4f50434450544b31 → ⊥) → read_of tpdu ≡ refused 14
  pub a_probe : LengthRight (part_in v tpdu) → SumRight v tpdu → 32 ≤ field 2 4 (part_in v tpdu)
      → field 8 8 (part_in v tpdu) ≡ 0x4f50434450544b31 → read_of tpdu ≡ gives (values_in v tpdu)

-- "The reader follows them, for both versions through one shared fact"
abbrev pub JudgedByRfcs : Type 0
JudgedByRfcs = (v : IpVersion) (tpdu : List ℕ) → Bytes tpdu → ReachesUdp v tpdu → AnswerByRfcs v tpdu

-- ---- padding

-- A packet with these addresses and this UDP segment, which is as long as its own header says, and with padding behind
-- it in the part. No cause before 10 refuses it, so its total length, or payload length, counts the padding too.
pub record Carries (v : IpVersion) (source destination segment padding tpdu : List ℕ) : Type 0 where
  pub bytes : Bytes tpdu
  pub reaches : ReachesUdp v tpdu
  pub source_is : source_in v tpdu ≡ source
  pub destination_is : destination_in v tpdu ≡ destination
  pub part_is : part_in v tpdu ≡ segment ++ padding
  pub has_header : 8 ≤ length segment
  pub udp_length : field 2 4 segment ≡ length segment

-- Padding changes no answer, whatever its length and its bytes.
abbrev pub PaddingIgnored : Type 0
PaddingIgnored = (v : IpVersion) (source destination segment padding other : List ℕ) (tpdu same : List ℕ)
    → Carries v source destination segment padding tpdu → Carries v source destination segment other same
    → read_of tpdu ≡ read_of same

-- ---- examples

-- A packet of each version with this length in its IP header; in IPv4 also with this header checksum.
abbrev pub ipv4_of : ℕ → ℕ → List ℕ → List ℕ
ipv4_of total_length checksum part =
    0x45 ∷ 0x00 ∷ big_endian 2 total_length ++ (0x00 ∷ 0x00 ∷ 0x00 ∷ 0x00 ∷ 0x40 ∷ 0x11 ∷ []) ++ big_endian 2 checksum
    ++ (10 ∷ 0 ∷ 0 ∷ 1 ∷ 10 ∷ 0 ∷ 0 ∷ 2 ∷ []) ++ part

abbrev pub ipv6_of : ℕ → List ℕ → List ℕ
ipv6_of payload_length part =
    0x60 ∷ 0x00 ∷ 0x00 ∷ 0x00 ∷ big_endian 2 payload_length ++ (0x11 ∷ 0x40 ∷ [])
    ++ (0xfd ∷ replicate 14 0 ++ (1 ∷ [])) ++ (0xfd ∷ replicate 14 0 ++ (2 ∷ [])) ++ part

-- A part of 34 bytes with this UDP length and checksum: ports 1000 and 2000, a probe with sequence 7 and time
-- 1,000,000, and two bytes more.
abbrev pub part_of34 : ℕ → ℕ → List ℕ
part_of34 udp_length checksum =
    big_endian 2 1000 ++ big_endian 2 2000 ++ big_endian 2 udp_length ++ big_endian 2 checksum
    ++ (0x4f ∷ 0x50 ∷ 0x43 ∷ 0x44 ∷ 0x50 ∷ 0x54 ∷ 0x4b ∷ 0x31 ∷ []) ++ big_endian 8 7 ++ big_endian 8 1000000
    ++ (0xff ∷ 0xee ∷ [])

-- The packets of 54 and of 74 bytes with such a part.
abbrev pub padded4 : ℕ → ℕ → List ℕ
padded4 udp_length checksum = ipv4_of 54 0x66b5 (part_of34 udp_length checksum)

abbrev pub padded6 : ℕ → ℕ → List ℕ
padded6 udp_length checksum = ipv6_of 34 (part_of34 udp_length checksum)

-- What is read of each.
abbrev pub example_of : IpVersion → List ℕ → List ℕ → DecodedTpdu
example_of v source destination = record {
  flow = record { version = v; src = padded source; dst = padded destination; src_port = 1000; dst_port = 2000 };
  measurement = record { sequence = 7; send_timestamp_ns = 1000000 };
}

-- Where the sum is right over other bytes: over the whole part, with its length, and over 33 bytes with the padding
-- byte behind them in the last word.
pub record OtherSums (v : IpVersion) (source destination : List ℕ) (checksum : ℕ) : Type 0 where
  pub whole_part : Verifies (pseudo_header v source destination 34 ++ part_of34 32 checksum)
  pub last_word : Verifies (pseudo_header v source destination 33 ++ part_of34 33 checksum)

-- The IPv4 checksums over 32, 33 and 31 bytes, each with that length, are 0x6f83, 0x7080 and 0x6fc5, and 0x6f92 is the
-- one of `OtherSums`; those of IPv6 are 0x8981, 0x8a7e, 0x89c3 and 0x8990.
pub record PaddingExamples : Type 0 where
  pub other_sums_4 : OtherSums V4 (10 ∷ 0 ∷ 0 ∷ 1 ∷ []) (10 ∷ 0 ∷ 0 ∷ 2 ∷ []) 0x6f92
  pub other_sums_6 : OtherSums V6 (0xfd ∷ replicate 14 0 ++ (1 ∷ [])) (0xfd ∷ replicate 14 0 ++ (2 ∷ [])) 0x8990
  pub even_4 : read_of (padded4 32 0x6f83) ≡ gives (example_of V4 (10 ∷ 0 ∷ 0 ∷ 1 ∷ []) (10 ∷ 0 ∷ 0 ∷ 2 ∷ []))
  pub odd_4 : read_of (padded4 33 0x7080) ≡ read_of (padded4 32 0x6f83)
  pub unsummed_4 : read_of (padded4 32 0) ≡ read_of (padded4 32 0x6f83)
  pub whole_part_summed_4 : read_of (padded4 32 0x6f92) ≡ refused 12
  pub padding_in_the_last_word_4 : read_of (padded4 33 0x6f92) ≡ refused 12
  pub probe_cut_4 : read_of (padded4 31 0x6fc5) ≡ refused 13
  pub past_the_part_4 : read_of (padded4 35 0) ≡ refused 10
  pub even_6 : read_of (padded6 32 0x8981)
      ≡ gives (example_of V6 (0xfd ∷ replicate 14 0 ++ (1 ∷ [])) (0xfd ∷ replicate 14 0 ++ (2 ∷ [])))
  pub odd_6 : read_of (padded6 33 0x8a7e) ≡ read_of (padded6 32 0x8981)
  pub unsummed_6 : read_of (padded6 32 0) ≡ refused 11
  pub whole_part_summed_6 : read_of (padded6 32 0x8990) ≡ refused 12
  pub padding_in_the_last_word_6 : read_of (padded6 33 0x8990) ≡ refused 12
  pub probe_cut_6 : read_of (padded6 31 0x89c3) ≡ refused 13
  pub past_the_part_6 : read_of (padded6 35 0) ≡ refused 10
