-- What is claimed of the reader's refusals. proofs/Claims.antt proves each claim.
use Rattle.std.specs.Prelude.{ℕ, ◌+◌, ◌*◌, ◌<◌, ◌≤◌, ◌≡◌, List, [], ◌∷◌, ◌++◌, ◌⊎◌, length, take, replicate}
use Rattle.error.specs.Outcome.{refused}
use Rattle.measurement_reading.specs.Read.{read_of}

-- A T-PDU is refused by 1 to 14, 38 or 39, and by no other number.
abbrev pub ReadingNumbers : Type 0
ReadingNumbers = (tpdu : List ℕ) (n : ℕ) → read_of tpdu ≡ refused n
    → ((1 ≤ n) × (n ≤ 14)) ⊎ (n ≡ 38) ⊎ (n ≡ 39)

-- RFC 791, section 3.1: a packet begins with a byte whose upper four bits are the version, here 4, and whose lower four
-- are the IHL. So these, of an IHL under 16, are all the packets of version 4.
abbrev pub ipv4_packet : ℕ → List ℕ → List ℕ
ipv4_packet ihl behind = (4 * 16 + ihl) ∷ behind

-- Document 02, job 3, of such a packet: "Number 4 keeps the IHL below 5"; 39 is an "input shorter than IHL × 4 + 8
-- bytes, directly after 4". Each is given exactly where it is due, so 4 comes before 39, and 39 before 5. Said by the
-- packet's bytes, and not by the rows of specs/Read.antt.
pub record TwoCauses (ihl : ℕ) (tpdu : List ℕ) : Type 0 where
  pub bad_ihl : 20 ≤ length tpdu → ihl < 5 → read_of tpdu ≡ refused 4
  pub only_bad_ihl : read_of tpdu ≡ refused 4 → (20 ≤ length tpdu) × (ihl < 5)
  pub cut : 20 ≤ length tpdu → 5 ≤ ihl → length tpdu < ihl * 4 + 8 → read_of tpdu ≡ refused 39
  pub only_cut : read_of tpdu ≡ refused 39 → (20 ≤ length tpdu) × (5 ≤ ihl) × (length tpdu < ihl * 4 + 8)

abbrev pub CutIsNot4 : Type 0
CutIsNot4 = (ihl : ℕ) (behind : List ℕ) → ihl < 16 → TwoCauses ihl (ipv4_packet ihl behind)

-- An IPv4 header, then a UDP header without data whose checksum is not set: without options, and with the most options,
-- 40 bytes. The header checksums are right.
abbrev pub udp_header : List ℕ
udp_header = 0x03 ∷ 0xe8 ∷ 0x07 ∷ 0xd0 ∷ 0x00 ∷ 0x08 ∷ 0x00 ∷ 0x00 ∷ []

abbrev pub without_options : List ℕ
without_options =
    0x45 ∷ 0x00 ∷ 0x00 ∷ 0x1c ∷ 0x00 ∷ 0x00 ∷ 0x00 ∷ 0x00 ∷ 0x40 ∷ 0x11 ∷ 0x66 ∷ 0xcf
    ∷ 10 ∷ 0 ∷ 0 ∷ 1 ∷ 10 ∷ 0 ∷ 0 ∷ 2 ∷ udp_header

abbrev pub with_most_options : List ℕ
with_most_options =
    0x4f ∷ 0x00 ∷ 0x00 ∷ 0x44 ∷ 0x00 ∷ 0x00 ∷ 0x00 ∷ 0x00 ∷ 0x40 ∷ 0x11 ∷ 0x5c ∷ 0xa7
    ∷ 10 ∷ 0 ∷ 0 ∷ 1 ∷ 10 ∷ 0 ∷ 0 ∷ 2 ∷ replicate 40 0 ++ udp_header

-- Whole, they have 28 and 68 bytes and are refused by 13 only, since no probe follows. Without the last byte they are
-- refused by 39, though their total length is then past the input, which is 5. With 20 bytes IHL 5 is 39, and IHL 4 is
-- 4, though its 24 bytes are not there either; with 19 bytes both are 3.
pub record CutExamples : Type 0 where
  pub of_28_bytes : read_of without_options ≡ refused 13
  pub of_27_bytes : read_of (take 27 without_options) ≡ refused 39
  pub of_20_bytes : read_of (take 20 without_options) ≡ refused 39
  pub of_19_bytes : read_of (take 19 without_options) ≡ refused 3
  pub of_68_bytes : read_of with_most_options ≡ refused 13
  pub of_67_bytes : read_of (take 67 with_most_options) ≡ refused 39
  pub ihl_4_of_20_bytes : read_of (ipv4_packet 4 (replicate 19 0)) ≡ refused 4
  pub ihl_4_of_19_bytes : read_of (ipv4_packet 4 (replicate 18 0)) ≡ refused 3
