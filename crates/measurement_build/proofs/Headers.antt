-- The headers and the segment, as the code writes them, are those of the definitions.
use Prim.Native.Nat.{ℕ, ◌+◌, ◌-◌, ◌/◌, ◌%◌, ◌^◌}
use native.Mathlib.Omega.{arith}
use mathlib.Core.Path.{◌≡◌, refl, ap, ap₂, ◌∙◌}
use mathlib.Core.List.{List, [], ◌∷◌, ◌++◌}
use lib.ListN.{length, get_or, take, drop}
use borrow.Author.Tests.{eq-eqb, ne_eqb}
use Rattle.field.specs.Field.{bytes_at}
use Rattle.field.proofs.Fields.{whole_bytes_lem}
use Rattle.field.proofs.Parts.{grown}
use Rattle.checksum.specs.Sum.{sum_of, fold_of}
use Rattle.measurement.specs.Probe.{probe, measurement_magic}
use Rattle.measurement_packet.specs.Packet.{ipv4_header, ipv6, nonzero, udp_segment}
use Rattle.measurement.proofs.Pseudo.{Folds}
use Rattle.measurement_build.specs.Segment.{segment_over}

-- the IPv4 header byte by byte, with the two bytes of its checksum
abbrev header_bytes : ℕ → ℕ → List ℕ → List ℕ → List ℕ
header_bytes h l s d =
    0x45 ∷ 0 ∷ 0 ∷ 52 ∷ 0 ∷ 0 ∷ 0 ∷ 0 ∷ 64 ∷ 17 ∷ h ∷ l
    ∷ get_or s 0 0 ∷ get_or s 1 0 ∷ get_or s 2 0 ∷ get_or s 3 0 ∷ get_or d 0 0 ∷ get_or d 1 0 ∷ get_or d 2 0 ∷ get_or d 3 0 ∷ []

pub ipv4_bytes : (s d rest : List ℕ) (sum f h l : ℕ) → f ≡ fold_of sum
    → h ≡ (65535 - f) / 256 ^ 1 % 256 → l ≡ (65535 - f) / 256 ^ 0 % 256
    → header_bytes h l s d ++ rest ≡ ipv4_header (65535 - fold_of sum) (bytes_at 4 0 s) (bytes_at 4 0 d) ++ rest
unfolding ipv4_header
ipv4_bytes s d rest sum f h l ef eh el =
    ap₂ (λ (h l : ℕ). header_bytes h l s d ++ rest) eh el
    ∙ ap (λ (n : ℕ). header_bytes ((65535 - n) / 256 ^ 1 % 256) ((65535 - n) / 256 ^ 0 % 256) s d ++ rest) ef

-- the IPv6 header: its first 8 bytes, then the addresses
abbrev first : List ℕ
first = 0x60 ∷ 0 ∷ 0 ∷ 0 ∷ 0 ∷ 32 ∷ 17 ∷ 64 ∷ []

pub ipv6_put : (s d out a b c : List ℕ) → length s ≡ 16 → length d ≡ 16
    → a ≡ take 0 out ++ (first ++ drop (0 + 8) out)
    → b ≡ take 8 a ++ (s ++ drop (8 + length s) a)
    → c ≡ take 24 b ++ (d ++ drop (24 + length d) b)
    → c ≡ ipv6 (bytes_at 16 0 s) (bytes_at 16 0 d) ++ drop 40 out
unfolding ipv6
ipv6_put s d out a b c hs hd ea eb ec =
    let x : b ≡ (first ++ s) ++ drop 24 out = eb ∙ grown first s out a 8 refl ea ∙ ap (λ (n : ℕ). (first ++ s) ++ drop (8 + n) out) hs in
    let n : length (first ++ s) ≡ 24 = omega (arith, hs) in
    ec ∙ grown (first ++ s) d out b 24 n x ∙ ap (λ (n : ℕ). (first ++ s ++ d) ++ drop (24 + n) out) hd
    ∙ ap₂ (λ (s d : List ℕ). (first ++ s ++ d) ++ drop 40 out) (whole_bytes_lem 16 s hs) (whole_bytes_lem 16 d hd)

-- the checksum that is sent
module _ (sum : ℕ) where
  pub ones_for_zero : 65535 - sum ≡ 0 → 65535 ≡ nonzero (65535 - sum)
  unfolding nonzero
  ones_for_zero h = rw (eq-eqb (65535 - sum) 0 h, nonzero)

  pub as_it_is : (65535 - sum ≡ 0 → ⊥) → 65535 - sum ≡ nonzero (65535 - sum)
  unfolding nonzero
  as_it_is h = rw (ne_eqb (65535 - sum) 0 h, nonzero)

-- the UDP segment: its header, then the probe
pub segment_put : (pseudo sport dport s t : ℕ) (out : List ℕ) {a b c d : ℕ}
    → a ≡ sport / 256 ^ 1 % 256 → b ≡ sport / 256 ^ 0 % 256 → c ≡ dport / 256 ^ 1 % 256 → d ≡ dport / 256 ^ 0 % 256
    → (x y p : List ℕ) (words sum k h l : ℕ) → Folds words (sum_of (udp_segment 0 sport dport s t))
    → sum ≡ fold_of (pseudo + words) → k ≡ nonzero (65535 - sum) → h ≡ k / 256 ^ 1 % 256 → l ≡ k / 256 ^ 0 % 256 → p ≡ probe s t
    → x ≡ take 0 out ++ ((a ∷ b ∷ c ∷ d ∷ 0 ∷ 32 ∷ h ∷ l ∷ []) ++ drop (0 + 8) out) → y ≡ take 8 x ++ (p ++ drop (8 + length p) x)
    → y ≡ segment_over pseudo sport dport s t ++ drop 32 out
unfolding segment_over udp_segment probe measurement_magic
segment_put pseudo sport dport s t out {a} {b} {c} {d} ea eb ec ed x y p words sum k h l ew es ek eh el ep ex ey =
    let ports : List ℕ = a ∷ b ∷ c ∷ d ∷ 0 ∷ 32 ∷ h ∷ l ∷ [] in
    let checksum : k ≡ nonzero (65535 - fold_of (pseudo + sum_of (udp_segment 0 sport dport s t))) = ek ∙ ap (λ (n : ℕ). nonzero (65535 - n)) (es ∙ ew pseudo) in
    ey ∙ grown ports p out x 8 refl ex
    ∙ ap (λ (p : List ℕ). (ports ++ p) ++ drop (8 + length p) out) ep
    ∙ ap₂ (λ (a b : ℕ). (a ∷ b ∷ c ∷ d ∷ 0 ∷ 32 ∷ h ∷ l ∷ probe s t) ++ drop 32 out) ea eb
    ∙ ap₂ (λ (c d : ℕ). (sport / 256 ^ 1 % 256 ∷ sport / 256 ^ 0 % 256 ∷ c ∷ d ∷ 0 ∷ 32 ∷ h ∷ l ∷ probe s t) ++ drop 32 out) ec ed
    ∙ ap₂ (λ (h l : ℕ). (sport / 256 ^ 1 % 256 ∷ sport / 256 ^ 0 % 256 ∷ dport / 256 ^ 1 % 256 ∷ dport / 256 ^ 0 % 256 ∷ 0 ∷ 32 ∷ h ∷ l ∷ probe s t) ++ drop 32 out) eh el
    ∙ ap (λ (k : ℕ). udp_segment k sport dport s t ++ drop 32 out) checksum
