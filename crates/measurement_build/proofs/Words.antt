-- The sums of the headers from numbers: what folds as the words of a number, of the UDP segment and of the IPv4 header do.
use Prim.Native.Nat.{ℕ, ◌+◌, ◌-◌, ◌*◌, ◌/◌, ◌%◌, ◌^◌, ◌<◌}
use native.Mathlib.Omega.{arith}
use mathlib.Core.Path.{◌≡◌, refl, sym, ap, ap₂, ◌∙◌}
use mathlib.Core.List.{List, [], ◌∷◌, ◌++◌}
use Rattle.field.specs.Field.{value_of, big_endian, bytes_at}
use Rattle.field.proofs.Fields.{value_big_endian}
use Rattle.checksum.specs.Sum.{sum_of, fold_of, checksum_of}
use Rattle.checksum.proofs.Carries.{like_halves, like_add, fold_of_like}
use Rattle.checksum.proofs.Sums.{sum_append}
use Rattle.measurement.specs.Pseudo.{pseudo_header}
use Rattle.measurement.specs.Probe.{probe, measurement_magic}
use Rattle.measurement.specs.declared.IpVersion.TheVariants.{V4}
use Rattle.measurement_packet.specs.Packet.{ipv4, ipv4_header, udp_segment}
use Rattle.measurement.proofs.Pseudo.{Folds, folds_over}

-- eight bytes as one number, and as four words
eight_bytes : (a b c d e f g h : ℕ)
    → Folds (value_of (a ∷ b ∷ c ∷ d ∷ e ∷ f ∷ g ∷ h ∷ [])) (sum_of (a ∷ b ∷ c ∷ d ∷ e ∷ f ∷ g ∷ h ∷ []))
unfolding sum_of
eight_bytes a b c d e f g h n =
    sym (fold_of_like (record { some = λ p. omega arith; times = (a * 256 + b) * 4295032833 + (c * 256 + d) * 65537 + (e * 256 + f); same = omega arith }))

-- the halves of a number fold as the number does, and so as the words of its field
pub halves_fold : (x : ℕ) {r : ℕ} → x < 256 ^ 8 → r ≡ x % 4294967296 + x / 4294967296 → Folds r (sum_of (big_endian 8 x))
halves_fold x {r} h e n =
    ap fold_of (ap (λ (m : ℕ). n + m) e ∙ turn n (x % 4294967296 + x / 4294967296)) ∙ fold_of_like (like_add n (like_halves x))
    ∙ ap fold_of (turn x n ∙ ap (λ (m : ℕ). n + m) (sym (value_big_endian 8 x h))) ∙ eight_bytes _ _ _ _ _ _ _ _ n
  where
    turn : (a b : ℕ) → a + b ≡ b + a
    turn a b = omega arith

-- the UDP segment: the words of its header and of the probe's tag, and those of two numbers
port : (n : ℕ) → n < 65536 → n / 256 ^ 1 % 256 * 256 + n / 256 ^ 0 % 256 ≡ n
port n h = omega arith

segment_sum : (sport dport s t : ℕ) → sport < 65536 → dport < 65536
    → sum_of (udp_segment 0 sport dport s t) ≡ sum_of (big_endian 8 s) + sum_of (big_endian 8 t) + (77369 + sport + dport)
unfolding udp_segment probe measurement_magic sum_of
segment_sum sport dport s t h k =
    let front : List ℕ = big_endian 2 sport ++ big_endian 2 dport ++ big_endian 2 32 ++ big_endian 2 0 ++ measurement_magic in
    sum_append front (big_endian 8 s ++ big_endian 8 t) refl
    ∙ ap₂ (λ (x y : ℕ). x + y) (ap₂ (λ (x y : ℕ). x + (y + 77369)) (port sport h) (port dport k)) (sum_append (big_endian 8 s) (big_endian 8 t) refl)
    ∙ turn sport dport (sum_of (big_endian 8 s)) (sum_of (big_endian 8 t))
  where
    turn : (a b x y : ℕ) → a + (b + 77369) + (x + y) ≡ x + y + (77369 + a + b)
    turn a b x y = omega arith

pub segment_folds : (sport dport s t x y : ℕ) → sport < 65536 → dport < 65536 → Folds x (sum_of (big_endian 8 s)) → Folds y (sum_of (big_endian 8 t))
    → Folds (77369 + sport + dport + x + y) (sum_of (udp_segment 0 sport dport s t))
segment_folds sport dport s t x y h k p q n =
    folds_over (77369 + sport + dport) x y (sum_of (big_endian 8 s)) (sum_of (big_endian 8 t)) p q n
    ∙ ap (λ (m : ℕ). fold_of (n + m)) (sym (segment_sum sport dport s t h k))

-- the IPv4 header: its words are those of the pseudo-header and 0x8514
header_words : (s d : List ℕ)
    → 0x8514 + sum_of (pseudo_header V4 (bytes_at 4 0 s) (bytes_at 4 0 d) 32) ≡ sum_of (ipv4_header 0 (bytes_at 4 0 s) (bytes_at 4 0 d))
unfolding sum_of pseudo_header ipv4_header
header_words s d = omega arith

pub header_checked : (s d : List ℕ) (p : ℕ) → Folds p (sum_of (pseudo_header V4 (bytes_at 4 0 s) (bytes_at 4 0 d) 32))
    → ipv4_header (65535 - fold_of (0x8514 + p)) (bytes_at 4 0 s) (bytes_at 4 0 d) ≡ ipv4 (bytes_at 4 0 s) (bytes_at 4 0 d)
unfolding ipv4 checksum_of
header_checked s d p f =
    ap (λ (n : ℕ). ipv4_header (65535 - n) (bytes_at 4 0 s) (bytes_at 4 0 d)) (f 0x8514 ∙ ap fold_of (header_words s d))
