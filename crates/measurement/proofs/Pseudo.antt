-- The pseudo-header: its length, and the sum of its words.
use Prim.Native.Nat.{ℕ, ◌+◌, ◌*◌, ◌/◌, ◌%◌, ◌<◌}
use native.Mathlib.Omega.{arith}
use mathlib.Core.Path.{◌≡◌, sym, ap, ap₂, ◌∙◌}
use mathlib.Core.List.{List, ◌++◌}
use lib.ListN.{length, get_or, length-append}
use Rattle.field.specs.Field.{big_endian}
use Rattle.field.proofs.Fields.{length_bytes_at}
use Rattle.checksum.specs.Sum.{sum_of, fold_of}
use Rattle.checksum.proofs.Sums.{sum_append}
use Rattle.checksum.proofs.Carries.{fold_words}
use Rattle.measurement.specs.Flow.{address_length, address}
use Rattle.measurement.specs.Pseudo.{pseudo_header}
use Rattle.measurement.specs.declared.IpVersion.{IpVersion}
use Rattle.measurement.specs.declared.IpVersion.TheVariants.{V4, V6}

pub pseudo_even : (v : IpVersion) (src dst : List ℕ) (n : ℕ) → length src ≡ address_length v → length dst ≡ address_length v
    → length (pseudo_header v src dst n) % 2 ≡ 0
unfolding pseudo_header address_length
pseudo_even V4 src dst n h k = simp length-append (omega arith)
pseudo_even V6 src dst n h k = simp length-append (omega arith)

-- the words of a length below 2 ^ 16 in a field of 4 bytes, and of the next header behind it
length_words : (n : ℕ) → n < 65536 → sum_of (big_endian 4 n ++ big_endian 3 0 ++ big_endian 1 17) ≡ 17 + n
unfolding sum_of
length_words n h =
    let a : n / 16777216 ≡ 0 = omega arith in
    let b : n / 65536 ≡ 0 = omega arith in
    let w : n / 256 % 256 * 256 + n / 1 % 256 ≡ n = omega arith in
    ap₂ (λ (x y : ℕ). x % 256 * 256 + y % 256 + (n / 256 % 256 * 256 + n / 1 % 256 + 17)) a b
    ∙ plain (n / 256 % 256 * 256) (n / 1 % 256) ∙ ap (λ (m : ℕ). 17 + m) w
  where
    plain : (x y : ℕ) → 0 % 256 * 256 + 0 % 256 + (x + y + 17) ≡ 17 + (x + y)
    plain x y = omega arith

pub pseudo_sum : (v : IpVersion) (src dst : List ℕ) (n : ℕ) → length src ≡ address_length v → length dst ≡ address_length v → n < 65536
    → sum_of (pseudo_header v src dst n) ≡ sum_of src + sum_of dst + (17 + n)
unfolding pseudo_header address_length sum_of
pseudo_sum V4 src dst n h k l =
    omega (arith, sum_append src dst (omega arith), sum_append (src ++ dst) (big_endian 1 0 ++ big_endian 1 17 ++ big_endian 2 n) (simp length-append (omega arith)))
pseudo_sum V6 src dst n h k l =
    sum_append (src ++ dst) (big_endian 4 n ++ big_endian 3 0 ++ big_endian 1 17) (simp length-append (omega arith))
    ∙ ap₂ (λ (x y : ℕ). x + y) (sum_append src dst (omega arith)) (length_words n l)

pub address_length_lem : (v : IpVersion) (l : List ℕ) → length (address v l) ≡ address_length v
unfolding address
address_length_lem v l = length_bytes_at (address_length v) 0 l

-- one number in place of another, in any sum that is folded
abbrev pub Folds : ℕ → ℕ → Type 0
Folds x y = (n : ℕ) → fold_of (n + x) ≡ fold_of (n + y)

pub folds_both : (x y z w : ℕ) → Folds x y → Folds z w → Folds (x + z) (y + w)
folds_both x y z w p q n =
    ap fold_of (turn n x z) ∙ p (n + z) ∙ ap fold_of (turn' n z y) ∙ q (n + y) ∙ ap fold_of (back n y w)
  where
    turn : (a b c : ℕ) → a + (b + c) ≡ a + c + b
    turn a b c = omega arith

    turn' : (a b c : ℕ) → a + b + c ≡ a + c + b
    turn' a b c = omega arith

    back : (a b c : ℕ) → a + b + c ≡ a + (b + c)
    back a b c = omega arith

-- the same of two numbers behind a third, which stays
pub folds_over : (k x y a b : ℕ) → Folds x a → Folds y b → Folds (k + x + y) (a + b + k)
folds_over k x y a b p q n = ap fold_of (apart n k x y) ∙ folds_both x a y b p q (n + k) ∙ ap fold_of (together n k a b)
  where
    apart : (n k x y : ℕ) → n + (k + x + y) ≡ n + k + (x + y)
    apart n k x y = omega arith

    together : (n k x y : ℕ) → n + k + (x + y) ≡ n + (x + y + k)
    together n k x y = omega arith

-- four bytes as one number, and as two words
four_bytes : (a b c d : ℕ) {x : ℕ} → x ≡ a * 16777216 + b * 65536 + c * 256 + d → Folds x (a * 256 + b + (c * 256 + d))
four_bytes a b c d e n =
    ap (λ (y : ℕ). fold_of (n + y)) (e ∙ words a b c d) ∙ fold_words n (a * 256 + b) (c * 256 + d)
  where
    words : (a b c d : ℕ) → a * 16777216 + b * 65536 + c * 256 + d ≡ (a * 256 + b) * 65536 + (c * 256 + d)
    words a b c d = omega arith

-- an address, four bytes at once
abbrev Four : List ℕ → ℕ → ℕ → Type 0
Four l at x = x ≡ get_or l at 0 * 16777216 + get_or l (at + 1) 0 * 65536 + get_or l (at + 2) 0 * 256 + get_or l (at + 3) 0

module _ {v : IpVersion} (l : List ℕ) where
  pub ipv4_folds : {x : ℕ} → v ≡ V4 → Four l 0 x → Folds x (sum_of (address v l))
  unfolding address address_length sum_of
  ipv4_folds {x} e p n =
      let g : ℕ → ℕ = λ k. get_or l k 0 in
      let all : g 0 * 256 + g 1 + (g 2 * 256 + g 3) ≡ sum_of (address V4 l) = omega arith in
      four_bytes (g 0) (g 1) (g 2) (g 3) p n ∙ ap (λ (m : ℕ). fold_of (n + m)) all ∙ ap (λ (u : IpVersion). fold_of (n + sum_of (address u l))) (sym e)

  pub ipv6_folds : {x y z w : ℕ} → v ≡ V6 → Four l 0 x → Four l 4 y → Four l 8 z → Four l 12 w → Folds (x + y + z + w) (sum_of (address v l))
  unfolding address address_length sum_of
  ipv6_folds {x} {y} {z} {w} e p q r t n =
      let g : ℕ → ℕ = λ k. get_or l k 0 in
      let a = g 0 * 256 + g 1 + (g 2 * 256 + g 3) in
      let b = g 4 * 256 + g 5 + (g 6 * 256 + g 7) in
      let c = g 8 * 256 + g 9 + (g 10 * 256 + g 11) in
      let d = g 12 * 256 + g 13 + (g 14 * 256 + g 15) in
      let two = folds_both x a y b (four_bytes (g 0) (g 1) (g 2) (g 3) p) (four_bytes (g 4) (g 5) (g 6) (g 7) q) in
      let three = folds_both (x + y) (a + b) z c two (four_bytes (g 8) (g 9) (g 10) (g 11) r) in
      let four = folds_both (x + y + z) (a + b + c) w d three (four_bytes (g 12) (g 13) (g 14) (g 15) t) in
      let all : a + b + c + d ≡ sum_of (address V6 l) = omega arith in
      four n ∙ ap (λ (m : ℕ). fold_of (n + m)) all ∙ ap (λ (u : IpVersion). fold_of (n + sum_of (address u l))) (sym e)

-- the words as the code has them
pub pseudo_folds : (v : IpVersion) (src dst : List ℕ) (n x y : ℕ) → n < 65536 → Folds x (sum_of (address v src)) → Folds y (sum_of (address v dst))
    → Folds (17 + n + x + y) (sum_of (pseudo_header v (address v src) (address v dst) n))
pseudo_folds v src dst n x y fits p q m =
    folds_over (17 + n) x y (sum_of (address v src)) (sum_of (address v dst)) p q m
    ∙ ap (λ (k : ℕ). fold_of (m + k)) (sym (pseudo_sum v (address v src) (address v dst) n (address_length_lem v src) (address_length_lem v dst) fits))
