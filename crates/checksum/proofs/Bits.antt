-- Bits as numbers: the value of a list of bits, the most significant first, and of the bits of bytes.
use Prim.Native.Nat.{ℕ, zero, suc, ◌+◌, ◌*◌, ◌/◌, ◌%◌, ◌^◌, ◌<◌}
use native.Mathlib.Omega.{arith}
use native.Mathlib.Nat.{pow-suc}
use mathlib.Core.Path.{◌≡◌, refl, sym, ap, ap₂, ◌∙◌}
use mathlib.Core.Bool.{Bool, true, false}
use mathlib.Core.List.{List, [], ◌∷◌, ◌++◌, append_assoc}
use lib.ListN.{length, take, drop, length-append}
use lib.Pow.{pow-add}
use lib.Seq.{take_at, drop_at}
use Rattle.field.specs.Field.{Bytes}
use Rattle.checksum.specs.Damage.{is_one, low_bits, bits}

abbrev pub bit : Bool → ℕ
bit true = 1
bit false = 0

abbrev pub val : List Bool → ℕ
val [] = 0
val (b ∷ l) = bit b * 2 ^ length l + val l

pub val_append : (x y : List Bool) → val (x ++ y) ≡ val x * 2 ^ length y + val y
val_append [] y = omega arith
val_append (b ∷ x) y = omega (arith, val_append x y, ap (λ (n : ℕ). bit b * n) (ap (λ (n : ℕ). 2 ^ n) (length-append x y) ∙ pow-add 2 (length x) (length y)))

pub val_lt : (x : List Bool) → val x < 2 ^ length x
val_lt [] = omega arith
val_lt (true ∷ x) = omega (arith, val_lt x, pow-suc 2 (length x))
val_lt (false ∷ x) = omega (arith, val_lt x, pow-suc 2 (length x))

pub length_low : (k n : ℕ) → length (low_bits k n) ≡ k
unfolding low_bits
length_low zero n = refl
length_low (suc k) n = length-append (low_bits k (n / 2)) (is_one (n % 2) ∷ []) ∙ omega (arith, length_low k (n / 2))

bit_one : (n : ℕ) → n < 2 → bit (is_one n) ≡ n
unfolding is_one
bit_one zero h = refl
bit_one (suc n) h = omega arith

pub val_low : (k n : ℕ) → n < 2 ^ k → val (low_bits k n) ≡ n
unfolding low_bits
val_low zero n h = omega arith
val_low (suc k) n h = val_append (low_bits k (n / 2)) (is_one (n % 2) ∷ []) ∙ omega (arith, val_low k (n / 2) (omega (arith, pow-suc 2 k)), bit_one (n % 2) (omega arith))

pub length_bits : (l : List ℕ) → length (bits l) ≡ 8 * length l
unfolding bits
length_bits [] = refl
length_bits (b ∷ l) = omega (arith, length-append (low_bits 8 b) (bits l), length_low 8 b, length_bits l)

pub bits_append : (x y : List ℕ) → bits (x ++ y) ≡ bits x ++ bits y
unfolding bits
bits_append [] y = refl
bits_append (b ∷ x) y = rw (bits_append x y, append_assoc)

pow_length : (x y : List Bool) → length x ≡ length y → 2 ^ length x ≡ 2 ^ length y
pow_length x y e = ap (λ (n : ℕ). 2 ^ n) e

-- equal values: equal bits, at one length; equal bits: equal bytes
pub val_inj : (x y : List Bool) → length x ≡ length y → val x ≡ val y → x ≡ y
val_inj [] [] e h = refl
val_inj [] (b ∷ y) e h = absurd (omega arith)
val_inj (a ∷ x) [] e h = absurd (omega arith)
val_inj (true ∷ x) (true ∷ y) e h = ap (λ (l : List Bool). true ∷ l) (val_inj x y (omega arith) (omega (arith, pow_length x y (omega arith))))
val_inj (true ∷ x) (false ∷ y) e h = absurd (omega (arith, pow_length x y (omega arith), val_lt y))
val_inj (false ∷ x) (true ∷ y) e h = absurd (omega (arith, pow_length x y (omega arith), val_lt x))
val_inj (false ∷ x) (false ∷ y) e h = ap (λ (l : List Bool). false ∷ l) (val_inj x y (omega arith) (omega arith))

pub bits_inj : (x y : List ℕ) → Bytes x → Bytes y → bits x ≡ bits y → x ≡ y
unfolding bits
bits_inj [] [] p q e = refl
bits_inj [] (b ∷ y) p q e = absurd (omega (arith, ap length e, length_bits (b ∷ y)))
bits_inj (a ∷ x) [] p q e = absurd (omega (arith, ap length e, length_bits (a ∷ x)))
bits_inj (a ∷ x) (b ∷ y) p q e =
    let h = sym (take_at (low_bits 8 a) (bits x) 8 (length_low 8 a)) ∙ ap (take 8) e ∙ take_at (low_bits 8 b) (bits y) 8 (length_low 8 b) in
    let t = sym (drop_at (low_bits 8 a) (bits x) 8 (length_low 8 a)) ∙ ap (drop 8) e ∙ drop_at (low_bits 8 b) (bits y) 8 (length_low 8 b) in
    ap₂ (λ (c : ℕ) (l : List ℕ). c ∷ l) (sym (val_low 8 a p.0) ∙ ap val h ∙ val_low 8 b q.0) (bits_inj x y p.1 q.1 t)
