-- The checksum finds every burst: bits turned within one span of at most 16 neighbouring bits.
-- The bytes are read as one number, in base 2. As 2 ^ 16 is 1 modulo 65535, the sum of the words is that number (with a zero byte behind
-- it, if the count of bytes is odd), and as 2 has an inverse there, equal sums have equal spans.
use Prim.Native.Nat.{ℕ, zero, suc, ◌+◌, ◌*◌, ◌^◌, ◌<◌, ◌≤◌}
use native.Mathlib.Omega.{arith}
use native.Mathlib.Nat.{pow-suc}
use mathlib.Core.Path.{◌≡◌, refl, sym, ap, ◌∙◌}
use mathlib.Core.Bool.{Bool, true, false, not}
use mathlib.Core.Logic.{◌⊎◌, inl, inr, ⊎_elim}
use mathlib.Core.List.{List, [], ◌∷◌, ◌++◌}
use lib.ListN.{length, replicate, length-append}
use lib.Pow.{pow-add, pow_mono}
use Rattle.field.specs.Field.{Bytes}
use Rattle.checksum.specs.Sum.{sum_of, fold_of}
use Rattle.checksum.specs.Damage.{low_bits, bits, Turned}
use Rattle.checksum.proofs.Carries.{Same, fold_same, split}
use Rattle.checksum.proofs.Bits.{val, val_append, val_lt, val_low, val_inj, bits_inj, length_low, length_bits}

same_refl : (a : ℕ) → Same a a
same_refl a = record { left = 0; right = 0; eq = refl }

same_sym : {a b : ℕ} → Same a b → Same b a
same_sym p = record { left = p.right; right = p.left; eq = omega arith }

same_trans : {a b c : ℕ} → Same a b → Same b c → Same a c
same_trans p q = record { left = p.left + q.left; right = p.right + q.right; eq = omega arith }

same_add : {a b c d : ℕ} → Same a b → Same c d → Same (a + c) (b + d)
same_add p q = record { left = p.left + q.left; right = p.right + q.right; eq = omega arith }

same_mul : {a b : ℕ} (c : ℕ) → Same a b → Same (c * a) (c * b)
same_mul {a} {b} c p = record { left = c * p.left; right = c * p.right; eq = omega (arith, ap (λ (n : ℕ). c * n) p.eq) }

-- 2 has an inverse, 32768
same_half : {a b : ℕ} → Same (a * 2) (b * 2) → Same a b
same_half {a} {b} p = record { left = a + 32768 * p.left; right = b + 32768 * p.right; eq = omega arith }

same_halves : (k : ℕ) {a b : ℕ} → Same (a * 2 ^ k) (b * 2 ^ k) → Same a b
same_halves zero {a} {b} p = record { left = p.left; right = p.right; eq = omega (arith, p.eq) }
same_halves (suc k) {a} {b} p =
    same_halves k (same_half (record { left = p.left; right = p.right; eq = omega (arith, p.eq, pow-suc 2 k, ap (λ (n : ℕ). a * n) (pow-suc 2 k), ap (λ (n : ℕ). b * n) (pow-suc 2 k)) }))

-- the bits that are missing in the last word
missing : ℕ → ℕ
missing zero = 0
missing (suc zero) = 8
missing (suc (suc n)) = missing n

sixteen : (n m : ℕ) → 8 * suc (suc n) + m ≡ 16 + (8 * n + m)
sixteen n m = omega arith

-- these bits are whole words, and a power of 2 ^ 16 is 1
whole : (n : ℕ) → Same (2 ^ (8 * n + missing n)) 1
unfolding missing
whole zero = record { left = 0; right = 0; eq = refl }
whole (suc zero) = record { left = 0; right = 1; eq = refl }
whole (suc (suc n)) = same_trans (record { left = 0; right = 2 ^ (8 * n + missing n); eq = omega (arith, ap (λ (k : ℕ). 2 ^ k) (sixteen n (missing n)) ∙ pow-add 2 16 (8 * n + missing n)) }) (whole n)

val_byte : (a : ℕ) (x : List Bool) → a < 256 → val (low_bits 8 a ++ x) ≡ a * 2 ^ length x + val x
val_byte a x h = val_append (low_bits 8 a) x ∙ ap (λ (n : ℕ). n * 2 ^ length x + val x) (val_low 8 a h)

val_word : (a b : ℕ) (x : List Bool) → a < 256 → b < 256 → val (low_bits 8 a ++ (low_bits 8 b ++ x)) ≡ (a * 256 + b) * 2 ^ length x + val x
val_word a b x h k =
    omega (arith, val_byte a (low_bits 8 b ++ x) h, val_byte b x k, ap (λ (n : ℕ). a * n) (ap (λ (n : ℕ). 2 ^ n) (behind b x) ∙ pow-add 2 8 (length x)))
  where
    behind : (b : ℕ) (x : List Bool) → length (low_bits 8 b ++ x) ≡ 8 + length x
    behind b x = length-append (low_bits 8 b) x ∙ ap (λ (n : ℕ). n + length x) (length_low 8 b)

-- the bytes as one number, and their words' sum
val_sum : (l : List ℕ) → Bytes l → Same (val (bits l) * 2 ^ missing (length l)) (sum_of l)
unfolding missing bits sum_of
val_sum [] p = record { left = 0; right = 0; eq = refl }
val_sum (a ∷ []) p = record { left = 0; right = 0; eq = omega (arith, val_byte a [] p.0) }
val_sum (a ∷ b ∷ l) p = rw (joined a b l p.0 p.1.0) (same_add (word a b l) (val_sum l p.1.1))
  where
    joined : (a b : ℕ) (l : List ℕ) → a < 256 → b < 256
        → val (low_bits 8 a ++ (low_bits 8 b ++ bits l)) * 2 ^ missing (length l)
        ≡ (a * 256 + b) * 2 ^ (8 * length l + missing (length l)) + val (bits l) * 2 ^ missing (length l)
    joined a b l h k =
        let m = missing (length l) in
        let e = ap (λ (n : ℕ). 2 ^ n * 2 ^ m) (length_bits l) ∙ sym (pow-add 2 (8 * length l) m) in
        omega (arith, ap (λ (n : ℕ). n * 2 ^ m) (val_word a b (bits l) h k), ap (λ (n : ℕ). (a * 256 + b) * n) e)

    word : (a b : ℕ) (l : List ℕ) → Same ((a * 256 + b) * 2 ^ (8 * length l + missing (length l))) (a * 256 + b)
    word a b l = same_trans (same_mul (a * 256 + b) (whole (length l))) (record { left = 0; right = 0; eq = omega arith })

-- two numbers below 2 ^ 16
near : {a b : ℕ} → a < 65536 → b < 65536 → Same a b → ((a ≡ b) ⊎ (((a ≡ 0) × (b ≡ 65535)) ⊎ ((a ≡ 65535) × (b ≡ 0))))
near {a} {b} h k p =
    split p.left p.right (λ l. inr (inr (omega arith)))
    (λ l. split p.right p.left (λ m. inr (inl (omega arith))) (λ m. inl (omega arith)))

-- bits of which the number is 65535 are 16 ones, if they are no more; and as many zeros are the number 0
ones : (x : List Bool) → length x ≤ 16 → val x ≡ 65535 → length x ≡ 16
ones x h e =
    split (length x) 16 (λ l. absurd (omega (arith, val_lt x, pow_mono {i = length x} {j = 15} (omega arith)))) (λ l. omega arith)

repeated : (b : Bool) (x : List Bool) → length x ≡ 16 → val x ≡ val (replicate 16 b) → x ≡ replicate 16 b
repeated b x h e = val_inj x (replicate 16 b) h e

same_spans : (w v : List Bool) → length w ≤ 16 → length v ≡ length w → ((b : Bool) → w ≡ replicate 16 b → v ≡ replicate 16 (not b) → ⊥)
    → Same (val w) (val v) → v ≡ w
same_spans w v h e not_all p =
    ⊎_elim (λ q. val_inj v w e (sym q))
    (⊎_elim
    (λ q. let n = ones v (omega arith) q.1 in absurd (not_all false (repeated false w (omega arith) q.0) (repeated true v n q.1)))
    (λ q. let n = ones w h q.0 in absurd (not_all true (repeated true w n q.0) (repeated false v (omega arith) q.1))))
    (near (below w h) (below v (omega arith)) p)
  where
    below : (x : List Bool) → length x ≤ 16 → val x < 65536
    below x h = omega (arith, val_lt x, pow_mono {i = length x} {j = 16} h)

-- the same in front and behind
between : (p w v s : List Bool) → length v ≡ length w → Same (val (p ++ (w ++ s))) (val (p ++ (v ++ s))) → Same (val w) (val v)
between p w v s e h =
    same_halves (length s)
    (record {
      left = h.left;
      right = h.right;
      eq = omega (arith, h.eq, all w, all v, ap (λ (n : ℕ). val p * 2 ^ n) same_behind);
    })
  where
    all : (x : List Bool) → val (p ++ (x ++ s)) ≡ val p * 2 ^ length (x ++ s) + (val x * 2 ^ length s + val s)
    all x = val_append p (x ++ s) ∙ ap (λ (n : ℕ). val p * 2 ^ length (x ++ s) + n) (val_append x s)

    same_behind : length (v ++ s) ≡ length (w ++ s)
    same_behind = length-append v s ∙ ap (λ (n : ℕ). n + length s) e ∙ sym (length-append w s)

pub burst_same : (sent arrived : List ℕ) → Bytes sent → Turned sent arrived → Same (sum_of sent) (sum_of arrived) → arrived ≡ sent
burst_same sent arrived b t h =
    let n = same_halves (missing (length sent))
    (same_trans (val_sum sent b) (same_trans h (same_sym (rw t.same_length at (val_sum arrived t.bytes))))) in
    let w = between t.before t.span t.turned t.after t.same_span (rw (t.sent_bits, t.arrived_bits) at n) in
    let e = same_spans t.span t.turned (omega (arith, t.short)) t.same_span t.not_all w in
    bits_inj arrived sent t.bytes b (t.arrived_bits ∙ ap (λ (x : List Bool). t.before ++ (x ++ t.after)) e ∙ sym t.sent_bits)

pub burst : (sent arrived : List ℕ) → Bytes sent → Turned sent arrived → fold_of (sum_of sent) ≡ fold_of (sum_of arrived) → arrived ≡ sent
burst sent arrived b t e = burst_same sent arrived b t (fold_same (sum_of sent) (sum_of arrived) e)
