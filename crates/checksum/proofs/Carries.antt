-- What `fold_of n` is: below 2 ^ 16, 0 only at 0, and less than `n` by a multiple of 65535. No other number is so.
use Prim.Native.Nat.{ℕ, zero, suc, ◌+◌, ◌-◌, ◌*◌, ◌/◌, ◌%◌, ◌<◌, ◌≤◌}
use native.Mathlib.Omega.{arith}
use native.Mathlib.Decide.{dec_lt}
use mathlib.Core.Path.{◌≡◌, refl, sym, ◌∙◌}
use mathlib.Core.Bool.{Bool, true, false}
use mathlib.Core.Logic.{◌↔◌}
use lib.Dec.{ltb}
use borrow.Author.Tests.{ltb-true, ltb-false}
use Rattle.checksum.specs.Sum.{fold_of, folding}

-- `m` is less than `n` by a multiple of 65535, and is not 0 where `n` is not
pub record Like (n m : ℕ) : Type 0 where
  pub some : 0 < n → 0 < m
  pub times : ℕ
  pub same : n ≡ m + 65535 * times

pub split : {C : Type 0} (x y : ℕ) → (x < y → C) → (y ≤ x → C) → C
split x y f g = elim (dec_lt x y) [ yes h ↦ f h | no h ↦ g (omega arith) ]

pub like_refl : (n : ℕ) → Like n n
like_refl n = record { some = λ p. p; times = 0; same = omega arith }

pub like_trans : {a b c : ℕ} → Like a b → Like b c → Like a c
like_trans p q = record { some = λ h. q.some (p.some h); times = p.times + q.times; same = omega arith }

-- a fold in the middle of a sum
pub like_add : {a b : ℕ} (n : ℕ) → Like a b → Like (a + n) (b + n)
like_add {a} {b} n p = record { some = λ h. split 0 a (λ l. omega (arith, p.some l)) (λ l. omega arith); times = p.times; same = omega arith }

-- the carries added in once
pub like_once : (n : ℕ) → Like n (n % 65536 + n / 65536)
like_once n = record { some = λ h. omega arith; times = n / 65536; same = omega arith }

-- the upper 32 bits of a number added to the lower
pub like_halves : (n : ℕ) → Like n (n % 4294967296 + n / 4294967296)
like_halves n = record { some = λ h. omega arith; times = 65537 * (n / 4294967296); same = omega arith }

folding_is : (k n : ℕ) → n ≤ k → (folding k n < 65536) × Like n (folding k n)
unfolding folding
folding_is zero n h = (omega arith, like_refl n)
folding_is (suc k) n h = go (ltb n 65536) refl (λ m. folding_is k m)
  where
    go : (b : Bool) → ltb n 65536 ≡ b → ((m : ℕ) → m ≤ k → (folding k m < 65536) × Like m (folding k m))
        → let f : ℕ = elim b [ true ↦ n | false ↦ folding k (n / 65536 + n % 65536) ] in (f < 65536) × Like n f
    go true e rec = (ltb-true n 65536 e, like_refl n)
    go false e rec =
        let p = ltb-false n 65536 e in
        let r = rec (n / 65536 + n % 65536) (omega arith) in
        (r.0, record { some = λ q. r.1.some (omega arith); times = r.1.times + n / 65536; same = omega (arith, r.1.same) })

pub fold_low : (n : ℕ) → fold_of n < 65536
unfolding fold_of
fold_low n = (folding_is n n (omega arith)).0

pub fold_like : (n : ℕ) → Like n (fold_of n)
unfolding fold_of
fold_like n = (folding_is n n (omega arith)).1

like_one : {n f g : ℕ} → f < 65536 → g < 65536 → Like n f → Like n g → f ≡ g
like_one {n} {f} {g} a b p q =
    split 0 n
    (λ h. let u = p.some h in let v = q.some h in
    split p.times q.times (λ l. omega arith) (λ l. split q.times p.times (λ k. omega arith) (λ k. omega arith)))
    (λ h. omega arith)

-- what is like `n` folds to the same, and is that where it is below 2 ^ 16
pub fold_of_like : {n m : ℕ} → Like n m → fold_of m ≡ fold_of n
fold_of_like {n} {m} p = like_one (fold_low m) (fold_low n) (like_trans p (fold_like m)) (fold_like n)

pub fold_is : {n f : ℕ} → Like n f → f < 65536 → fold_of n ≡ f
fold_is {n} {f} p h = like_one (fold_low n) h (fold_like n) p

-- what is below 2 ^ 64 has no carry left after a fold of its halves and three of words
pub fold_whole_number : (n : ℕ) {halves words once twice : ℕ} → n < 18446744073709551616
    → halves ≡ n % 4294967296 + n / 4294967296 → words ≡ halves % 65536 + halves / 65536
    → once ≡ words % 65536 + words / 65536 → twice ≡ once % 65536 + once / 65536 → twice ≡ fold_of n
fold_whole_number n {halves} {words} {once} {twice} below is_halves is_words is_once is_twice =
    let a : halves < 8589934592 = omega arith in
    let b : words < 196607 = omega arith in
    let c : once ≤ 65536 = omega arith in
    let like : Like n (once % 65536 + once / 65536) =
    like_trans (rw (← is_halves) at (like_halves n)) (like_trans (rw (← is_words) at (like_once halves)) (like_trans (rw (← is_once) at (like_once words)) (like_once once))) in
    is_twice ∙ sym (fold_is like (omega arith))

-- two 16-bit words as one number of 32 bits, in the middle of a sum
pub fold_words : (n a b : ℕ) → fold_of (n + (a * 65536 + b)) ≡ fold_of (n + (a + b))
fold_words n a b = sym (fold_of_like (record { some = λ h. omega arith; times = a; same = omega arith }))

-- in closed form; and when it is nothing but ones
pub fold_suc : (n : ℕ) → fold_of (suc n) ≡ suc (n % 65535)
fold_suc n = fold_is (record { some = λ h. omega arith; times = n / 65535; same = omega arith }) (omega arith)

pub fold_ones : (n : ℕ) → (fold_of n ≡ 65535) ↔ ((0 < n) × (n % 65535 ≡ 0))
fold_ones n = (
  λ e. omega (arith, (fold_like n).same),
  (λ h. fold_is (record { some = λ p. omega arith; times = n / 65535 - 1; same = omega arith }) (omega arith)),
)

-- a sum that is folded as it goes
pub fold_add : (n k : ℕ) → fold_of (fold_of n + k) ≡ fold_of (n + k)
fold_add n k = fold_of_like (like_add k (fold_like n))

-- a sum with its own ones' complement added folds to nothing but ones: how a message that holds its checksum is verified
pub fold_whole : (n : ℕ) → fold_of (n + (65535 - fold_of n)) ≡ 65535
fold_whole n =
    fold_is (record { some = λ p. omega arith; times = (fold_like n).times; same = omega (arith, (fold_like n).same, fold_low n) }) (omega arith)

-- equal but for multiples of 65535
pub record Same (a b : ℕ) : Type 0 where
  pub left : ℕ
  pub right : ℕ
  pub eq : a + 65535 * left ≡ b + 65535 * right

pub fold_same : (a b : ℕ) → fold_of a ≡ fold_of b → Same a b
fold_same a b e =
    record { left = (fold_like b).times; right = (fold_like a).times; eq = omega (arith, (fold_like a).same, (fold_like b).same) }
