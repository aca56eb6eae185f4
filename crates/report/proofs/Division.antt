-- A sum divided by n, in digits of 32 bits.
use Prim.Native.Nat.{ℕ, ◌+◌, ◌*◌, ◌/◌, ◌%◌, ◌≤◌, ◌<◌}
use mathlib.Core.Path.{◌≡◌, sym, ap, ◌∙◌}
use native.Mathlib.Nat.{mul_right_comm, div-add-mod', mod-lt, div-lt_iff_lt-mul, mul-add-div_right}
use native.Mathlib.Omega.{arith}

module _ (sum n : ℕ) (below : sum < n * 18446744073709551616) (few : n ≤ 2048) where
  abbrev front : ℕ
  front = sum / 4294967296

  abbrev back : ℕ
  back = front % n * 4294967296 + sum % 4294967296

  rest_below : front % n < n
  rest_below = mod-lt front (omega arith)

  pub front_below : front / n < 4294967296
  front_below = (div-lt_iff_lt-mul {k = n} {x = front} {y = 4294967296} (omega arith)).1 (omega arith)

  pub back_below : back / n < 4294967296
  back_below = (div-lt_iff_lt-mul {k = n} {x = back} {y = 4294967296} (omega arith)).1 (omega (arith, rest_below))

  swapped : front / n * 4294967296 * n ≡ front / n * n * 4294967296
  swapped = mul_right_comm (front / n) 4294967296 n

  split : sum ≡ front / n * 4294967296 * n + back
  split = omega (arith, swapped, div-add-mod' front n)

  pub mean_is : front / n * 4294967296 + back / n ≡ sum / n
  mean_is = sym (ap (λ (x : ℕ). x / n) split ∙ mul-add-div_right (omega arith) (front / n * 4294967296) back)

pub ruleset mean_rules = (front_below, back_below, mean_is)
