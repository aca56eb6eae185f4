-- The step over plain numbers.
use Prim.Native.Nat.{ℕ, ◌+◌, ◌/◌, ◌≤◌}
use mathlib.Core.Path.{◌≡◌}
use native.Mathlib.Omega.{arith}
use Rattle.jitter.specs.Jitter.{largest_size, size_taken, stepped}
use Rattle.jitter.specs.Claims.{top, greatest_state}

pub size_bounded : (earlier later : ℕ) → size_taken earlier later ≤ largest_size
unfolding size_taken
size_bounded earlier later = omega arith

pub step_exact : (state d : ℕ) → stepped state d + (state + 8) / 16 ≡ state + d
unfolding stepped
step_exact state d = omega arith

pub step_fits : (state d : ℕ) → state ≤ top → d ≤ largest_size → stepped state d ≤ 17870283321406128127
unfolding stepped
step_fits state d h g = omega arith

pub step_bounded : (state d : ℕ) → state ≤ greatest_state → d ≤ largest_size → stepped state d ≤ greatest_state
unfolding stepped
step_bounded state d h g = omega arith
