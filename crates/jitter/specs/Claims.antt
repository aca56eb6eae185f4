-- What is claimed of the jitter (document 02, job 2). proofs/Claims.antt proves each claim.
use Rattle.std.specs.Prelude.{ℕ, zero, suc, ◌+◌, ◌-◌, ◌/◌, ◌≤◌, ◌≡◌, List, [], ◌∷◌}
use Rattle.jitter.specs.Integer.{Integer, less, less_integer, Same, size}
use Rattle.jitter.specs.Jitter.{difference, largest_size, size_taken, stepped, jitter_shown, jitter_of}

-- the top of a u64, 2^64 - 1
abbrev pub top : ℕ
top = 18446744073709551615

-- 2^63
abbrev pub greatest_state : ℕ
greatest_state = 9223372036854775808

-- ---- "D is exact at both ends of its range"

-- From one latency to the other it is the size of D, up or down: nothing wraps, and nothing is cut off.
pub record Exact (earlier later : ℕ) : Type 0 where
  pub up : earlier ≤ later → earlier + size (difference earlier later) ≡ later
  pub down : later ≤ earlier → later + size (difference earlier later) ≡ earlier
  -- "Its size is taken as at most 2^59."
  pub small : size (difference earlier later) ≤ largest_size
      → size_taken earlier later ≡ size (difference earlier later)
  pub large : largest_size ≤ size (difference earlier later) → size_taken earlier later ≡ largest_size

-- The two ends of the range, and the limit.
pub record Ends : Type 0 where
  pub highest : size (difference 0 top) ≡ top
  pub lowest : size (difference top 0) ≡ top
  pub highest_taken : size_taken 0 top ≡ 576460752303423488
  pub lowest_taken : size_taken top 0 ≡ 576460752303423488
  pub below_the_limit : size_taken 0 576460752303423487 ≡ 576460752303423487
  pub at_the_limit : size_taken 0 576460752303423488 ≡ 576460752303423488
  pub above_the_limit : size_taken 0 576460752303423489 ≡ 576460752303423488
  pub at_the_limit_down : size_taken 576460752303423488 0 ≡ 576460752303423488
  pub above_the_limit_down : size_taken 576460752303423489 0 ≡ 576460752303423488

abbrev pub DifferenceExact : Type 0
DifferenceExact = ((earlier later : ℕ) → Exact earlier later) × Ends

-- ---- RFC 3550, section 6.4.1

-- "D(i,j) = (Rj - Ri) - (Sj - Si)", where S is the time of sending and R that of arrival. With the two latencies it is
-- the same integer, and so has the same size.
abbrev pub rfc3550_difference : ℕ → ℕ → ℕ → ℕ → Integer
rfc3550_difference si ri sj rj = less_integer (less rj ri) (less sj si)

pub record OfTimes (si ri sj rj : ℕ) : Type 0 where
  pub same : Same (difference (ri - si) (rj - sj)) (rfc3550_difference si ri sj rj)
  pub same_size : size (difference (ri - si) (rj - sj)) ≡ size (rfc3550_difference si ri sj rj)

abbrev pub IsRfc3550 : Type 0
IsRfc3550 = (si ri sj rj : ℕ) → si ≤ ri → sj ≤ rj → OfTimes si ri sj rj

-- ---- the step

-- What is taken off is there to be taken, so the difference is exact; and from every state of a u64 the next one is a
-- u64 too, the greatest from 2^64 - 1.
pub record Fits (state d : ℕ) : Type 0 where
  pub exact : stepped state d + (state + 8) / 16 ≡ state + d
  pub fits : state ≤ top → d ≤ largest_size → stepped state d ≤ 17870283321406128127

pub record StepFits : Type 0 where
  pub every_state : (state d : ℕ) → Fits state d
  pub greatest : stepped top largest_size ≡ 17870283321406128127

-- ---- "from a fresh sheet the state never passes 2^63"

pub record Bounded : Type 0 where
  pub each_step : (state earlier later : ℕ) → state ≤ greatest_state
      → stepped state (size_taken earlier later) ≤ greatest_state
  pub every_list : (latencies : List ℕ) → (jitter_of latencies).scaled_jitter_ns ≤ greatest_state

-- n latencies of 0 and 2^59 in turn
abbrev pub in_turns : ℕ → List ℕ
in_turns zero = []
in_turns (suc zero) = 0 ∷ []
in_turns (suc (suc n)) = 0 ∷ largest_size ∷ in_turns n

-- What is reached of it: 2^63 - 8, and there it stays.
pub record Reached : Type 0 where
  pub top_reached : (jitter_of (in_turns 644)).scaled_jitter_ns ≡ 9223372036854775800
  pub not_sooner : (jitter_of (in_turns 643)).scaled_jitter_ns ≡ 9223372036854775799
  pub stays : stepped 9223372036854775800 largest_size ≡ 9223372036854775800

-- ---- latency 0 is a latency like any other

-- A first return of latency 0, and then one of 16: D is 16, and so is the state.
pub record FirstOfZero : Type 0 where
  pub state : jitter_of (0 ∷ 16 ∷ []) ≡ record { scaled_jitter_ns = 16; earlier_latency_ns = 16 }
  pub shown : jitter_shown (jitter_of (0 ∷ 16 ∷ [])) ≡ 1
