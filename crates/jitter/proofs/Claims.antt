-- What is claimed of the jitter, proved.
use Prim.Native.Nat.{ℕ}
use mathlib.Core.Path.{refl}
use native.Mathlib.Omega.{arith}
use Rattle.jitter.specs.Jitter.{size_taken, stepped}
use Rattle.jitter.specs.Claims.{Exact, Ends, DifferenceExact, IsRfc3550, StepFits, Bounded, Reached, FirstOfZero}
use Rattle.jitter.proofs.Steps.{size_bounded, step_exact, step_fits, step_bounded}
use Rattle.jitter.proofs.Lists.{list_bounded}

exact : (earlier later : ℕ) → Exact earlier later
unfolding size_taken
exact earlier later = record { up = λ h. omega arith; down = λ h. omega arith; small = λ h. omega arith; large = λ h. omega arith }

ends : Ends
unfolding size_taken
ends = record {
  highest = refl;
  lowest = refl;
  highest_taken = refl;
  lowest_taken = refl;
  below_the_limit = refl;
  at_the_limit = refl;
  above_the_limit = refl;
  at_the_limit_down = refl;
  above_the_limit_down = refl;
}

pub difference_exact : DifferenceExact
difference_exact = (exact, ends)

pub is_rfc_3550 : IsRfc3550
is_rfc_3550 si ri sj rj h g = record { same = omega arith; same_size = omega arith }

pub step_fits_all : StepFits
unfolding stepped
step_fits_all = record {
  every_state = λ state d. record { exact = step_exact state d; fits = step_fits state d };
  greatest = refl;
}

pub bounded : Bounded
bounded = record {
  each_step = λ state earlier later h. step_bounded state (size_taken earlier later) h (size_bounded earlier later);
  every_list = list_bounded;
}

pub reached : Reached
unfolding stepped size_taken
reached = record { top_reached = refl; not_sooner = refl; stays = refl }

pub first_of_zero : FirstOfZero
unfolding stepped size_taken
first_of_zero = record { state = refl; shown = refl }
