use Prim.Native.Nat.{◌<◌}
use native.Mathlib.Omega.{arith}
use mathlib.Core.Path.{◌≡◌, refl, ap}
use Rattle.verdict.specs.declared.Verdict.{Verdict}
use Rattle.verdict.specs.declared.Verdict.TheVariants.{Pass, NothingReturned, TooManyLost, TooManyInARow, OutageTooLong, ErrorIndicated}
use Rattle.exit_status.specs.Status.{status_of, ZeroSaysPass}
use Rattle.exit_status.proofs.zero_says_pass.Goals as goal

only_passed : (v : Verdict) → status_of v ≡ 0 → v ≡ Pass
only_passed Pass e = refl
only_passed NothingReturned e = absurd (omega arith)
only_passed (TooManyLost n most) e = absurd (omega arith)
only_passed (TooManyInARow n most) e = absurd (omega arith)
only_passed (OutageTooLong n most) e = absurd (omega arith)
only_passed (ErrorIndicated n) e = absurd (omega arith)

a_verdict : (v : Verdict) → status_of v < 2
a_verdict Pass = omega arith
a_verdict NothingReturned = omega arith
a_verdict (TooManyLost n most) = omega arith
a_verdict (TooManyInARow n most) = omega arith
a_verdict (OutageTooLong n most) = omega arith
a_verdict (ErrorIndicated n) = omega arith

zero-says-pass : ZeroSaysPass
zero-says-pass = record { passed = λ v e. ap status_of e; only_passed = only_passed; a_verdict = a_verdict }

pub returns : goal.returns
returns c = zero-says-pass
