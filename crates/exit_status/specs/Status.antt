-- The exit status of the command `rehearse` by its verdict: 0 where the run passed, else 1.
use Rattle.std.specs.Prelude.{ℕ, ◌<◌, ◌≡◌}
use Rattle.verdict.specs.declared.Verdict.{Verdict}
use Rattle.verdict.specs.declared.Verdict.TheVariants.{Pass, NothingReturned, TooManyLost, TooManyInARow}
use Rattle.verdict.specs.declared.Verdict.TheVariants.{OutageTooLong, ErrorIndicated}
use Rattle.exit_status.specs.declared.ExitStatus.{ExitStatus}
use Rattle.exit_status.specs.declared.ExitStatus.TheVariants.{Passed, Failed, NotAccepted, NoRun}

-- The number that the process ends with.
abbrev pub number_of : ExitStatus → ℕ
number_of Passed = 0
number_of Failed = 1
number_of NotAccepted = 2
number_of NoRun = 3

-- The number of a verdict's status.
abbrev pub status_of : Verdict → ℕ
status_of Pass = 0
status_of NothingReturned = 1
status_of (TooManyLost n most) = 1
status_of (TooManyInARow n most) = 1
status_of (OutageTooLong n most) = 1
status_of (ErrorIndicated n) = 1

-- A script that sees 0 drives on, so 0 says PASS and no other verdict has it. And every verdict is below 2: the
-- statuses from there on say that there was none.
pub record ZeroSaysPass : Type 0 where
  pub passed : (v : Verdict) → v ≡ Pass → status_of v ≡ 0
  pub only_passed : (v : Verdict) → status_of v ≡ 0 → v ≡ Pass
  pub a_verdict : (v : Verdict) → status_of v < 2
