-- What a verdict says of the report that it is on. A crew reads one verdict and drives on, so a loss that is shown as
-- a pass puts a broken path into service. proofs/Claims.antt proves each claim.
--
-- Both are of every report, also of one whose two statements do not follow from its figures: what continuity means in
-- figures is leaf 7's and stands in the crate `report`, on which this one does not rest.
use Rattle.std.specs.Prelude.{ℕ, ◌≤◌, ◌<◌, ◌≡◌, true, false}
use Rattle.evidence.specs.declared.PacketContinuityReport.{PacketContinuityReport}
use Rattle.verdict.specs.Verdict.{verdict_of}
use Rattle.verdict.specs.declared.Verdict.TheVariants.{Pass, NothingReturned, TooManyLost, TooManyInARow}
use Rattle.verdict.specs.declared.Verdict.TheVariants.{OutageTooLong, ErrorIndicated}

-- PASS where the report says that forwarding and continuity are both proven, and nowhere else. A run from which
-- nothing returned is called that, also where its budget allows every loss.
pub record Judged (r : PacketContinuityReport) : Type 0 where
  pub kept : r.forwarding_proven ≡ true → r.packet_continuity_proven ≡ true → verdict_of r ≡ Pass
  pub broken : r.packet_continuity_proven ≡ false → verdict_of r ≡ Pass → ⊥
  pub nothing : r.forwarding_proven ≡ false → verdict_of r ≡ NothingReturned
  pub something : r.forwarding_proven ≡ true → verdict_of r ≡ NothingReturned → ⊥

abbrev pub PassesIfKept : Type 0
PassesIfKept = (r : PacketContinuityReport) → Judged r

-- These are the report's number and its budget's, and the number is above the budget's.
pub record Exceeds (number most : ℕ) (n m : ℕ) : Type 0 where
  pub the_number : n ≡ number
  pub the_budget : m ≡ most
  pub above : most < number

-- A reason is true: the numbers beside it are the report's and the budget's, in this order, and the first is above the
-- second. And it is the first: what the budget names before it was kept.
pub record Reasons (r : PacketContinuityReport) : Type 0 where
  pub lost : (n m : ℕ) → verdict_of r ≡ TooManyLost n m
      → Exceeds r.lost_packets r.budget.max_lost_packets n m
  pub in_a_row : (n m : ℕ) → verdict_of r ≡ TooManyInARow n m
      → Exceeds r.max_consecutive_lost_packets r.budget.max_consecutive_lost_packets n m
      × (r.lost_packets ≤ r.budget.max_lost_packets)
  pub outage : (n m : ℕ) → verdict_of r ≡ OutageTooLong n m
      → Exceeds r.max_gap_duration_ns r.budget.outage_budget_ns n m
      × (r.lost_packets ≤ r.budget.max_lost_packets)
      × (r.max_consecutive_lost_packets ≤ r.budget.max_consecutive_lost_packets)
  pub indicated : (n : ℕ) → verdict_of r ≡ ErrorIndicated n
      → (n ≡ r.gtpu_error_indications)
      × (r.lost_packets ≤ r.budget.max_lost_packets)
      × (r.max_consecutive_lost_packets ≤ r.budget.max_consecutive_lost_packets)
      × (r.max_gap_duration_ns ≤ r.budget.outage_budget_ns)

abbrev pub ReasonsAreTrue : Type 0
ReasonsAreTrue = (r : PacketContinuityReport) → Reasons r
