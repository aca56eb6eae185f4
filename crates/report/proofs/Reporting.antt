-- The report: leaf 7's definitions over the used rows are what the loops compute over the columns.
use Prim.Native.Nat.{ℕ, ◌-◌, ◌≤◌}
use mathlib.Core.Path.{◌≡◌, sym, ap, ◌∙◌}
use mathlib.Core.List.{List, map}
use mathlib.Core.Bool.{true, false}
use native.Mathlib.Omega.{arith}
use lib.Dec.{ltb}
use lib.ListN.{length, take, length-take}
use lib.Seq.{length-take-le}
use Rattle.error.specs.Number.{malformed_observer}
use Rattle.error.specs.Outcome.{refused, gives}
use Rattle.std.specs.Prelude as code
use Rattle.evidence.specs.Latency.{latency_for}
use Rattle.evidence.specs.declared.LatencySummary.{LatencySummary}
use Rattle.evidence.specs.declared.PacketContinuityBudget.{PacketContinuityBudget}
use Rattle.evidence.specs.declared.PacketContinuityReport.{PacketContinuityReport}
use Rattle.rows.specs.Columns.{columns_lent}
use Rattle.rows.specs.declared.Sheet.{Sheet}
use Rattle.observer.specs.Answer.{observer_of}
use Rattle.observer.specs.declared.ObserverCounts.{ObserverCounts}
use Rattle.observer.specs.Observer.{Observer, rows}
use Rattle.observer.specs.Judge.{well_formed}
use Rattle.report.specs.Report.{latencies_of, latency_of, greatest, runs, within_budget, report_of, reporting}
use Rattle.report.specs.Loops.{marked_of, longest_in, outage_in}
use Rattle.observer.proofs.Judging.{Well, well}
use Rattle.observer.proofs.Calls.{judged_malformed, judged_well}
use Rattle.report.proofs.Latencies.{marked_of_lem, few_marked}
use Rattle.report.proofs.Runs.{longest_of_lem, outage_of}

pub reported_malformed : (o : Observer) (start end : ℕ) (budget : PacketContinuityBudget) → well_formed o ≡ false
    → refused malformed_observer ≡ reporting o start end budget
unfolding reporting
reported_malformed o start end budget e = judged_malformed o _ e

module _ {o : Observer} (w : Well o) where
  -- the latencies that the loop gathers
  abbrev pub gathered : List ℕ
  gathered = marked_of (take o.counts.used o.columns.latencies) (take o.counts.used o.columns.marks)

  pub few_gathered : length gathered ≤ o.counts.used
  few_gathered =
      omega (
        arith,
        few_marked (take o.counts.used o.columns.latencies) (take o.counts.used o.columns.marks),
        length-take o.counts.used o.columns.latencies,
      )

  latencies_are : latencies_of (rows o) ≡ gathered
  latencies_are = rw (marked_of_lem (rows o), w.fronts.latencies, w.fronts.marks)

  longest_is : (end : ℕ) → greatest (map (λ x. x.packets) (runs end (rows o))) ≡ longest_in 0 (take o.counts.used o.columns.marks)
  longest_is end = longest_of_lem end (rows o) ∙ ap (longest_in 0) w.fronts.marks

  outage_is : (end : ℕ) → greatest (map (λ x. x.duration) (runs end (rows o)))
      ≡ outage_in end 0 0 (take o.counts.used o.columns.send_timestamps) (take o.counts.used o.columns.marks)
  outage_is end = outage_of end (rows o) ∙ rw (w.fronts.send_timestamps, w.fronts.marks)

  pub reported : (start end : ℕ) (budget : PacketContinuityBudget) (n run outage : ℕ) (latency : code.Option LatencySummary)
      → n ≡ length gathered → run ≡ longest_in 0 (take o.counts.used o.columns.marks)
      → outage ≡ outage_in end 0 0 (take o.counts.used o.columns.send_timestamps) (take o.counts.used o.columns.marks) → latency ≡ latency_for (latency_of gathered)
      → gives
      (record {
        window_start_ns = start;
        window_end_ns = end;
        sent_packets = o.counts.used;
        received_packets = n;
        lost_packets = o.counts.used - n;
        duplicate_packets = o.counts.duplicate_packets;
        out_of_order_packets = o.counts.out_of_order_packets;
        gtpu_error_indications = o.counts.gtpu_error_indications;
        max_consecutive_lost_packets = run;
        max_gap_duration_ns = outage;
        latency = latency;
        budget = budget;
        forwarding_proven = ltb 0 n;
        packet_continuity_proven = within_budget budget (o.counts.used - n) run outage o.counts.gtpu_error_indications;
      })
      ≡ reporting o start end budget
  unfolding reporting report_of
  reported start end budget n run outage latency en er eo el =
      rw (en, er, eo, el)
      (sym (ap (λ (x : PacketContinuityReport). gives x) (rw (w.fronts.count, latencies_are, longest_is end, outage_is end)))
      ∙ judged_well o _ w.accepted)

-- what is known of a lent sheet that 21 does not refuse: its observer, and how long the front of each column is
pub record Passed (sheet : Sheet) (counts : ObserverCounts) : Type 0 where
  pub well : Well (observer_of (columns_lent sheet) counts)
  pub sequences : length (take counts.used sheet.sequences.now) ≡ counts.used
  pub marks : length (take counts.used sheet.marks.now) ≡ counts.used
  pub latencies : length (take counts.used sheet.latencies.now) ≡ counts.used
  pub send_timestamps : length (take counts.used sheet.send_timestamps.now) ≡ counts.used
  pub most : counts.used ≤ 2048

pub passed : (sheet : Sheet) (counts : ObserverCounts) → well_formed (observer_of (columns_lent sheet) counts) ≡ true → Passed sheet counts
passed sheet counts e =
    let w = well (observer_of (columns_lent sheet) counts) e in
    record {
      well = w;
      sequences = length-take-le _ _ w.room.sequences;
      marks = length-take-le _ _ w.room.marks;
      latencies = length-take-le _ _ w.room.latencies;
      send_timestamps = length-take-le _ _ w.room.send_timestamps;
      most = w.room.most;
    }

pub ruleset passing = (passed, few_marked, reported_malformed)
