-- The report (the Rust's `ContinuityObserver::report`): document 01, leaf 7, over the used rows and the counts of an
-- observer.
use Rattle.std.specs.Prelude.{ℕ, suc, ◌+◌, ◌-◌, ◌/◌, min, max, List, [], ◌∷◌, map, Bool, true, false, ◌&&◌, leb, ltb, eqb, length}
use Rattle.std.proofs.Math.Option.{Option, some, none}
use Rattle.error.specs.Outcome.{Outcome, gives}
use Rattle.evidence.specs.Latency.{latency_for}
use Rattle.evidence.specs.declared.LatencySummary.{LatencySummary}
use Rattle.evidence.specs.declared.PacketContinuityBudget.{PacketContinuityBudget}
use Rattle.evidence.specs.declared.PacketContinuityReport.{PacketContinuityReport}
use Rattle.observer.specs.Observer.{Row, Observer, rows}
use Rattle.observer.specs.Judge.{judged}
use Rattle.observer.specs.declared.ObserverCounts.{ObserverCounts}

-- ---- latencies

-- the latencies of the rows that returned
abbrev pub latencies_of : List Row → List ℕ
latencies_of [] = []
latencies_of (r ∷ rs) = elim (eqb r.mark 1) [ true ↦ r.latency ∷ latencies_of rs | false ↦ latencies_of rs ]

abbrev pub total : List ℕ → ℕ
total [] = 0
total (x ∷ xs) = x + total xs

abbrev pub greatest : List ℕ → ℕ
greatest [] = 0
greatest (x ∷ xs) = max x (greatest xs)

-- the least of a first number and others
abbrev pub least : ℕ → List ℕ → ℕ
least x [] = x
least x (y ∷ ys) = min x (least y ys)

-- "Latency: minimum, maximum, mean rounded down; absent without returns."
abbrev pub latency_of : List ℕ → Option LatencySummary
latency_of [] = none
latency_of (x ∷ xs) =
    some (record { min_ns = least x xs; max_ns = greatest (x ∷ xs); avg_ns = total (x ∷ xs) / length (x ∷ xs) })

-- ---- runs of rows that did not return

-- how many rows, and for how long
pub record Run : Type 0 where
  pub packets : ℕ
  pub duration : ℕ

-- how many unmarked rows stand in front
abbrev pub leading : List Row → ℕ
leading [] = 0
leading (r ∷ rs) = elim (eqb r.mark 1) [ true ↦ 0 | false ↦ suc (leading rs) ]

-- "the send time of the marked row after it, or .. window end if none"
abbrev pub run_end : ℕ → List Row → ℕ
run_end window_end [] = window_end
run_end window_end (r ∷ rs) = elim (eqb r.mark 1) [ true ↦ r.send_timestamp_ns | false ↦ run_end window_end rs ]

-- The runs. `within` says whether the row just before is unmarked: a run begins at each unmarked row that does not
-- follow another. "A run of unmarked rows lasts from its first send time to the send time of the marked row after it,
-- or to window end if none, never below 0." Only rows count, and no sequence numbers between them; send times may fall
-- from row to row.
abbrev pub runs_in : ℕ → Bool → List Row → List Run
runs_in window_end within [] = []
runs_in window_end within (r ∷ rs) =
    elim (eqb r.mark 1) [
      | true ↦ runs_in window_end false rs
      | false ↦
          elim within [
            | true ↦ runs_in window_end true rs
            | false ↦
                record { packets = suc (leading rs); duration = run_end window_end rs - r.send_timestamp_ns }
                ∷ runs_in window_end true rs
          ]
    ]

abbrev pub runs : ℕ → List Row → List Run
runs window_end rs = runs_in window_end false rs

-- ---- the report

-- "Continuity: lost, longest run and longest duration within budget and no error indication."
abbrev pub within_budget : PacketContinuityBudget → ℕ → ℕ → ℕ → ℕ → Bool
within_budget budget lost run outage indications =
    leb lost budget.max_lost_packets
    && (leb run budget.max_consecutive_lost_packets
    && (leb outage budget.outage_budget_ns && eqb indications 0))

-- The report on these rows and counts, for a window and a budget. "Lost is sent less returned." "Longest count and
-- longest duration may be different runs." "Forwarding: returned above 0."
unfoldable pub report_of : List Row → ObserverCounts → ℕ → ℕ → PacketContinuityBudget → PacketContinuityReport
report_of rs counts window_start window_end budget =
    let sent : ℕ = length rs in
    let returned : ℕ = length (latencies_of rs) in
    let run : ℕ = greatest (map (λ x. x.packets) (runs window_end rs)) in
    let outage : ℕ = greatest (map (λ x. x.duration) (runs window_end rs)) in
    record {
      window_start_ns = window_start;
      window_end_ns = window_end;
      sent_packets = sent;
      received_packets = returned;
      lost_packets = sent - returned;
      duplicate_packets = counts.duplicate_packets;
      out_of_order_packets = counts.out_of_order_packets;
      gtpu_error_indications = counts.gtpu_error_indications;
      max_consecutive_lost_packets = run;
      max_gap_duration_ns = outage;
      latency = latency_for (latency_of (latencies_of rs));
      budget = budget;
      forwarding_proven = ltb 0 returned;
      packet_continuity_proven = within_budget budget (sent - returned) run outage counts.gtpu_error_indications;
    }

-- The call: "Every call, the report too, judges 21 first".
unfoldable pub reporting : Observer → ℕ → ℕ → PacketContinuityBudget → Outcome PacketContinuityReport
reporting o window_start window_end budget =
    judged o (gives (report_of (rows o) o.counts window_start window_end budget))
