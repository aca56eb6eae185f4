-- The tally ("tally" is document 01's word): what a run must show, from the plan's packets and the list of returns.
-- Defined from the section "The tally" alone, in its words. It has no search and no call of the observer: the row of a
-- return is the row of its packet, by its place in the plan, and the reader is asked only whether it refuses.
use Rattle.std.specs.Prelude.{ℕ, ◌-◌, List, [], ◌∷◌, map, Bool, true, false, ◌&&◌, ◌||◌, eqb, ltb, length, get_or, set}
use Rattle.error.specs.Outcome.{Outcome, refused, gives}
use Rattle.evidence.specs.declared.PacketContinuityBudget.{PacketContinuityBudget}
use Rattle.evidence.specs.declared.PacketContinuityReport.{PacketContinuityReport}
use Rattle.measurement.specs.declared.MeasurementHeader.{MeasurementHeader}
use Rattle.measurement_reading.specs.Read.{read_of}
use Rattle.counter.specs.Counter.{one_more}
use Rattle.rows.specs.Columns.{Columns, columns_of}
use Rattle.observer.specs.Observer.{Row, row_of_fields}
use Rattle.observer.specs.declared.ObserverCounts.{ObserverCounts}
use Rattle.report.specs.Report.{report_of}

-- Its rows, and the observer's three counters.
pub record Tally : Type 0 where
  pub rows : List Row
  pub duplicates : ℕ
  pub out_of_order : ℕ
  pub error_indications : ℕ

-- "a row for each packet, with its sequence and send time, latency 0, mark 0". "The tally's rows have the column too:
-- 0, then the time of the return that marks the row" (document 02, job 8).
abbrev pub row_for : MeasurementHeader → Row
row_for packet = row_of_fields packet.sequence packet.send_timestamp_ns 0 0 0

-- "It has, in plan order, a row for each packet .., and the sheet's counters at 0."
abbrev pub tally_of : List MeasurementHeader → Tally
tally_of packets = record { rows = map row_for packets; duplicates = 0; out_of_order = 0; error_indications = 0 }

-- It is fed "each return's packet, time and arrived bytes": which packet it is, counted from 0 in plan order.
pub record Fed : Type 0 where
  pub packet : ℕ
  pub time : ℕ
  pub arrived : List ℕ

abbrev pub is_refused : {A : Type 0} → Outcome A → Bool
is_refused (refused n) = true
is_refused (gives x) = false

-- the row of packet k (no list of returns here has a k past the last)
abbrev pub row_of_packet : ℕ → List Row → Row
row_of_packet k rows = get_or rows k (row_of_fields 0 0 0 0 0)

-- "a row of higher sequence is marked"
abbrev pub higher_marked : ℕ → List Row → Bool
higher_marked q [] = false
higher_marked q (r ∷ rows) = (ltb q r.sequence && eqb r.mark 1) || higher_marked q rows

-- "the row gets mark 1 and as latency its time less the send time", and "the time of the return that marks the row"
abbrev pub marked : ℕ → Row → Row
marked time r = row_of_fields r.sequence r.send_timestamp_ns (time - r.send_timestamp_ns) 1 time

-- "If its row is marked, duplicates rise by 1. Else out-of-order returns rise by 1 if a row of higher sequence is
-- marked; then the row gets mark 1 and .. latency .. Counters saturate."
unfoldable pub counted : Tally → ℕ → ℕ → Row → Tally
counted a k time r =
    elim (eqb r.mark 1) [
      | true ↦ record {
        rows = a.rows;
        duplicates = one_more a.duplicates;
        out_of_order = a.out_of_order;
        error_indications = a.error_indications;
      }
      | false ↦ record {
        rows = set a.rows k (marked time r);
        duplicates = a.duplicates;
        out_of_order = elim (higher_marked r.sequence a.rows) [
          | true ↦ one_more a.out_of_order
          | false ↦ a.out_of_order
        ];
        error_indications = a.error_indications;
      }
    ]

-- "A return whose bytes leaf 4's reader refuses, or whose time is below its row's send time, changes nothing."
unfoldable pub tally_return : Tally → Fed → Tally
tally_return a r =
    let row : Row = row_of_packet r.packet a.rows in
    elim (is_refused (read_of r.arrived) || ltb r.time row.send_timestamp_ns) [
      | true ↦ a
      | false ↦ counted a r.packet r.time row
    ]

abbrev pub tally_returns : Tally → List Fed → Tally
tally_returns a [] = a
tally_returns a (r ∷ rs) = tally_returns (tally_return a r) rs

-- Its counts as an observer has them: all rows are used.
abbrev pub counts_of : Tally → ObserverCounts
counts_of a = record {
  used = length a.rows;
  duplicate_packets = a.duplicates;
  out_of_order_packets = a.out_of_order;
  gtpu_error_indications = a.error_indications;
}

-- "Its report is leaf 7 on these."
abbrev pub tally_report : Tally → ℕ → ℕ → PacketContinuityBudget → PacketContinuityReport
tally_report a window_start window_end budget = report_of a.rows (counts_of a) window_start window_end budget

-- Columns that are all the same, for examples.
abbrev pub each_column : List ℕ → Columns
each_column l = columns_of l l l l l
