-- How the C interface represents a run sheet: an outcome as a number and values beside it, the counts as the sheet has
-- them.
use Rattle.std.specs.Prelude.{ℕ, ◌≡◌, List, Bool, true, false}
use Rattle.std.proofs.Math.Option.{Option, some, none}
use Rattle.std.specs.Borrow.{Bor, MutBor}
use denote.Triple.Both.{Both}
use Rattle.error.specs.Outcome.{Outcome, refused, gives, outcome_number}
use Rattle.observer.specs.Observer.{Observer}
use Rattle.observer.specs.Judge.{Step}
use Rattle.observer.specs.Answer.{lent}
use Rattle.observer.specs.declared.ObserverCounts.{ObserverCounts}
use Rattle.gtpu.specs.declared.RefusedTunnel.{RefusedTunnel}
use Rattle.measurement.specs.Flow.{version_number}
use Rattle.return_calls.specs.Returns.{MessageStep}
use Rattle.return_calls.specs.Tunnel.{tunnel_handed_on}
use Rattle.received_tpdus.specs.Received.{ReturnsTaken}
use Rattle.rows.specs.Columns.{Columns, columns_of, Sheet}
use Rattle.return_calls.specs.Kinds.{Kind, MeasurementTpdu, ErrorIndication, EchoResponse, Ignored}
use Rattle.evidence.specs.Budget.{zero_loss}
use Rattle.evidence.specs.Latency.{latency_means}
use Rattle.evidence.specs.declared.LatencySummary.{LatencySummary}
use Rattle.evidence.specs.declared.PacketContinuityReport.{PacketContinuityReport}
use Rattle.testkit_sheet.specs.declared.TestkitContinuityReport.{TestkitContinuityReport}
use Rattle.testkit_sheet.specs.declared.TestkitDatagramRecorded.{TestkitDatagramRecorded}
use Rattle.testkit_sheet.specs.declared.TestkitRecorded.{TestkitRecorded}
use Rattle.testkit_sheet.specs.declared.TestkitReturnsRecorded.{TestkitReturnsRecorded}

-- ---- the columns that C lends, one by one

-- What a column that is lent to read holds, when the call begins (entry) and when it returns (exit).
abbrev pub Column : Type 0
Column = Both (Bor (List ℕ)) (Bor (List ℕ))

abbrev pub read : Column → Both (List ℕ) (List ℕ)
read c = record { entry = c.entry.now; exit = c.exit.now }

-- The same of a column that the call may write.
abbrev pub WrittenColumn : Type 0
WrittenColumn = Both (MutBor (List ℕ)) (MutBor (List ℕ))

abbrev pub written : WrittenColumn → Both (List ℕ) (List ℕ)
written c = record { entry = c.entry.now; exit = c.exit.now }

abbrev sheet_of : (qs ts ls ms rs : Both (List ℕ) (List ℕ)) → Sheet
sheet_of qs ts ls ms rs = record {
  entry = columns_of qs.entry ts.entry ls.entry ms.entry rs.entry;
  exit = columns_of qs.exit ts.exit ls.exit ms.exit rs.exit;
}

-- All columns of a call that only reads them.
abbrev pub sheet : Column → Column → Column → Column → Column → Sheet
sheet qs ts ls ms rs = sheet_of (read qs) (read ts) (read ls) (read ms) (read rs)

-- All columns of a call that marks rows: it only reads sequences and send times.
abbrev pub marked_sheet : Column → Column → WrittenColumn → WrittenColumn → WrittenColumn → Sheet
marked_sheet qs ts ls ms rs = sheet_of (read qs) (read ts) (written ls) (written ms) (written rs)

-- All columns of a call that may write each of them.
abbrev pub written_sheet : WrittenColumn → WrittenColumn → WrittenColumn → WrittenColumn → WrittenColumn → Sheet
written_sheet qs ts ls ms rs = sheet_of (written qs) (written ts) (written ls) (written ms) (written rs)

-- ---- what the calls answer

-- 0 or a refusal's number, and the counts.
abbrev pub recorded_numbers : Outcome (Unit {0}) → ObserverCounts → TestkitRecorded
recorded_numbers outcome counts = record { number = outcome_number outcome; counts = counts }

-- The answer and the columns of an observer's call, as its step has them.
pub record RecordedStep (r : TestkitRecorded) (columns : Columns) (s : Step) : Type 0 where
  pub answer : r ≡ recorded_numbers s.outcome s.observer.counts
  pub same_columns : columns ≡ s.observer.columns

-- In contracts: the answer and the columns when the call returns, by the definition for the observer that it was lent.
abbrev pub Records : Sheet → ObserverCounts → TestkitRecorded → (Observer → Step) → Type 0
Records s c r definition = RecordedStep r s.exit (definition (lent s c))

abbrev pub count_given : Outcome ℕ → ℕ
count_given (refused n) = 0
count_given (gives count) = count

-- A list of returns: 0 and how many there were, or the number of a refusal of the whole list and 0.
abbrev pub returns_numbers : Outcome ℕ → ObserverCounts → TestkitReturnsRecorded
returns_numbers outcome counts =
    record { number = outcome_number outcome; returns = count_given outcome; counts = counts }

-- Its answer, the two columns that are lent for it, and those of the sheet.
pub record ReturnsStep (r : TestkitReturnsRecorded) (returned numbers : List ℕ) (columns : Columns) (s : ReturnsTaken)
    : Type 0 where
  pub answer : r ≡ returns_numbers s.outcome s.observer.counts
  pub returns_read : returned ≡ s.returned
  pub returns_answered : numbers ≡ s.numbers
  pub same_columns : columns ≡ s.observer.columns

abbrev pub RecordsReturns : Sheet → ObserverCounts → TestkitReturnsRecorded → WrittenColumn → WrittenColumn
    → (Observer → List ℕ → List ℕ → ReturnsTaken) → Type 0
RecordsReturns s c r returned numbers definition =
    ReturnsStep r returned.exit.now numbers.exit.now s.exit
    (definition (lent s c) returned.entry.now numbers.entry.now)

-- What a datagram was: 0 where it was refused.
abbrev pub code_of : Kind → ℕ
code_of MeasurementTpdu = 1
code_of ErrorIndication = 2
code_of EchoResponse = 3
code_of (Ignored message_type) = 4

abbrev pub outcome_code : Outcome Kind → ℕ
outcome_code (refused n) = 0
outcome_code (gives was) = code_of was

-- The type of an ignored message, else 0.
abbrev pub type_of : Kind → ℕ
type_of MeasurementTpdu = 0
type_of ErrorIndication = 0
type_of EchoResponse = 0
type_of (Ignored message_type) = message_type

abbrev pub ignored_type : Outcome Kind → ℕ
ignored_type (refused n) = 0
ignored_type (gives was) = type_of was

-- With the tunnel that is handed on beside it.
abbrev pub datagram_numbers : Outcome Kind → RefusedTunnel → ObserverCounts
    → TestkitDatagramRecorded
datagram_numbers outcome tunnel counts = record {
  number = outcome_number outcome;
  outcome = outcome_code outcome;
  message_type = ignored_type outcome;
  peer_version = version_number tunnel.version;
  refused_teid = tunnel.teid;
  peer_address = tunnel.peer_address;
  counts = counts;
}

-- The answer to a datagram with this payload, and the columns, as its step has them.
pub record DatagramStep (r : TestkitDatagramRecorded) (columns : Columns) (payload : List ℕ) (s : MessageStep) : Type 0
  where
    pub answer : r ≡ datagram_numbers s.outcome (tunnel_handed_on s.outcome payload) s.observer.counts
    pub same_columns : columns ≡ s.observer.columns

abbrev pub RecordsDatagram : Sheet → ObserverCounts → TestkitDatagramRecorded → List ℕ → (Observer → MessageStep)
    → Type 0
RecordsDatagram s c r payload definition = DatagramStep r s.exit payload (definition (lent s c))

-- Latencies: absent is false and zeros.
pub record LatencyNumbers : Type 0 where
  pub present : Bool
  pub summary : LatencySummary

abbrev pub latency_numbers : Option LatencySummary → LatencyNumbers
latency_numbers none = record { present = false; summary = record { min_ns = 0; max_ns = 0; avg_ns = 0 } }
latency_numbers (some s) = record { present = true; summary = s }

-- 0 and the report, or a refusal's number and zeros.
abbrev pub report_numbers : Outcome PacketContinuityReport → TestkitContinuityReport
report_numbers (refused n) = record {
  number = n;
  window_start_ns = 0;
  window_end_ns = 0;
  sent_packets = 0;
  received_packets = 0;
  lost_packets = 0;
  duplicate_packets = 0;
  out_of_order_packets = 0;
  gtpu_error_indications = 0;
  max_consecutive_lost_packets = 0;
  max_gap_duration_ns = 0;
  has_latency = false;
  min_ns = 0;
  max_ns = 0;
  avg_ns = 0;
  budget = zero_loss;
  forwarding_proven = false;
  packet_continuity_proven = false;
}
report_numbers (gives r) = record {
  number = 0;
  window_start_ns = r.window_start_ns;
  window_end_ns = r.window_end_ns;
  sent_packets = r.sent_packets;
  received_packets = r.received_packets;
  lost_packets = r.lost_packets;
  duplicate_packets = r.duplicate_packets;
  out_of_order_packets = r.out_of_order_packets;
  gtpu_error_indications = r.gtpu_error_indications;
  max_consecutive_lost_packets = r.max_consecutive_lost_packets;
  max_gap_duration_ns = r.max_gap_duration_ns;
  has_latency = (latency_numbers (latency_means r.latency)).present;
  min_ns = (latency_numbers (latency_means r.latency)).summary.min_ns;
  max_ns = (latency_numbers (latency_means r.latency)).summary.max_ns;
  avg_ns = (latency_numbers (latency_means r.latency)).summary.avg_ns;
  budget = r.budget;
  forwarding_proven = r.forwarding_proven;
  packet_continuity_proven = r.packet_continuity_proven;
}
