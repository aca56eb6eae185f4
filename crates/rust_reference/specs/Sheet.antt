-- The Rust's maps and our run sheet: when two observers hold the same ("`BTreeMap` becomes sorted columns", document
-- 01).
use Rattle.std.specs.Prelude.{◌≡◌, ℕ, ◌≤◌, max, true, false, List, [], ◌∷◌, ◌==◌}
use Rattle.observer.specs.Observer.{Row, Observer, rows}
use Rattle.observer.specs.Judge.{well_formed}
use Rattle.rust_reference.specs.Values.{u64_max}
use Rattle.rust_reference.specs.Map.{Option, None, Some, map_or, Entry}
use Rattle.rust_reference.specs.Traffic.{ContinuityObserver}

-- The map of what was sent: an entry for each used row, its send time.
abbrev pub sent_of : List Row → List Entry
sent_of [] = []
sent_of (r ∷ rs) = record { key = r.sequence; value = r.send_timestamp_ns } ∷ sent_of rs

-- The map of what was received: an entry for each marked row, its latency.
abbrev pub received_of : List Row → List Entry
received_of [] = []
received_of (r ∷ rs) =
    elim (r.mark == 1) [
      | true ↦ record { key = r.sequence; value = r.latency } ∷ received_of rs
      | false ↦ received_of rs
    ]

-- The highest key of a map.
abbrev pub highest_key : List Entry → Option ℕ
highest_key [] = None
highest_key (e ∷ entries) = Some (map_or (highest_key entries) e.key (λ highest. max e.key highest))

-- Every value is a u64.
abbrev pub ValuesFit : List Entry → Type 0
ValuesFit [] = Unit {0}
ValuesFit (e ∷ entries) = (e.value ≤ u64_max) × ValuesFit entries

-- Both hold the same: maps and rows, and the counters. 21 is not due on the sheet.
pub record Same (rust : ContinuityObserver) (o : Observer) : Type 0 where
  pub well : well_formed o ≡ true
  pub sent : rust.sent ≡ sent_of (rows o)
  pub received : rust.received ≡ received_of (rows o)
  pub latencies : ValuesFit rust.received
  pub highest : rust.highest_received_sequence ≡ highest_key rust.received
  pub duplicates : rust.duplicate_packets ≡ o.counts.duplicate_packets
  pub out_of_order : rust.out_of_order_packets ≡ o.counts.out_of_order_packets
  pub indications : rust.gtpu_error_indications ≡ o.counts.gtpu_error_indications

-- The Rust's observer that holds what a sheet holds.
abbrev pub rust_observer : Observer → ContinuityObserver
rust_observer o = record {
  sent = sent_of (rows o);
  received = received_of (rows o);
  duplicate_packets = o.counts.duplicate_packets;
  out_of_order_packets = o.counts.out_of_order_packets;
  gtpu_error_indications = o.counts.gtpu_error_indications;
  highest_received_sequence = highest_key (received_of (rows o));
}
