-- The counts beside the columns. Document 01, leaf 6: "Beside it stand the used count and counters for duplicates,
-- out-of-order returns and error indications, which saturate." The record is the declared struct of the code; calls
-- change it by the named updates below.
use Rattle.std.specs.Prelude.{ℕ, Bool, true, false}
use Rattle.counter.specs.Counter.{one_more}
use Rattle.observer.specs.declared.ObserverCounts.{ObserverCounts}

-- "Fresh: all of these 0."
abbrev pub fresh : ObserverCounts
fresh = record { used = 0; duplicate_packets = 0; out_of_order_packets = 0; gtpu_error_indications = 0 }

-- this many used rows
abbrev pub with_used : ℕ → ObserverCounts → ObserverCounts
with_used n c = record {
  used = n;
  duplicate_packets = c.duplicate_packets;
  out_of_order_packets = c.out_of_order_packets;
  gtpu_error_indications = c.gtpu_error_indications;
}

abbrev pub one_duplicate : ObserverCounts → ObserverCounts
one_duplicate c = record {
  used = c.used;
  duplicate_packets = one_more c.duplicate_packets;
  out_of_order_packets = c.out_of_order_packets;
  gtpu_error_indications = c.gtpu_error_indications;
}

abbrev pub one_out_of_order : ObserverCounts → ObserverCounts
one_out_of_order c = record {
  used = c.used;
  duplicate_packets = c.duplicate_packets;
  out_of_order_packets = one_more c.out_of_order_packets;
  gtpu_error_indications = c.gtpu_error_indications;
}

abbrev pub out_of_order_if : Bool → ObserverCounts → ObserverCounts
out_of_order_if late c = elim late [ true ↦ one_out_of_order c | false ↦ c ]

abbrev pub one_error_indication : ObserverCounts → ObserverCounts
one_error_indication c = record {
  used = c.used;
  duplicate_packets = c.duplicate_packets;
  out_of_order_packets = c.out_of_order_packets;
  gtpu_error_indications = one_more c.gtpu_error_indications;
}
