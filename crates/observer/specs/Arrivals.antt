-- What is claimed of arrival times (document 02, job 8): which call writes one, and that every other leaves it.
-- proofs/Arrivals.antt proves each claim.
use Rattle.std.specs.Prelude.{ℕ, ◌+◌, ◌≤◌, ◌≡◌, List, [], ◌∷◌, true}
use Rattle.observer.specs.Observer.{Row, Observer, rows}
use Rattle.observer.specs.Judge.{well_formed}
use Rattle.observer.specs.Place.{was_sent, row_of}
use Rattle.observer.specs.Claims.{Call, sending, returning, indicating, record_call, after_calls}

-- "the first accepted return": the call is a return of this sequence, not before it was sent, and its row has no mark.
abbrev pub FirstReturn : Observer → Call → ℕ → Type 0
FirstReturn o (sending p t) q = ⊥
FirstReturn o (returning t p) q =
    (p ≡ q) × ((row_of q (rows o)).mark ≡ 0) × ((row_of q (rows o)).send_timestamp_ns ≤ t)
FirstReturn o indicating q = ⊥

-- The row of this sequence has kept what a return writes.
pub record ReturnKept (q : ℕ) (before after : List Row) : Type 0 where
  pub sent : was_sent q after ≡ true
  pub latency : (row_of q after).latency ≡ (row_of q before).latency
  pub mark : (row_of q after).mark ≡ (row_of q before).mark
  pub arrival_timestamp_ns : (row_of q after).arrival_timestamp_ns ≡ (row_of q before).arrival_timestamp_ns

-- Only the first accepted return changes the arrival time of a row. A duplicate, a refused return, an error indication,
-- the same sequence sent again and every call for another sequence leave it.
abbrev pub ArrivalKept : Type 0
ArrivalKept = (o : Observer) (call : Call) (q : ℕ) → well_formed o ≡ true → was_sent q (rows o) ≡ true
    → (FirstReturn o call q → ⊥) → ReturnKept q (rows o) (rows (record_call o call).observer)

-- So a marked row keeps its arrival time, whatever calls follow.
abbrev pub ArrivalKeptForGood : Type 0
ArrivalKeptForGood = (o : Observer) (calls : List Call) (q : ℕ) → well_formed o ≡ true → was_sent q (rows o) ≡ true
    → (row_of q (rows o)).mark ≡ 1 → ReturnKept q (rows o) (rows (after_calls o calls))

-- A row after its first return at time t: that time, and until the sequence is sent again it is latency plus send time.
pub record Arrived (t : ℕ) (r : Row) : Type 0 where
  pub mark : r.mark ≡ 1
  pub arrival_timestamp_ns : r.arrival_timestamp_ns ≡ t
  pub sum : r.latency + r.send_timestamp_ns ≡ r.arrival_timestamp_ns

abbrev pub FirstReturnArrives : Type 0
FirstReturnArrives = (o : Observer) (q t : ℕ) → well_formed o ≡ true → was_sent q (rows o) ≡ true
    → FirstReturn o (returning t q) q → Arrived t (row_of q (rows (record_call o (returning t q)).observer))

-- "For a marked row whose sequence is entered as sent again, latency and return time keep their values, so latency plus
-- the present send time need not be the return time": at any other time than before, it is not.
abbrev pub ResendParts : Type 0
ResendParts = (o : Observer) (q t again : ℕ) → well_formed o ≡ true → was_sent q (rows o) ≡ true
    → FirstReturn o (returning t q) q → (again ≡ (row_of q (rows o)).send_timestamp_ns → ⊥)
    → let r : Row = row_of q (rows (after_calls o (returning t q ∷ sending q again ∷ []))) in
    r.latency + r.send_timestamp_ns ≡ r.arrival_timestamp_ns → ⊥
