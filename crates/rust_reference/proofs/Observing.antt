-- The observer: each call on a sheet that holds what the Rust's maps hold has the Rust's answer, and leaves it so.
use Rattle.std.proofs.Common.{◌≡◌, ℕ, ◌+◌, ◌-◌, ◌<◌, ◌≤◌, min, max, Bool, true, false, ◌||◌, eqb, ltb, ◌⊎◌, List, [], ◌∷◌, ◌++◌, length, set, sym, refl, ap, ◌∙◌, subst, inl, inr, arith, length-append, ltb-false, ltb-true, le-ltb, lt-ltb, eq-eqb, eqb-true}
use borrow.Author.Tests.{eqb-false}
use Rattle.error.specs.Outcome.{Outcome, refused, gives}
use Rattle.error.proofs.Tests.{true_not_false, or_left, or_right}
use Rattle.measurement.specs.declared.DecodedTpdu.{DecodedTpdu}
use Rattle.measurement_reading.specs.Read.{read_of}
use Rattle.gtpu.specs.Element.{elements_of}
use Rattle.observer.specs.Claims.{sending, returning, indicating}
use Rattle.counter.specs.Counter.{one_more}
use Rattle.observer.specs.Counts.{one_duplicate, out_of_order_if, one_error_indication}
use Rattle.observer.specs.declared.ObserverCounts.{ObserverCounts}
use Rattle.observer.specs.Judge.{well_formed, Step, step, refusing, after_reading}
use Rattle.observer.specs.Observer.{Row, Observer, capacity, rows, with_rows, with_counts, sent_row}
use Rattle.observer.specs.Place.{place_of, was_sent, row_of, highest_marked}
use Rattle.observer.specs.Sending.{resent, record_sent}
use Rattle.observer.specs.Returning.{returned, record_return, record_error_indication}
use Rattle.observer.proofs.Calls.{sent_again_lem, sent_full, sent_new_lem, refusing_well, return_unknown, return_early, return_duplicate, return_first, indication_counted, judged_well}
use Rattle.observer.proofs.Claims.{fresh_is_well, calls_keep_well}
use Rattle.observer.proofs.Keeping.{well_rows}
use Rattle.observer.proofs.Rows.{rows_with, capacity_with}
use Rattle.observer.proofs.Judging.{well}
use Rattle.return_calls.specs.Returns.{sequence_read, record_received_tpdu, MessageStep, as_message, unchanged, record_return_message}
use Rattle.return_calls.proofs.Laws.{kind_2, kind_ignored, kind_other, message_255, message_26, message_other}
use Rattle.return_calls.specs.Kinds.{Kind, MeasurementTpdu, ErrorIndication, EchoResponse, Ignored}
use Rattle.rust_reference.specs.Claims.{New, EverySheet, RecordSent, RecordReceivedTpdu, RecordReturnGtpuDatagram}
use Rattle.rust_reference.specs.Compared.{Compared, ComparedReturn, as_the_rust_tells, told}
use Rattle.rust_reference.specs.Error as error
use Rattle.rust_reference.specs.Error.{DataplaneTestkitError, Result, Ok, Err, InvalidPacket, TimestampReversed}
use Rattle.rust_reference.specs.Number.{error_number, outcome_of}
use Rattle.rust_reference.specs.Values.{u64_max, saturating_add}
use Rattle.rust_reference.specs.Map.{Option, None, Some, is_some_and, map_or, Entry, get, contains_key, insert}
use Rattle.rust_reference.specs.Sheet.{sent_of, received_of, highest_key, Same}
use Rattle.rust_reference.specs.Answers.{tpdu_of}
use Rattle.rust_reference.specs.Gtpu.{validate_error_indication_ies}
use Rattle.rust_reference.specs.Measurement as measurement
use Rattle.rust_reference.specs.Traffic as traffic
use Rattle.rust_reference.specs.Traffic.{ContinuityObserver, Recorded, tried, ok_or, checked_sub, duplicate, first_return, error_indication, record_return_gtpu_datagram}
use Rattle.rust_reference.proofs.Decoding.{decoded}
use Rattle.rust_reference.proofs.Elements.{validate}
use Rattle.rust_reference.proofs.Maps.{Located, found, absent, locate, get_found, insert_found, received_resent, contains_found, insert_received, sent_returned, get_absent, insert_absent, received_entered, row_found, set_found, put_absent, late_is, insert_fits, highest_insert}
use Rattle.rust_reference.proofs.Told.{Alike, both_give, both_refuse, alike, told_as}

-- ---- a fresh sheet, and every well-formed one

pub new_same : New
unfolding rows
new_same o e =
    let none : rows o ≡ [] = rw (ap (λ (c : ObserverCounts). c.used) e) in
    record {
      well = fresh_is_well o e;
      sent = ap sent_of (sym none);
      received = ap received_of (sym none);
      latencies = tt;
      highest = refl;
      duplicates = ap (λ (c : ObserverCounts). c.duplicate_packets) (sym e);
      out_of_order = ap (λ (c : ObserverCounts). c.out_of_order_packets) (sym e);
      indications = ap (λ (c : ObserverCounts). c.gtpu_error_indications) (sym e);
    }

pub every_same : EverySheet
every_same o w f = record {
  well = w;
  sent = refl;
  received = refl;
  latencies = f;
  highest = refl;
  duplicates = refl;
  out_of_order = refl;
  indications = refl;
}

-- ---- sending

module _ (rust : ContinuityObserver) (o : Observer) (same : Same rust o) (q t : ℕ) where
  -- the rows X are put back, and hold what the map then holds
  sent_with : (X : List Row) → length X ≤ capacity o → step o (gives (with_rows X o)) ≡ record_sent o q t → insert q t (sent_of (rows o)) ≡ sent_of X
      → received_of X ≡ received_of (rows o)
      → (gives tt ≡ (record_sent o q t).outcome) × Same (traffic.record_sent rust q t) (record_sent o q t).observer × (capacity (record_sent o q t).observer ≡ capacity o)
  unfolding traffic.record_sent with_rows
  sent_with X room e s r = (
    ap (λ (x : Step). x.outcome) e,
    subst (λ (x : Step). Same (traffic.record_sent rust q t) x.observer) e (record {
      well = ap (λ (x : Step). well_formed x.observer) e ∙ calls_keep_well o (sending q t ∷ []) same.well;
      sent = ap (insert q t) same.sent ∙ s ∙ ap sent_of (sym (rows_with X o));
      received = same.received ∙ sym r ∙ ap received_of (sym (rows_with X o));
      latencies = same.latencies;
      highest = same.highest;
      duplicates = same.duplicates;
      out_of_order = same.out_of_order;
      indications = same.indications;
    }),
    ap (λ (x : Step). capacity x.observer) (sym e) ∙ capacity_with X o room,
  )

  used_fits : length (rows o) ≤ capacity o
  used_fits = let w = well o same.well in omega (arith, w.fronts.count, w.fits)

  sending_located : (was_sent q (rows o) ≡ false → o.counts.used ≡ capacity o → ⊥) → Located q (rows o)
      → (gives tt ≡ (record_sent o q t).outcome) × Same (traffic.record_sent rust q t) (record_sent o q t).observer × (capacity (record_sent o q t).observer ≡ capacity o)
  sending_located free (found before r after e b s a p w) =
      let X = before ++ resent t r ∷ after in
      let put : set (rows o) (place_of q (rows o)) (resent t (row_of q (rows o))) ≡ X =
      ap (λ (x : Row). set (rows o) (place_of q (rows o)) (resent t x)) (row_found q (rows o) before p r after e)
      ∙ set_found q (rows o) before p (resent t r) r after e in
      sent_with X (omega (arith, ap length e, length-append before (resent t r ∷ after), length-append before (r ∷ after), used_fits))
      (ap (λ (l : List Row). step o (gives (with_rows l o))) (sym put) ∙ sent_again_lem o same.well q t w)
      (ap (λ (l : List Row). insert q t (sent_of l)) e ∙ insert_found q before r after b s a t)
      (received_resent q before r after b s a t ∙ ap received_of (sym e))
  sending_located free (absent before after e b a p w) =
      let X = before ++ sent_row q t ∷ after in
      let wf = well o same.well in
      let kept : o.counts.used ≡ capacity o → ⊥ = free w in
      sent_with X (omega (arith, ap length e, length-append before (sent_row q t ∷ after), length-append before after, wf.fronts.count, wf.fits))
      (ap (λ (l : List Row). step o (gives (with_rows l o))) (sym (put_absent q (rows o) before p (sent_row q t) after e)) ∙ sent_new_lem o same.well q t w kept)
      (ap (λ (l : List Row). insert q t (sent_of l)) e ∙ insert_absent q before after b a t)
      (received_entered q before after b a t ∙ ap received_of (sym e))

pub sending_kept : (rust : ContinuityObserver) (o : Observer) → Same rust o → (q t : ℕ) → (was_sent q (rows o) ≡ false → o.counts.used ≡ capacity o → ⊥)
    → (gives tt ≡ (record_sent o q t).outcome) × Same (traffic.record_sent rust q t) (record_sent o q t).observer × (capacity (record_sent o q t).observer ≡ capacity o)
sending_kept rust o same q t free = sending_located rust o same q t free (locate q (rows o) (well_rows o same.well).rises)

-- where 22 is not due, a row is free for a new sequence
pub sending_same : RecordSent
sending_same rust o same q t added =
    let s = sending_kept rust o same q t
    (λ w full. added 22 (inr (inr (inr (inl refl)))) (ap (λ (x : Step). x.outcome) (sym (sent_full o same.well q t w full)))) in
    (ap told s.0, s.1)

-- ---- a return

-- the same answer, as it is told, and what is left is related
pub record AsStep (o : Observer) (x : Recorded (Unit {0})) (s : Step) : Type 0 where
  pub answer : outcome_of x.result ≡ told s.outcome
  pub same : Same x.observer s.observer
  pub room : capacity s.observer ≡ capacity o

-- what the counts keep beside out_of_order returns
duplicates_kept : (b : Bool) (c : ObserverCounts) → c.duplicate_packets ≡ (out_of_order_if b c).duplicate_packets
duplicates_kept true c = refl
duplicates_kept false c = refl

indications_kept : (b : Bool) (c : ObserverCounts) → c.gtpu_error_indications ≡ (out_of_order_if b c).gtpu_error_indications
indications_kept true c = refl
indications_kept false c = refl

late_counted : (b late : Bool) (n : ℕ) (c : ObserverCounts) → b ≡ late → n ≡ c.out_of_order_packets
    → elim b [ true ↦ saturating_add n 1 | false ↦ n ] ≡ (out_of_order_if late c).out_of_order_packets
unfolding saturating_add one_more
late_counted true true n c e f = ap (λ (m : ℕ). min (m + 1) u64_max) f
late_counted true false n c e f = absurd (true_not_false e)
late_counted false true n c e f = absurd (true_not_false (sym e))
late_counted false false n c e f = f

-- what a return does once its sequence is read
abbrev pub arriving : ContinuityObserver → ℕ → ℕ → Recorded (Unit {0})
arriving rust t q =
    tried (ok_or (get q rust.sent) (InvalidPacket error.received_sequence_was_not_sent)) rust λ send_timestamp_ns.
    tried (ok_or (checked_sub t send_timestamp_ns) TimestampReversed) rust λ latency_ns.
    elim (contains_key q rust.received) [
      | true ↦ record { result = Ok tt; observer = duplicate rust }
      | false ↦ record { result = Ok tt; observer = first_return rust q latency_ns }
    ]

checked_under : (a b : ℕ) → a < b → checked_sub a b ≡ None
unfolding checked_sub
checked_under a b h = rw (lt-ltb a b h, checked_sub)

checked_fits : (a b : ℕ) → b ≤ a → checked_sub a b ≡ Some (a - b)
unfolding checked_sub
checked_fits a b h = rw (le-ltb a b h, checked_sub)

module _ (rust : ContinuityObserver) (o : Observer) (same : Same rust o) (t : ℕ) (fits : t ≤ u64_max) (q : ℕ) where
  -- a refusal leaves both
  refused_as : (e : DataplaneTestkitError) (n : ℕ) → error_number e ≡ as_the_rust_tells n → (s : Step) → step o (refused n) ≡ s
      → AsStep o (record { result = Err e; observer = rust }) s
  refused_as e n number s p = record {
    answer = ap refused number ∙ ap (λ (x : Step). told x.outcome) p;
    same = subst (λ (x : Step). Same rust x.observer) p same;
    room = ap (λ (x : Step). capacity x.observer) (sym p);
  }

  kept_well : well_formed (record_return o t q).observer ≡ true
  kept_well = calls_keep_well o (returning t q ∷ []) same.well

  -- a duplicate
  duplicate_as : step o (gives (with_counts (one_duplicate o.counts) o)) ≡ record_return o t q
      → AsStep o (record { result = Ok tt; observer = duplicate rust }) (record_return o t q)
  unfolding duplicate saturating_add one_more rows capacity
  duplicate_as e = record {
    answer = ap (λ (x : Step). told x.outcome) e;
    same = subst (λ (x : Step). Same (duplicate rust) x.observer) e (record {
      well = ap (λ (x : Step). well_formed x.observer) e ∙ kept_well;
      sent = same.sent;
      received = same.received;
      latencies = same.latencies;
      highest = same.highest;
      duplicates = ap (λ (n : ℕ). min (n + 1) u64_max) same.duplicates;
      out_of_order = same.out_of_order;
      indications = same.indications;
    });
    room = ap (λ (x : Step). capacity x.observer) (sym e);
  }

  abbrev late : Bool
  late = ltb q (highest_marked (rows o))

  -- the rows X are put back with the counts
  first_as : (l : ℕ) (X : List Row) → l ≤ u64_max → length X ≤ capacity o
      → step o (gives (with_rows X (with_counts (out_of_order_if late o.counts) o))) ≡ record_return o t q
      → sent_of X ≡ sent_of (rows o) → insert q l (received_of (rows o)) ≡ received_of X
      → AsStep o (record { result = Ok tt; observer = first_return rust q l }) (record_return o t q)
  unfolding first_return with_rows capacity
  first_as l X small fit e s r = record {
    answer = ap (λ (x : Step). told x.outcome) e;
    same = subst (λ (x : Step). Same (first_return rust q l) x.observer) e (record {
      well = ap (λ (x : Step). well_formed x.observer) e ∙ kept_well;
      sent = same.sent ∙ sym s ∙ ap sent_of (sym (rows_with X with_counts_lem));
      received = ap (insert q l) same.received ∙ r ∙ ap received_of (sym (rows_with X with_counts_lem));
      latencies = insert_fits q l rust.received small same.latencies;
      highest = ap (λ (h : Option ℕ). Some (map_or h q (λ highest. max highest q))) same.highest ∙ sym (highest_insert q l rust.received);
      duplicates = same.duplicates ∙ duplicates_kept late o.counts;
      out_of_order = late_counted (is_some_and rust.highest_received_sequence (λ highest. ltb q highest)) late rust.out_of_order_packets o.counts lateness same.out_of_order;
      indications = same.indications ∙ indications_kept late o.counts;
    });
    room = ap (λ (x : Step). capacity x.observer) (sym e) ∙ capacity_with X with_counts_lem fit;
  }
    where
      with_counts_lem : Observer
      with_counts_lem = with_counts (out_of_order_if late o.counts) o

      lateness : is_some_and rust.highest_received_sequence (λ highest. ltb q highest) ≡ late
      lateness = ap (λ (h : Option ℕ). is_some_and h (λ highest. ltb q highest)) (same.highest ∙ ap highest_key same.received) ∙ late_is q (rows o)

  -- whatever the search finds
  arrives : Located q (rows o) → AsStep o (arriving rust t q) (record_return o t q)
  arrives (absent before after e b a p w) =
      let none_there : get q rust.sent ≡ None = ap (get q) (same.sent ∙ ap sent_of e) ∙ get_absent q before after b a in
      rw none_there
      (refused_as (InvalidPacket error.received_sequence_was_not_sent) 23 refl (record_return o t q) (return_unknown o same.well q t w))
  arrives (found before r after e b s a p w) =
      let there : get q rust.sent ≡ Some r.send_timestamp_ns = ap (get q) (same.sent ∙ ap sent_of e) ∙ get_found q before r after b s a in
      rw there (by (ltb t r.send_timestamp_ns) refl)
    where
      row_is : row_of q (rows o) ≡ r
      row_is = row_found q (rows o) before p r after e

      marked : contains_key q rust.received ≡ eqb r.mark 1
      marked = ap (λ (m : List Entry). contains_key q m) (same.received ∙ ap received_of e) ∙ contains_found q before r after b s a

      put : set (rows o) (place_of q (rows o)) (returned t (row_of q (rows o))) ≡ before ++ returned t r ∷ after
      put = ap (λ (x : Row). set (rows o) (place_of q (rows o)) (returned t x)) row_is ∙ set_found q (rows o) before p (returned t r) r after e

      judged_by : (again : Bool) → eqb r.mark 1 ≡ again → r.send_timestamp_ns ≤ t
          → AsStep o (elim again [
            | true ↦ record { result = Ok tt; observer = duplicate rust }
            | false ↦ record { result = Ok tt; observer = first_return rust q (t - r.send_timestamp_ns) }
          ]) (record_return o t q)
      judged_by true m h = duplicate_as (return_duplicate o same.well q t w (rw row_is h) (rw row_is (eqb-true r.mark 1 m)))
      judged_by false m h =
          first_as (t - r.send_timestamp_ns) (before ++ returned t r ∷ after) (omega arith)
          (omega (arith, ap length e, length-append before (returned t r ∷ after), length-append before (r ∷ after), used_fits rust o same q t))
          (ap (λ (l : List Row). step o (gives (with_rows l (with_counts (out_of_order_if late o.counts) o)))) (sym put)
          ∙ return_first o same.well q t w (rw row_is h) (rw row_is (eqb-false r.mark 1 m)))
          (sent_returned q before r after b s a t ∙ ap sent_of (sym e))
          (ap (λ (l : List Row). insert q (t - r.send_timestamp_ns) (received_of l)) e ∙ insert_received q before r after b s a t m)

      by : (early : Bool) → ltb t r.send_timestamp_ns ≡ early
          → AsStep o (tried (ok_or (checked_sub t r.send_timestamp_ns) TimestampReversed) rust λ latency_ns.
          elim (contains_key q rust.received) [
            | true ↦ record { result = Ok tt; observer = duplicate rust }
            | false ↦ record { result = Ok tt; observer = first_return rust q latency_ns }
          ]) (record_return o t q)
      by true h =
          rw (checked_under t r.send_timestamp_ns (ltb-true t r.send_timestamp_ns h))
          (refused_as TimestampReversed 24 refl (record_return o t q) (return_early o same.well q t w (rw row_is (ltb-true t r.send_timestamp_ns h))))
      by false h =
          rw (checked_fits t r.send_timestamp_ns (ltb-false t r.send_timestamp_ns h))
          (subst (λ (x : Bool). AsStep o (elim x [
            | true ↦ record { result = Ok tt; observer = duplicate rust }
            | false ↦ record { result = Ok tt; observer = first_return rust q (t - r.send_timestamp_ns) }
          ]) (record_return o t q)) (sym marked) (judged_by (eqb r.mark 1) refl (ltb-false t r.send_timestamp_ns h)))

-- what the T-PDU reads as, for the observer
sequence_read_lem : (tpdu : List ℕ) → Compared tpdu → Alike (λ d. d.measurement.sequence) (measurement.decode_measurement_tpdu tpdu) (sequence_read tpdu)
unfolding sequence_read
sequence_read_lem tpdu c = of (measurement.decode_measurement_tpdu tpdu) (read_of tpdu) (alike tpdu_of (measurement.decode_measurement_tpdu tpdu) (read_of tpdu) (decoded tpdu c))
  where
    of : (x : Result measurement.DecodedTpdu) (o : Outcome DecodedTpdu) → Alike tpdu_of x o
        → Alike (λ d. d.measurement.sequence) x (elim o [ refused n ↦ refused n | gives d ↦ gives d.measurement.sequence ])
    of (Ok d) o both_give = both_give
    of (Err x) o (both_refuse e) = both_refuse e

module _ (rust : ContinuityObserver) (o : Observer) (same : Same rust o) (t : ℕ) (fits : t ≤ u64_max) where
  received_as : (x : Result measurement.DecodedTpdu) (read : Outcome ℕ) → Alike (λ d. d.measurement.sequence) x read
      → AsStep o (tried x rust (λ d. arriving rust t d.measurement.sequence)) (after_reading o read (record_return o t))
  received_as (Ok d) read both_give =
      arrives rust o same t fits d.measurement.sequence (locate d.measurement.sequence (rows o) (well_rows o same.well).rises)
  received_as (Err x) read (both_refuse {n = n} e) = refused_as rust o same t fits 0 x n e (refusing o n) (refusing_well o n same.well)

  pub received_step : (tpdu : List ℕ) → Compared tpdu → AsStep o (traffic.record_received_tpdu rust t tpdu) (record_received_tpdu o t tpdu)
  unfolding traffic.record_received_tpdu record_received_tpdu
  received_step tpdu c = received_as (measurement.decode_measurement_tpdu tpdu) (sequence_read tpdu) (sequence_read_lem tpdu c)

pub received_same : RecordReceivedTpdu
received_same rust o same t fits tpdu c = let a = received_step rust o same t fits tpdu c in (a.answer, a.same)

-- ---- a message

pub record AsMessage (o : Observer) (x : Recorded Kind) (s : MessageStep) : Type 0 where
  pub answer : outcome_of x.result ≡ told s.outcome
  pub same : Same x.observer s.observer
  pub room : capacity s.observer ≡ capacity o

-- the Rust branches on a test
branch : (o : Observer) (test : Bool) (x x' : Recorded Kind) (y : MessageStep) → (test ≡ true → AsMessage o x y)
    → (test ≡ false → AsMessage o x' y) → AsMessage o (elim test [ true ↦ x | false ↦ x' ]) y
branch o test x x' y f g = go test refl
  where
    go : (b : Bool) → test ≡ b → AsMessage o (elim b [ true ↦ x | false ↦ x' ]) y
    go true e = f e
    go false e = g e

-- the same message step, said otherwise
said : {o : Observer} {x : Recorded Kind} {s s' : MessageStep} → s ≡ s' → AsMessage o x s → AsMessage o x s'
said {o} {x} e a = subst (λ (s : MessageStep). AsMessage o x s) e a

-- one of two tests holds, or neither
one_of : (t m n : ℕ) → (eqb t m || eqb t n) ≡ true → t ≡ n ⊎ t ≡ m
one_of t m n e = go (eqb t m) refl e
  where
    go : (b : Bool) → eqb t m ≡ b → (b || eqb t n) ≡ true → t ≡ n ⊎ t ≡ m
    go true f e = inr (eqb-true t m f)
    go false f e = inl (eqb-true t n e)

neither : (t m n : ℕ) → (eqb t m || eqb t n) ≡ false → t ≡ n ⊎ t ≡ m → ⊥
neither t m n e (inl h) = true_not_false (sym (or_right (eqb t m) _ (eq-eqb t n h)) ∙ e)
neither t m n e (inr h) = true_not_false (sym (or_left _ (eqb t n) (eq-eqb t m h)) ∙ e)

-- a return, as a message of its kind
as_kind : (o : Observer) (kind : Kind) (r : Result (Unit {0})) (rust : ContinuityObserver) (s : Step) → outcome_of r ≡ told s.outcome → Same rust s.observer
    → capacity s.observer ≡ capacity o → AsMessage o (tried r rust (λ u. record { result = Ok kind; observer = rust })) (as_message kind s)
as_kind o kind r rust s e same c = of r s.outcome (alike (λ u. u) r s.outcome e)
  where
    of : (r : Result (Unit {0})) (given : Outcome (Unit {0})) → Alike (λ u. u) r given
        → AsMessage o (tried r rust (λ u. record { result = Ok kind; observer = rust })) (as_message kind (record { outcome = given; observer = s.observer }))
    of (Ok u) given both_give = record { answer = refl; same = same; room = c }
    of (Err x) given (both_refuse f) = record { answer = ap refused f; same = same; room = c }

module _ (rust : ContinuityObserver) (o : Observer) (same : Same rust o) where
  -- an Error Indication
  indication_with : Same (error_indication rust) (with_counts (one_error_indication o.counts) o)
  unfolding error_indication saturating_add one_more rows
  indication_with = record {
    well = ap (λ (x : Step). well_formed x.observer) (indication_counted o same.well) ∙ calls_keep_well o (indicating ∷ []) same.well;
    sent = same.sent;
    received = same.received;
    latencies = same.latencies;
    highest = same.highest;
    duplicates = same.duplicates;
    out_of_order = same.out_of_order;
    indications = ap (λ (n : ℕ). min (n + 1) u64_max) same.indications;
  }

  indicated : (r : Result (Unit {0})) (walk : Outcome (Unit {0})) → Alike (λ u. u) r walk
      → AsMessage o (tried r rust (λ u. record { result = Ok ErrorIndication; observer = error_indication rust })) (as_message ErrorIndication (after_reading o walk (λ accepted. record_error_indication o)))
  indicated (Ok u) walk both_give =
      subst (λ (s : Step). AsMessage o (record { result = Ok ErrorIndication; observer = error_indication rust }) (as_message ErrorIndication s))
      (indication_counted o same.well) (record { answer = refl; same = indication_with; room = unfold capacity in refl })
  indicated (Err x) walk (both_refuse {n = n} e) =
      subst (λ (s : Step). AsMessage o (record { result = Err x; observer = rust }) (as_message ErrorIndication s))
      (refusing_well o n same.well) (record { answer = ap refused e; same = same; room = refl })

  -- a message that changes nothing
  noted : (r : Result Kind) → AsMessage o (record { result = r; observer = rust }) (unchanged o (outcome_of r))
  noted r = record { answer = told_as (λ x. x) r (judged_well o (outcome_of r) same.well); same = same; room = refl }

  pub message_step : (t : ℕ) → t ≤ u64_max → (ty : ℕ) (payload : List ℕ) → ComparedReturn ty payload
      → AsMessage o (record_return_gtpu_datagram rust t ty payload) (record_return_message o t ty payload)
  unfolding record_return_gtpu_datagram
  message_step t fits ty payload c =
      branch o (eqb ty 255) _ _ _
      (λ is.
      let a = received_step rust o same t fits payload (c (eqb-true ty 255 is)) in
      said (message_255 ty o t payload (eqb-true ty 255 is))
      (as_kind o MeasurementTpdu (traffic.record_received_tpdu rust t payload).result (traffic.record_received_tpdu rust t payload).observer (record_received_tpdu o t payload) a.answer a.same a.room))
      (λ no. branch o (eqb ty 26) _ _ _
      (λ is. said (message_26 ty o t payload (eqb-true ty 26 is)) (indicated (validate_error_indication_ies payload) (elements_of payload) (alike (λ u. u) (validate_error_indication_ies payload) (elements_of payload) (validate payload))))
      (λ nor. said (message_other ty o t payload (eqb-false ty 255 no) (eqb-false ty 26 nor))
      (branch o (eqb ty 2) _ _ _
      (λ is. said (ap (unchanged o) (kind_2 ty (eqb-true ty 2 is))) (noted (Ok EchoResponse)))
      (λ nor_this. branch o (eqb ty 254 || eqb ty 31) _ _ _
      (λ is. said (ap (unchanged o) (kind_ignored ty (one_of ty 254 31 is))) (noted (Ok (Ignored ty))))
      (λ none. said (ap (unchanged o) (kind_other ty (eqb-false ty 255 no) (eqb-false ty 26 nor) (eqb-false ty 2 nor_this) (neither ty 254 31 none)))
      (noted (Err (InvalidPacket error.unsupported_GTP_U_return_message_type))))))))

pub message_same : RecordReturnGtpuDatagram
message_same rust o same t fits ty payload c = let a = message_step rust o same t fits ty payload c in (a.answer, a.same)
