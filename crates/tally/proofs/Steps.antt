-- One return, on an observer and in the tally.
use Prim.Native.Nat.{ℕ, ◌+◌, ◌<◌}
use native.Mathlib.Omega.{arith}
use mathlib.Core.Path.{◌≡◌, refl, sym, ap, ap₂, ◌∙◌, subst}
use mathlib.Core.Bool.{Bool, true, false}
use mathlib.Core.List.{List, [], ◌∷◌}
use lib.Dec.{ltb, eqb}
use lib.ListN.{length, set, length-set}
use borrow.Author.Tests.{ltb-true, ltb-false, eqb-true, eqb-false}
use Rattle.error.specs.Outcome.{Outcome, refused, gives}
use Rattle.measurement.specs.declared.DecodedTpdu.{DecodedTpdu}
use Rattle.measurement_reading.specs.Read.{read_of}
use Rattle.counter.specs.Counter.{one_more}
use Rattle.observer.specs.Counts.{one_duplicate, out_of_order_if}
use Rattle.observer.specs.Observer.{Row, Observer, rows, row_at, with_rows, with_counts}
use Rattle.observer.specs.Judge.{well_formed, Step, step, refusing, after_reading}
use Rattle.observer.specs.Place.{place_of, was_sent, row_of, highest_marked}
use Rattle.observer.specs.Returning.{returned, record_return}
use Rattle.observer.specs.Claims.{returning}
use Rattle.observer.specs.declared.ObserverCounts.{ObserverCounts}
use Rattle.observer.proofs.Rows.{rows_with}
use Rattle.observer.proofs.Calls.{judged_malformed, judged_well, refusing_well, return_early, return_duplicate, return_first}
use Rattle.observer.proofs.Claims.{calls_keep_well, search_finds}
use Rattle.return_calls.specs.Kinds.{message_kind}
use Rattle.return_calls.specs.Returns.{sequence_read, record_received_tpdu, record_return_message}
use Rattle.return_calls.specs.Kinds.{MeasurementTpdu}
use Rattle.tally.specs.Tally.{Tally, Fed, is_refused, row_of_packet, higher_marked, marked, counted, tally_return}
use Rattle.tally.specs.Demand.{Call, tpdu_call, message_call, Taken, taken_by}
use Rattle.tally.proofs.Rows.{Consecutive, sequence_is, consecutive_set, higher_is}

-- an observer's rows and counters, as a tally
abbrev pub read_off : Observer → Tally
read_off o = record {
  rows = rows o;
  duplicates = o.counts.duplicate_packets;
  out_of_order = o.counts.out_of_order_packets;
  error_indications = o.counts.gtpu_error_indications;
}

-- an observer with n rows from the sequence q on
pub record Ready (q n : ℕ) (o : Observer) : Type 0 where
  pub well : well_formed o ≡ true
  pub number : length (rows o) ≡ n
  pub consecutive : Consecutive q (rows o)

abbrev pub of_step : Step → Taken
of_step s = record { refuses = is_refused s.outcome; observer = s.observer }

-- what a call made of o, against the tally a after its step
pub record Answers (q n : ℕ) (o : Observer) (x : Taken) (a : Tally) : Type 0 where
  pub ready : Ready q n x.observer
  pub is : read_off x.observer ≡ a
  pub unchanged : x.refuses ≡ true → x.observer ≡ o

abbrev pub tallied : List Row → ℕ → ℕ → ℕ → Tally
tallied rs duplicates out_of_order error_indications = record { rows = rs; duplicates = duplicates; out_of_order = out_of_order; error_indications = error_indications }

abbrev pub with_counts_of : List Row → ObserverCounts → Tally
with_counts_of rs c = tallied rs c.duplicate_packets c.out_of_order_packets c.gtpu_error_indications

read_off_with : (rs : List Row) (c : ObserverCounts) (o : Observer) → read_off (with_rows rs (with_counts c o)) ≡ with_counts_of rs c
unfolding with_rows
read_off_with rs c o = ap (λ (x : List Row). with_counts_of x c) (rows_with rs (with_counts c o))

abbrev one_more_if : Bool → ℕ → ℕ
one_more_if b n = elim b [ true ↦ one_more n | false ↦ n ]

out_of_order : (b : Bool) (rs : List Row) (c : ObserverCounts)
    → with_counts_of rs (out_of_order_if b c) ≡ tallied rs c.duplicate_packets (one_more_if b c.out_of_order_packets) c.gtpu_error_indications
out_of_order true rs c = refl
out_of_order false rs c = refl

counted_duplicate : (a : Tally) (k t : ℕ) (r : Row) → eqb r.mark 1 ≡ true
    → tallied a.rows (one_more a.duplicates) a.out_of_order a.error_indications ≡ counted a k t r
unfolding counted
counted_duplicate a k t r e = rw (e, counted)

counted_first : (a : Tally) (k t : ℕ) (r : Row) → eqb r.mark 1 ≡ false
    → tallied (set a.rows k (marked t r)) a.duplicates (one_more_if (higher_marked r.sequence a.rows) a.out_of_order) a.error_indications
    ≡ counted a k t r
unfolding counted
counted_first a k t r e = rw (e, counted)

taken_as_lem : {q n : ℕ} {o : Observer} {a : Tally} {x y : Step} → x ≡ y → Answers q n o (of_step x) a → Answers q n o (of_step y) a
taken_as_lem {q = q} {n = n} {o = o} {a = a} e h = subst (λ (s : Step). Answers q n o (of_step s) a) e h

no : false ≡ true → ⊥
no e = let z : ◌≡◌ {A = ℕ} 0 1 = cc in absurd (omega arith)

module _ {q n : ℕ} {o : Observer} (i : Ready q n o) (t k : ℕ) (h : k < n) where
  abbrev row : Row
  row = row_at k (rows o)

  within : k < length (rows o)
  within = omega (arith, i.number)

  found : (was_sent row.sequence (rows o) ≡ true) × (place_of row.sequence (rows o) ≡ k)
  found = (search_finds o i.well).every_row k within

  row_is : row_of row.sequence (rows o) ≡ row
  row_is = ap (λ (j : ℕ). row_at j (rows o)) found.1

  abbrev call : Step
  call = record_return o t row.sequence

  still_well : well_formed call.observer ≡ true
  still_well = calls_keep_well o (returning t row.sequence ∷ []) i.well

  sent_is : (row_of row.sequence (rows o)).send_timestamp_ns ≡ row.send_timestamp_ns
  sent_is = ap (λ (r : Row). r.send_timestamp_ns) row_is

  mark_is : (row_of row.sequence (rows o)).mark ≡ row.mark
  mark_is = ap (λ (r : Row). r.mark) row_is

  abbrev next : Observer
  next =
      with_rows (set (rows o) (place_of row.sequence (rows o)) (returned t (row_of row.sequence (rows o))))
      (with_counts (out_of_order_if (ltb row.sequence (highest_marked (rows o))) o.counts) o)

  next_rows : rows next ≡ set (rows o) k (marked t row)
  next_rows = rows_with _ _ ∙ ap (λ (j : ℕ). set (rows o) j (returned t (row_at j (rows o)))) found.1

  next_is : eqb row.mark 1 ≡ false → read_off next ≡ counted (read_off o) k t row
  next_is e =
      let c : ObserverCounts = o.counts in
      read_off_with _ _ o
      ∙ out_of_order (ltb row.sequence (highest_marked (rows o))) _ c
      ∙ ap₂ (λ (rs : List Row) (b : Bool). tallied rs c.duplicate_packets (one_more_if b c.out_of_order_packets) c.gtpu_error_indications)
      (ap (λ (j : ℕ). set (rows o) j (returned t (row_at j (rows o)))) found.1) (higher_is row.sequence (rows o))
      ∙ counted_first (read_off o) k t row e

  ready_duplicate : well_formed (with_counts (one_duplicate o.counts) o) ≡ true → Ready q n (with_counts (one_duplicate o.counts) o)
  unfolding rows
  ready_duplicate w = record { well = w; number = i.number; consecutive = i.consecutive }

  duplicate_is : eqb row.mark 1 ≡ true → read_off (with_counts (one_duplicate o.counts) o) ≡ counted (read_off o) k t row
  unfolding rows
  duplicate_is e = counted_duplicate (read_off o) k t row e

  ready_first : well_formed next ≡ true → Ready q n next
  ready_first w = record {
    well = w;
    number = ap length next_rows ∙ length-set (rows o) k (marked t row) ∙ i.number;
    consecutive = subst (λ (rs : List Row). Consecutive q rs) (sym next_rows) (consecutive_set (rows o) q k (marked t row) i.consecutive refl);
  }

  kept : {x : Step} → x ≡ call → well_formed x.observer ≡ true
  kept e = subst (λ (s : Step). well_formed s.observer ≡ true) (sym e) still_well

  pub return_answers : Answers q n o (of_step call) (elim (ltb t row.send_timestamp_ns) [ true ↦ read_off o | false ↦ counted (read_off o) k t row ])
  return_answers = go (ltb t row.send_timestamp_ns) (eqb row.mark 1) refl refl
    where
      go : (early again : Bool) → ltb t row.send_timestamp_ns ≡ early → eqb row.mark 1 ≡ again
          → Answers q n o (of_step call) (elim early [ true ↦ read_off o | false ↦ counted (read_off o) k t row ])
      go true again e f =
          taken_as_lem (return_early o i.well row.sequence t found.0 (omega (arith, sent_is, ltb-true t row.send_timestamp_ns e)))
          (record { ready = i; is = refl; unchanged = λ u. refl })
      go false true e f =
          let law = return_duplicate o i.well row.sequence t found.0 (omega (arith, sent_is, ltb-false t row.send_timestamp_ns e)) (mark_is ∙ eqb-true row.mark 1 f) in
          taken_as_lem law (record { ready = ready_duplicate (kept law); is = duplicate_is f; unchanged = λ u. absurd (no u) })
      go false false e f =
          let law = return_first o i.well row.sequence t found.0 (omega (arith, sent_is, ltb-false t row.send_timestamp_ns e)) (λ m. eqb-false row.mark 1 f (sym mark_is ∙ m)) in
          taken_as_lem law (record { ready = ready_first (kept law); is = next_is f; unchanged = λ u. absurd (no u) })

-- ---- the two calls, with what was read

-- what a return of the sequence q may be read as: refused, or q
abbrev pub Reads : ℕ → Outcome DecodedTpdu → Type 0
Reads q (refused m) = Unit {0}
Reads q (gives d) = d.measurement.sequence ≡ q

module _ (o : Observer) (t : ℕ) (b : List ℕ) where
  received_as : (x : Outcome DecodedTpdu) → read_of b ≡ x
      → after_reading o (elim x [ refused n ↦ refused n | gives d ↦ gives d.measurement.sequence ]) (record_return o t) ≡ record_received_tpdu o t b
  unfolding record_received_tpdu sequence_read
  received_as x e =
      ap (λ (y : Outcome DecodedTpdu). after_reading o (elim y as (λ (z : Outcome DecodedTpdu). Outcome ℕ) [ refused n ↦ refused n | gives d ↦ gives d.measurement.sequence ]) (record_return o t)) (sym e)

  received_refused : (m : ℕ) → read_of b ≡ refused m → refusing o m ≡ record_received_tpdu o t b
  received_refused m e = received_as (refused m) e

  received_given : (d : DecodedTpdu) → read_of b ≡ gives d → record_return o t d.measurement.sequence ≡ record_received_tpdu o t b
  received_given d e = received_as (gives d) e

module _ (a : Tally) (r : Fed) where
  pub tally_refused : (m : ℕ) → read_of r.arrived ≡ refused m → a ≡ tally_return a r
  unfolding tally_return
  tally_refused m e = rw (e, tally_return)

  pub tally_given : (d : DecodedTpdu) → read_of r.arrived ≡ gives d
      → elim (ltb r.time (row_of_packet r.packet a.rows).send_timestamp_ns) [ true ↦ a | false ↦ counted a r.packet r.time (row_of_packet r.packet a.rows) ]
      ≡ tally_return a r
  unfolding tally_return
  tally_given d e = rw (e, tally_return)

tallied_as : {q n : ℕ} {o : Observer} {x : Taken} {a b : Tally} → a ≡ b → Answers q n o x a → Answers q n o x b
tallied_as {q = q} {n = n} {o = o} {x = x} e h = subst (λ (c : Tally). Answers q n o x c) e h

as_refused : {A : Type 0} (x : Outcome (Unit {0})) (y : A) → is_refused x ≡ is_refused {A = A} (elim x [ refused n ↦ refused n | gives u ↦ gives y ])
as_refused (refused m) y = refl
as_refused (gives u) y = refl

-- the message call does what the T-PDU call does
pub message_is : (o : Observer) (t : ℕ) (b : List ℕ) → taken_by tpdu_call o t b ≡ taken_by message_call o t b
unfolding record_return_message message_kind
message_is o t b =
    ap (λ (x : Bool). record { refuses = x; observer = (record_received_tpdu o t b).observer }) (as_refused (record_received_tpdu o t b).outcome MeasurementTpdu)

module _ {q n : ℕ} {o : Observer} (i : Ready q n o) (t k : ℕ) (h : k < n) (b : List ℕ) where
  abbrev input : Fed
  input = record { packet = k; time = t; arrived = b }

  tpdu_answers : Reads (q + k) (read_of b) → Answers q n o (taken_by tpdu_call o t b) (tally_return (read_off o) input)
  tpdu_answers reads = go (read_of b) refl reads
    where
      go : (x : Outcome DecodedTpdu) → read_of b ≡ x → Reads (q + k) x → Answers q n o (taken_by tpdu_call o t b) (tally_return (read_off o) input)
      go (refused m) e u =
          taken_as_lem (refusing_well o m i.well ∙ received_refused o t b m e)
          (tallied_as (tally_refused (read_off o) input m e) (record { ready = i; is = refl; unchanged = λ v. refl }))
      go (gives d) e u =
          let s : (row_at k (rows o)).sequence ≡ d.measurement.sequence = sequence_is (rows o) q k i.consecutive (omega (arith, i.number)) ∙ sym u in
          taken_as_lem (ap (record_return o t) s ∙ received_given o t b d e)
          (tallied_as (tally_given (read_off o) input d e) (return_answers i t k h))

  pub call_answers : (call : Call) → Reads (q + k) (read_of b) → Answers q n o (taken_by call o t b) (tally_return (read_off o) input)
  call_answers tpdu_call reads = tpdu_answers reads
  call_answers message_call reads = subst (λ (x : Taken). Answers q n o x (tally_return (read_off o) input)) (message_is o t b) (tpdu_answers reads)

-- ---- what the reader refuses, the calls refuse

step_refused : (o : Observer) (m : ℕ) → is_refused (refusing o m).outcome ≡ true
step_refused o m = go (well_formed o) refl
  where
    go : (w : Bool) → well_formed o ≡ w → is_refused (refusing o m).outcome ≡ true
    go true e = ap (λ (x : Outcome Observer). is_refused (step o x).outcome) (sym (judged_well o (refused m) e))
    go false e = ap (λ (x : Outcome Observer). is_refused (step o x).outcome) (sym (judged_malformed o (refused m) e))

tpdu_refused : (o : Observer) (t : ℕ) (b : List ℕ) (m : ℕ) → read_of b ≡ refused m → (taken_by tpdu_call o t b).refuses ≡ false → ⊥
tpdu_refused o t b m e f =
    no (sym f ∙ ap (λ (s : Step). is_refused s.outcome) (sym (received_refused o t b m e)) ∙ step_refused o m)

pub call_refused : (o : Observer) (t : ℕ) (b : List ℕ) (call : Call) (m : ℕ) → read_of b ≡ refused m → (taken_by call o t b).refuses ≡ false → ⊥
call_refused o t b tpdu_call m e f = tpdu_refused o t b m e f
call_refused o t b message_call m e f = tpdu_refused o t b m e (ap (λ (x : Taken). x.refuses) (message_is o t b) ∙ f)
