-- The claims of specs/Claims.antt, proved.
use Prim.Native.Nat.{ℕ, suc, ◌≤◌, ◌<◌}
use mathlib.Core.Path.{◌≡◌, refl, sym, ap, ◌∙◌}
use mathlib.Core.List.{List, [], ◌∷◌, map}
use mathlib.Core.Bool.{Bool, true, false, ◌||◌}
use native.Mathlib.Omega.{arith}
use lib.Dec.{eqb, ltb}
use lib.ListN.{length, get_or, set, drop, length-set, length-map}
use lib.Seq.{drop_at}
use borrow.Author.Tests.{eqb-true, eqb-false, eq-eqb, lt-ltb, le-leb, ltb-true, ltb-false}
use Rattle.error.specs.Outcome.{Outcome, gives, Cause, ◌⇒◌, first_cause}
use Rattle.error.proofs.Tests.{and_both}
use Rattle.observer.specs.Counts.{with_used, one_duplicate, out_of_order_if, one_error_indication}
use Rattle.observer.specs.Observer.{Row, Observer, capacity, rows, row_at, sequences_of, column, with_rows, with_counts}
use Rattle.columns.specs.Columns.{rising}
use Rattle.observer.specs.Judge.{row_known, rows_known, well_formed, judged, Step, step}
use Rattle.columns.specs.Place.{holds}
use Rattle.observer.specs.Place.{place_of, was_sent, row_of, highest_marked}
use Rattle.observer.specs.Sending.{resent, entered, sending_causes, record_sent}
use Rattle.observer.specs.Returning.{returned, return_causes, after_return, record_return, record_error_indication}
use Rattle.observer.specs.declared.ObserverCounts.{ObserverCounts}
use Rattle.observer.specs.Claims.{PutBack, MalformedIs, FreshIsWell, Call, sending, returning, indicating, record_call, CallsKeepWell, SameFrom, RestKept, SearchFinds, FullOnlyWhenFull, FullAtRow2049, SentAgain, BelowHighestMarked}
use Rattle.columns.proofs.Search.{both_left, both_right, rising_at, place_at, held_within}
use Rattle.rows.specs.Columns.{column_lengths}
use Rattle.rows.proofs.Within.{holds_2048}
use Rattle.observer.proofs.Rows.{rows_are, rows_with, counts_with, field_at}
use Rattle.observer.proofs.Judging.{overfull}
use Rattle.observer.proofs.OutOfOrder.{below_highest}
use Rattle.observer.proofs.Calls.{sent_again_lem, sent_full, sent_new_lem, return_unknown, return_early, return_duplicate, return_first, indication_counted}
use Rattle.observer.proofs.Keeping.{WellRows, well_rows, counts_well, set_well, put_well, row_known_lem}

pub put_back : PutBack
put_back = rows_with

pub fresh_is_well : FreshIsWell
unfolding well_formed rows capacity
fresh_is_well o e =
    let none : o.counts.used ≡ 0 = ap (λ (c : ObserverCounts). c.used) e in
    rw none (and_both _ _ (le-leb 0 (capacity o) (omega arith)) refl)

pub below_highest_marked : BelowHighestMarked
below_highest_marked = below_highest

-- ---- what is malformed

-- what does not hold of a well-formed observer makes it malformed
refuted : (o : Observer) → (well_formed o ≡ true → ⊥) → well_formed o ≡ false
refuted o h = go (well_formed o) h
  where
    go : (b : Bool) → (b ≡ true → ⊥) → b ≡ false
    go true h = absurd (h refl)
    go false h = refl

neighbours_rise : (rs : List Row) → ((k : ℕ) → suc k < length rs → (row_at k rs).sequence < (row_at (suc k) rs).sequence) → rising (sequences_of rs) ≡ true
neighbours_rise [] h = refl
neighbours_rise (r ∷ []) h = refl
neighbours_rise (r ∷ s ∷ rs) h = and_both _ _ (lt-ltb _ _ (h 0 (omega arith))) (neighbours_rise (s ∷ rs) (λ k g. h (suc k) (omega arith)))

-- the mark of a known row is 0 or 1, and without a mark the arrival time is 0
pub mark_of_known : (r : Row) → row_known r ≡ true → r.mark ≤ 1
mark_of_known r e = omega (arith, ltb-true r.mark 2 (both_left _ _ e))

arrival_of_known : (r : Row) → row_known r ≡ true → r.mark ≡ 0 → r.arrival_timestamp_ns ≡ 0
arrival_of_known r e m = go (eqb r.mark 1) refl (both_right (ltb r.mark 2) _ e)
  where
    go : (b : Bool) → eqb r.mark 1 ≡ b → (b || eqb r.arrival_timestamp_ns 0) ≡ true → r.arrival_timestamp_ns ≡ 0
    go true f g = absurd (omega (arith, eqb-true r.mark 1 f))
    go false f g = eqb-true _ 0 g

row_is_known : (r : Row) → r.mark ≤ 1 → (r.mark ≡ 0 → r.arrival_timestamp_ns ≡ 0) → row_known r ≡ true
row_is_known r m a = and_both _ _ (lt-ltb r.mark 2 (omega arith)) (go (eqb r.mark 1) refl)
  where
    go : (b : Bool) → eqb r.mark 1 ≡ b → (b || eqb r.arrival_timestamp_ns 0) ≡ true
    go true f = refl
    go false f = eq-eqb _ 0 (a (omega (arith, eqb-false r.mark 1 f)))

all_known : (rs : List Row) → ((k : ℕ) → k < length rs → (row_at k rs).mark ≤ 1)
    → ((k : ℕ) → k < length rs → (row_at k rs).mark ≡ 0 → (row_at k rs).arrival_timestamp_ns ≡ 0) → rows_known rs ≡ true
all_known [] h g = refl
all_known (r ∷ rs) h g =
    and_both _ _ (row_is_known r (h 0 (omega arith)) (g 0 (omega arith))) (all_known rs (λ k l. h (suc k) (omega arith)) (λ k l. g (suc k) (omega arith)))

pub malformed_is : MalformedIs
unfolding well_formed
malformed_is o =
    let rs : List Row = rows o in
    let l : length (sequences_of rs) ≡ length rs = length-map rs (λ x. x.sequence) in
    record {
      above_capacity = overfull o;
      not_rising = λ k h g.
          refuted o
          (λ w. omega (
            arith,
            rising_at (sequences_of rs) k (suc k) (well_rows o w).rises (omega arith) (omega arith),
            field_at (λ x. x.sequence) rs k (omega arith),
            field_at (λ x. x.sequence) rs (suc k) h,
          ));
      unknown_mark = λ k h g. refuted o (λ w. omega (arith, mark_of_known (row_at k rs) (row_known_lem o k (well_rows o w))));
      unmarked_arrival = λ k h m g. refuted o (λ w. omega (arith, arrival_of_known (row_at k rs) (row_known_lem o k (well_rows o w)) m));
      otherwise = λ fits rise marks arrivals.
          and_both _ _ (le-leb o.counts.used (capacity o) fits) (and_both _ _ (neighbours_rise rs rise) (all_known rs marks arrivals));
    }

-- ---- the calls keep an observer well formed

-- what is left well formed, by an equation of the step
kept : {s : Step} {z : Step} → s ≡ z → well_formed s.observer ≡ true → well_formed z.observer ≡ true
kept e h = rw e at h

module _ (o : Observer) (w : well_formed o ≡ true) where
  rows_well_at : WellRows o
  rows_well_at = well_rows o w

  count : length (rows o) ≡ o.counts.used
  count = (rows_are o rows_well_at.fits).count

  -- tests decide which way a call goes
  keeps_sent : (q t : ℕ) → well_formed (record_sent o q t).observer ≡ true
  keeps_sent q t = go (was_sent q (rows o)) (eqb o.counts.used (capacity o)) refl refl
    where
      go : (known full : Bool) → was_sent q (rows o) ≡ known → eqb o.counts.used (capacity o) ≡ full → well_formed (record_sent o q t).observer ≡ true
      go true full e f =
          kept (sent_again_lem o w q t e)
          (set_well o o.counts (place_of q (rows o)) (resent t (row_of q (rows o))) rows_well_at count refl (row_known_lem o (place_of q (rows o)) rows_well_at))
      go false true e f = kept (sent_full o w q t e (eqb-true _ _ f)) w
      go false false e f = kept (sent_new_lem o w q t e (eqb-false _ _ f)) (put_well o q t rows_well_at count (eqb-false _ _ f) e)

  keeps_arrival : (q t : ℕ) → well_formed (record_return o t q).observer ≡ true
  keeps_arrival q t = go (was_sent q (rows o)) (ltb t (row_of q (rows o)).send_timestamp_ns) (eqb (row_of q (rows o)).mark 1) refl refl refl
    where
      go : (known early marked : Bool) → was_sent q (rows o) ≡ known → ltb t (row_of q (rows o)).send_timestamp_ns ≡ early → eqb (row_of q (rows o)).mark 1 ≡ marked
          → well_formed (record_return o t q).observer ≡ true
      go false early marked e f g = kept (return_unknown o w q t e) w
      go true true marked e f g = kept (return_early o w q t e (ltb-true _ _ f)) w
      go true false true e f g =
          kept (return_duplicate o w q t e (ltb-false _ _ f) (eqb-true _ _ g)) (counts_well (one_duplicate o.counts) o refl ∙ w)
      go true false false e f g =
          kept (return_first o w q t e (ltb-false _ _ f) (eqb-false _ _ g))
          (set_well o (out_of_order_if (ltb q (highest_marked (rows o))) o.counts) (place_of q (rows o)) (returned t (row_of q (rows o))) rows_well_at count refl refl)

  pub keeps : (call : Call) → well_formed (record_call o call).observer ≡ true
  keeps (sending q t) = keeps_sent q t
  keeps (returning t q) = keeps_arrival q t
  keeps indicating = kept (indication_counted o w) (counts_well (one_error_indication o.counts) o refl ∙ w)

pub calls_keep_well : CallsKeepWell
calls_keep_well o [] w = w
calls_keep_well o (call ∷ calls) w = calls_keep_well (record_call o call).observer calls (keeps o w call)

-- ---- rows past the count

column_kept : (field : Row → ℕ) (rs : List Row) (old : List ℕ) → drop (length rs) (column field rs old) ≡ drop (length rs) old
column_kept field rs old = drop_at (map field rs) (drop (length rs) old) (length rs) (length-map rs field)

module _ (o : Observer) where
  abbrev Rest : Observer → Type 0
  Rest next = SameFrom next.counts.used o.columns next.columns

  counted : (c : ObserverCounts) → Rest (with_counts c o)
  counted c = record { sequences = refl; send_timestamps = refl; latencies = refl; marks = refl; arrival_timestamps = refl }

  written : (rs : List Row) (c : ObserverCounts) → Rest (with_rows rs (with_counts c o))
  unfolding with_rows
  written rs c = record {
    sequences = column_kept (λ r. r.sequence) rs o.columns.sequences;
    send_timestamps = column_kept (λ r. r.send_timestamp_ns) rs o.columns.send_timestamps;
    latencies = column_kept (λ r. r.latency) rs o.columns.latencies;
    marks = column_kept (λ r. r.mark) rs o.columns.marks;
    arrival_timestamps = column_kept (λ r. r.arrival_timestamp_ns) rs o.columns.arrival_timestamps;
  }

  -- a refusal leaves all as it was
  caused : (causes : List Cause) (x : Outcome Observer) → Rest (step o x).observer → Rest (step o (first_cause causes x)).observer
  unfolding first_cause
  caused [] x h = h
  caused ((true ⇒ n) ∷ causes) x h = counted o.counts
  caused ((false ⇒ n) ∷ causes) x h = caused causes x h

  after_judging : (x : Outcome Observer) → Rest (step o x).observer → Rest (step o (judged o x)).observer
  unfolding judged
  after_judging x h = caused _ x h

  after_return_lem : (q t : ℕ) → Rest (after_return o q t)
  unfolding after_return
  after_return_lem q t = go (eqb (row_of q (rows o)).mark 1)
    where
      go : (b : Bool)
          → Rest
          (elim b [
            | true ↦ with_counts (one_duplicate o.counts) o
            | false ↦
                with_rows (set (rows o) (place_of q (rows o)) (returned t (row_of q (rows o))))
                (with_counts (out_of_order_if (ltb q (highest_marked (rows o))) o.counts) o)
          ])
      go true = counted (one_duplicate o.counts)
      go false = written _ _

  after_call : (call : Call) → Rest (record_call o call).observer
  unfolding record_sent record_return record_error_indication
  after_call (sending q t) = after_judging _ (caused (sending_causes o q) (gives _) (written (entered q t (rows o)) o.counts))
  after_call (returning t q) = after_judging _ (caused (return_causes o q t) (gives _) (after_return_lem q t))
  after_call indicating = after_judging (gives _) (counted (one_error_indication o.counts))

pub rest_kept : RestKept
rest_kept o call = after_call o call

-- ---- the search

module _ (rs : List Row) (r : rising (sequences_of rs) ≡ true) where
  pub place_of_row : (k : ℕ) → k < length rs → place_of (get_or (sequences_of rs) k 0) rs ≡ k
  place_of_row k h =
      let l : length (sequences_of rs) ≡ length rs = length-map rs (λ x. x.sequence) in
      place_at (get_or (sequences_of rs) k 0) (sequences_of rs) k (omega arith)
      (λ i g. rising_at (sequences_of rs) i k r g (omega arith)) (λ g. omega arith)

  pub finds_row : (k : ℕ) → k < length rs → was_sent (get_or (sequences_of rs) k 0) rs ≡ true
  unfolding holds
  finds_row k h =
      let q : ℕ = get_or (sequences_of rs) k 0 in
      let l : length (sequences_of rs) ≡ length rs = length-map rs (λ x. x.sequence) in
      ap (λ (i : ℕ). holds q i (sequences_of rs)) (place_of_row k h)
      ∙ and_both _ _ (lt-ltb k (length (sequences_of rs)) (omega arith)) (eq-eqb q q refl)

pub search_finds : SearchFinds
unfolding holds
search_finds o w =
    let rs : List Row = rows o in
    let r = (well_rows o w).rises in
    record {
      every_row = λ k h. rw (← field_at (λ x. x.sequence) rs k h) (finds_row rs r k h, place_of_row rs r k h);
      no_other = λ q e.
          let k : ℕ = place_of q rs in
          let l : length (sequences_of rs) ≡ length rs = length-map rs (λ x. x.sequence) in
          let h : k < length rs = omega (arith, held_within q k (sequences_of rs) e) in
          (h, sym (field_at (λ x. x.sequence) rs k h) ∙ eqb-true _ q (both_right (ltb k (length (sequences_of rs))) _ e));
    }

-- ---- a new sequence, and one sent again

pub full_only_when_full : FullOnlyWhenFull
full_only_when_full o q t w e =
    record {
      full = λ f. ap (λ (s : Step). s.outcome) (sym (sent_full o w q t e f));
      room = λ f. ap (λ (s : Step). s.outcome) (sym (sent_new_lem o w q t e f));
      enters = λ f. ap (λ (s : Step). rows s.observer) (sym (sent_new_lem o w q t e f)) ∙ rows_with _ o;
    }

pub full_at_row_2049 : FullAtRow2049
unfolding capacity
full_at_row_2049 o q t w e long =
    let n = full_only_when_full o q t w e in
    let most : capacity o ≡ 2048 = holds_2048 (column_lengths o.columns) long in
    record { up_to_2048 = λ h. n.room (λ f. omega arith); not_2049 = λ h. n.full (h ∙ sym most) }

pub sent_again_time : SentAgain
sent_again_time o q t w e =
    let r : Row = resent t (row_of q (rows o)) in
    let again = sym (sent_again_lem o w q t e) in
    let l : length (set (rows o) (place_of q (rows o)) r) ≡ o.counts.used = length-set (rows o) (place_of q (rows o)) r ∙ count o w in
    record {
      accepted = ap (λ (s : Step). s.outcome) again;
      row = ap (λ (s : Step). rows s.observer) again ∙ rows_with _ o;
      counts = ap (λ (s : Step). s.observer.counts) again ∙ counts_with _ o ∙ ap (λ (n : ℕ). with_used n o.counts) l;
    }
