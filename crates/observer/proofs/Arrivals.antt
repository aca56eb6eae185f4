-- The claims of specs/Arrivals.antt, proved. In the rows after a call the row of a sequence is found at some index: the one that it had,
-- or the next one, where a row was put in before it.
use Prim.Native.Nat.{ℕ, zero, suc, ◌≤◌, ◌<◌}
use mathlib.Core.Path.{◌≡◌, refl, sym, ap, ◌∙◌}
use mathlib.Core.List.{List, [], ◌∷◌}
use mathlib.Core.Bool.{Bool, true, false}
use native.Mathlib.Nat.{le_of_suc-le-suc}
use native.Mathlib.Omega.{arith}
use lib.Dec.{eqb, ltb}
use lib.ListN.{length, get_or, set, length-set}
use lib.Seq.{get_or-set_same, get_or-set_other}
use borrow.Author.Tests.{eqb-true, eqb-false, ltb-true, ltb-false}
use Rattle.columns.specs.Columns.{rising}
use Rattle.observer.specs.Counts.{one_duplicate, one_error_indication}
use Rattle.observer.specs.Observer.{Row, Observer, capacity, rows, row_at, sent_row, sequences_of, with_counts}
use Rattle.observer.specs.Judge.{well_formed, Step}
use Rattle.observer.specs.Place.{place_of, was_sent, row_of}
use Rattle.observer.specs.Sending.{resent}
use Rattle.observer.specs.Returning.{returned}
use Rattle.observer.specs.declared.ObserverCounts.{ObserverCounts}
use Rattle.observer.specs.Claims.{Call, sending, returning, indicating, record_call}
use Rattle.observer.specs.Arrivals.{FirstReturn, ReturnKept, ArrivalKept, ArrivalKeptForGood, FirstReturnArrives, ResendParts}
use Rattle.observer.proofs.Rows.{rows_with, field_at, put_in, length_put}
use Rattle.observer.proofs.Calls.{sent_again_lem, sent_full, sent_new_lem, return_unknown, return_early, return_duplicate, return_first, indication_counted}
use Rattle.observer.proofs.Keeping.{well_rows, row_known_lem}
use Rattle.observer.proofs.Claims.{keeps, place_of_row, finds_row, search_finds, mark_of_known}

-- ---- rows found again

-- where rows rise, a sequence's row is the one that has it
module _ (rs : List Row) (rises : rising (sequences_of rs) ≡ true) (q i : ℕ) (h : i < length rs) (e : (row_at i rs).sequence ≡ q) where
  sequence_at : get_or (sequences_of rs) i 0 ≡ q
  sequence_at = field_at (λ r. r.sequence) rs i h ∙ e

  found_sent : was_sent q rs ≡ true
  found_sent = ap (λ (x : ℕ). was_sent x rs) (sym sequence_at) ∙ finds_row rs rises i h

  found_row : row_of q rs ≡ row_at i rs
  found_row =
      ap (λ (x : ℕ). row_of x rs) (sym sequence_at) ∙ ap (λ (k : ℕ). row_at k rs) (place_of_row rs rises i h)

put_before : (rs : List Row) (j i : ℕ) (r : Row) → i < j → i < length rs → row_at i (put_in j r rs) ≡ row_at i rs
put_before [] j i r g h = absurd (omega arith)
put_before (x ∷ rs) zero i r g h = absurd (omega arith)
put_before (x ∷ rs) (suc j) zero r g h = refl
put_before (x ∷ rs) (suc j) (suc i) r g h = put_before rs j i r (le_of_suc-le-suc g) (le_of_suc-le-suc h)

put_behind : (rs : List Row) (j i : ℕ) (r : Row) → j ≤ i → i < length rs → row_at (suc i) (put_in j r rs) ≡ row_at i rs
put_behind rs zero i r g h = refl
put_behind [] (suc j) i r g h = absurd (omega arith)
put_behind (x ∷ rs) (suc j) zero r g h = absurd (omega arith)
put_behind (x ∷ rs) (suc j) (suc i) r g h = put_behind rs j i r (le_of_suc-le-suc g) (le_of_suc-le-suc h)

-- ---- one call

-- the rows that a call leaves
left_rows : {x y : Step} → x ≡ y → rows y.observer ≡ rows x.observer
left_rows e = ap (λ (s : Step). rows s.observer) (sym e)

rows_counted : (c : ObserverCounts) (o : Observer) → c.used ≡ o.counts.used → rows (with_counts c o) ≡ rows o
unfolding rows
rows_counted c o e = rw e

module _ (o : Observer) (w : well_formed o ≡ true) (q : ℕ) (s : was_sent q (rows o) ≡ true) where
  abbrev rs : List Row
  rs = rows o

  abbrev k : ℕ
  k = place_of q rs

  below : k < length rs
  below = ((search_finds o w).no_other q s).0

  its_own : (row_at k rs).sequence ≡ q
  its_own = ((search_finds o w).no_other q s).1

  abbrev Kept : Observer → Type 0
  Kept next = ReturnKept q rs (rows next)

  -- all rows are as they were
  unmoved : (next : Observer) → rows next ≡ rs → Kept next
  unmoved next e = rw e (record { sent = s; latency = refl; mark = refl; arrival_timestamp_ns = refl })

  -- its row is this one, with what a return writes as it was
  found_as : (next : Observer) → was_sent q (rows next) ≡ true → (r : Row) → row_of q (rows next) ≡ r → r.latency ≡ (row_at k rs).latency
      → r.mark ≡ (row_at k rs).mark → r.arrival_timestamp_ns ≡ (row_at k rs).arrival_timestamp_ns → Kept next
  found_as next sent r e latency mark arrival = record {
    sent = sent;
    latency = ap (λ (x : Row). x.latency) e ∙ latency;
    mark = ap (λ (x : Row). x.mark) e ∙ mark;
    arrival_timestamp_ns = ap (λ (x : Row). x.arrival_timestamp_ns) e ∙ arrival;
  }

  module _ (next : Observer) (well : well_formed next ≡ true) where
    rises : rising (sequences_of (rows next)) ≡ true
    rises = (well_rows next well).rises

    -- its row stands at i
    moved : (i : ℕ) → i < length (rows next) → row_at i (rows next) ≡ row_at k rs → Kept next
    moved i h e =
        let own : (row_at i (rows next)).sequence ≡ q = ap (λ (r : Row). r.sequence) e ∙ its_own in
        found_as next (found_sent (rows next) rises q i h own) (row_at k rs) (found_row (rows next) rises q i h own ∙ e) refl refl refl

    -- its row is another
    replaced : (r : Row) → r.sequence ≡ q → rows next ≡ set rs k r → (was_sent q (rows next) ≡ true) × (row_of q (rows next) ≡ r)
    replaced r e put =
        let h : k < length (rows next) = omega (arith, below, ap length put, length-set rs k r) in
        let at : row_at k (rows next) ≡ r = ap (row_at k) put ∙ get_or-set_same rs k r (sent_row 0 0) below in
        let own : (row_at k (rows next)).sequence ≡ q = ap (λ (x : Row). x.sequence) at ∙ e in
        (found_sent (rows next) rises q k h own, found_row (rows next) rises q k h own ∙ at)

    -- another row is another
    beside : (j : ℕ) (r : Row) → (k ≡ j → ⊥) → rows next ≡ set rs j r → Kept next
    beside j r ne put =
        moved k (omega (arith, below, ap length put, length-set rs j r)) (ap (row_at k) put ∙ get_or-set_other rs j k r (sent_row 0 0) ne)

    -- a row is put in
    put_in_lem : (j : ℕ) (r : Row) → rows next ≡ put_in j r rs → Kept next
    put_in_lem j r put = go (ltb k j) refl
      where
        long : length (rows next) ≡ suc (length rs)
        long = ap length put ∙ length_put j r rs

        go : (b : Bool) → ltb k j ≡ b → Kept next
        go true e = moved k (omega (arith, below, long)) (ap (row_at k) put ∙ put_before rs j k r (ltb-true k j e) below)
        go false e = moved (suc k) (omega (arith, below, long)) (ap (row_at (suc k)) put ∙ put_behind rs j k r (ltb-false k j e) below)

  -- two sequences that were sent do not have the same row
  apart : (p : ℕ) → was_sent p rs ≡ true → (p ≡ q → ⊥) → k ≡ place_of p rs → ⊥
  apart p e ne same = ne (sym ((search_finds o w).no_other p e).1 ∙ ap (λ (i : ℕ). (row_at i rs).sequence) (sym same) ∙ its_own)

  kept_sending : (p t : ℕ) → Kept (record_call o (sending p t)).observer
  kept_sending p t = go (was_sent p rs) (eqb o.counts.used (capacity o)) (eqb p q) refl refl refl
    where
      well : well_formed (record_call o (sending p t)).observer ≡ true
      well = keeps o w (sending p t)

      again : was_sent p rs ≡ true → rows (record_call o (sending p t)).observer ≡ set rs (place_of p rs) (resent t (row_of p rs))
      again e = left_rows (sent_again_lem o w p t e) ∙ rows_with _ o

      go : (sent full same : Bool) → was_sent p rs ≡ sent → eqb o.counts.used (capacity o) ≡ full → eqb p q ≡ same → Kept (record_call o (sending p t)).observer
      go true full true e f g =
          let is : p ≡ q = eqb-true p q g in
          let own = replaced _ well (resent t (row_at k rs)) its_own (again e ∙ ap (λ (x : ℕ). set rs (place_of x rs) (resent t (row_of x rs))) is) in
          found_as _ own.0 (resent t (row_at k rs)) own.1 refl refl refl
      go true full false e f g = beside _ well (place_of p rs) (resent t (row_of p rs)) (apart p e (eqb-false p q g)) (again e)
      go false true same e f g = unmoved _ (left_rows (sent_full o w p t e (eqb-true _ _ f)))
      go false false same e f g =
          put_in_lem _ well (place_of p rs) (sent_row p t) (left_rows (sent_new_lem o w p t e (eqb-false _ _ f)) ∙ rows_with _ o)

  -- its first return
  first : (t : ℕ) → FirstReturn o (returning t q) q
      → let next = (record_call o (returning t q)).observer in
      (was_sent q (rows next) ≡ true) × (row_of q (rows next) ≡ returned t (row_at k rs))
  first t f =
      replaced _ (keeps o w (returning t q)) (returned t (row_at k rs)) its_own
      (left_rows (return_first o w q t s f.2 (λ m. omega (arith, m, f.1))) ∙ rows_with _ _)

  kept_returning : (t p : ℕ) → (FirstReturn o (returning t p) q → ⊥) → Kept (record_call o (returning t p)).observer
  kept_returning t p not_first =
      go (was_sent p rs) (ltb t (row_of p rs).send_timestamp_ns) (eqb (row_of p rs).mark 1) (eqb p q) refl refl refl refl
    where
      go : (sent early marked same : Bool) → was_sent p rs ≡ sent → ltb t (row_of p rs).send_timestamp_ns ≡ early → eqb (row_of p rs).mark 1 ≡ marked
          → eqb p q ≡ same → Kept (record_call o (returning t p)).observer
      go false early marked same e f g h = unmoved _ (left_rows (return_unknown o w p t e))
      go true true marked same e f g h = unmoved _ (left_rows (return_early o w p t e (ltb-true _ _ f)))
      go true false true same e f g h =
          unmoved _
          (left_rows (return_duplicate o w p t e (ltb-false _ _ f) (eqb-true _ _ g))
          ∙ rows_counted (one_duplicate o.counts) o refl)
      go true false false true e f g h =
          let is : p ≡ q = eqb-true p q h in
          let unmarked : (row_of p rs).mark ≡ 0 = omega (arith, eqb-false (row_of p rs).mark 1 g, mark_of_known (row_of p rs) (row_known_lem o (place_of p rs) (well_rows o w))) in
          absurd (not_first (is, sym (ap (λ (x : ℕ). (row_of x rs).mark) is) ∙ unmarked, omega (arith, ltb-false t (row_of p rs).send_timestamp_ns f, ap (λ (x : ℕ). (row_of x rs).send_timestamp_ns) is)))
      go true false false false e f g h =
          beside _ (keeps o w (returning t p)) (place_of p rs) (returned t (row_of p rs)) (apart p e (eqb-false p q h))
          (left_rows (return_first o w p t e (ltb-false _ _ f) (eqb-false _ _ g)) ∙ rows_with _ _)

  kept_by : (call : Call) → (FirstReturn o call q → ⊥) → Kept (record_call o call).observer
  kept_by (sending p t) not_first = kept_sending p t
  kept_by (returning t p) not_first = kept_returning t p not_first
  kept_by indicating not_first =
      unmoved _
      (left_rows (indication_counted o w) ∙ rows_counted (one_error_indication o.counts) o refl)

-- ---- the claims

pub arrival_kept : ArrivalKept
arrival_kept o call q w s not_first = kept_by o w q s call not_first

-- a marked row has no first return
not_again : (o : Observer) (call : Call) (q : ℕ) → (row_of q (rows o)).mark ≡ 1 → FirstReturn o call q → ⊥
not_again o (sending p t) q m f = f
not_again o (returning t p) q m f = omega (arith, m, f.1)
not_again o indicating q m f = f

pub arrival_kept_for_good : ArrivalKeptForGood
arrival_kept_for_good o [] q w s m = record { sent = s; latency = refl; mark = refl; arrival_timestamp_ns = refl }
arrival_kept_for_good o (call ∷ calls) q w s m =
    let one = arrival_kept o call q w s (not_again o call q m) in
    let rest = arrival_kept_for_good (record_call o call).observer calls q (keeps o w call) one.sent (one.mark ∙ m) in
    record {
      sent = rest.sent;
      latency = rest.latency ∙ one.latency;
      mark = rest.mark ∙ one.mark;
      arrival_timestamp_ns = rest.arrival_timestamp_ns ∙ one.arrival_timestamp_ns;
    }

pub first_return_arrives : FirstReturnArrives
first_return_arrives o q t w s f =
    rw (first o w q s t f).1
    (record { mark = refl; arrival_timestamp_ns = refl; sum = omega (arith, f.2) })

pub resend_parts : ResendParts
resend_parts o q t again w s f ne sum =
    let one = first o w q s t f in
    let after = (record_call o (returning t q)).observer in
    let well = keeps o w (returning t q) in
    let two =
    replaced after well q one.0 _ (keeps after well (sending q again)) (resent again (row_of q (rows after))) (its_own after well q one.0)
    (left_rows (sent_again_lem after well q again one.0) ∙ rows_with _ after) in
    let row = two.1 ∙ ap (resent again) one.1 in
    ne (omega (arith, f.2, sum, ap (λ (r : Row). r.latency) row, ap (λ (r : Row). r.send_timestamp_ns) row, ap (λ (r : Row). r.arrival_timestamp_ns) row))
