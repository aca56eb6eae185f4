-- Each call by its ways out, on the used rows. Callers and claims use these laws, and not the text of the definitions.
use Prim.Native.Nat.{ℕ, ◌≤◌, ◌<◌}
use mathlib.Core.Path.{◌≡◌, sym, ap, ◌∙◌}
use mathlib.Core.Bool.{Bool, true, false, not}
use lib.Dec.{eqb, ltb}
use lib.ListN.{set}
use borrow.Author.Tests.{eq-eqb, ne_eqb, lt-ltb, le-ltb}
use Rattle.error.specs.Number.{malformed_observer, observer_full, sequence_was_not_sent, timestamp_reversed}
use Rattle.error.specs.Outcome.{Outcome, refused, gives, first_cause}
use Rattle.error.proofs.Causes.{refuses, passes, here, later, past, none}
use Rattle.error.proofs.Tests.{and_left, and_right, and_both}
use Rattle.observer.specs.Counts.{one_duplicate, out_of_order_if, one_error_indication}
use Rattle.observer.specs.Observer.{Observer, capacity, rows, sent_row, with_rows, with_counts}
use Rattle.observer.specs.Judge.{well_formed, judged, step, refusing}
use Rattle.observer.specs.Place.{place_of, was_sent, row_of, highest_marked}
use Rattle.observer.specs.Sending.{resent, entered, sending_causes, record_sent}
use Rattle.observer.specs.Returning.{returned, return_causes, after_return, record_return, record_error_indication}
use Rattle.observer.proofs.Rows.{put_in}

-- ---- 21

pub judged_malformed : {A : Type 0} (o : Observer) (x : Outcome A) → well_formed o ≡ false → refused malformed_observer ≡ judged o x
unfolding judged
judged_malformed o x e = refuses x (here (ap not e))

pub judged_well : {A : Type 0} (o : Observer) (x : Outcome A) → well_formed o ≡ true → x ≡ judged o x
unfolding judged
judged_well o x e = passes x (past (ap not e) none)

pub sent_malformed : (o : Observer) (q t : ℕ) → well_formed o ≡ false → step o (refused malformed_observer) ≡ record_sent o q t
unfolding record_sent
sent_malformed o q t e = ap (step o) (judged_malformed o _ e)

pub return_malformed : (o : Observer) (t q : ℕ) → well_formed o ≡ false → step o (refused malformed_observer) ≡ record_return o t q
unfolding record_return
return_malformed o t q e = ap (step o) (judged_malformed o _ e)

pub indication_malformed : (o : Observer) → well_formed o ≡ false → step o (refused malformed_observer) ≡ record_error_indication o
unfolding record_error_indication
indication_malformed o e = ap (step o) (judged_malformed o _ e)

-- a refusal after 21
pub refusing_malformed : (o : Observer) (n : ℕ) → well_formed o ≡ false → step o (refused malformed_observer) ≡ refusing o n
refusing_malformed o n e = ap (step o) (judged_malformed o _ e)

pub refusing_well : (o : Observer) (n : ℕ) → well_formed o ≡ true → step o (refused n) ≡ refusing o n
refusing_well o n e = ap (step o) (judged_well o _ e)

-- ---- sending

module _ (o : Observer) (w : well_formed o ≡ true) (q t : ℕ) where
  sends : (x : Outcome Observer) → x ≡ first_cause (sending_causes o q) (gives (with_rows (entered q t (rows o)) o)) → step o x ≡ record_sent o q t
  unfolding record_sent
  sends x e = ap (step o) (e ∙ judged_well o _ w)

  abbrev entered_if : Bool → Observer
  entered_if known =
      with_rows
      (elim known [
        | true ↦ set (rows o) (place_of q (rows o)) (resent t (row_of q (rows o)))
        | false ↦ put_in (place_of q (rows o)) (sent_row q t) (rows o)
      ])
      o

  enters : (known : Bool) → was_sent q (rows o) ≡ known → entered_if known ≡ with_rows (entered q t (rows o)) o
  unfolding entered
  enters known e = sym (ap entered_if e)

  -- the sequence is on the sheet
  pub sent_again_lem : was_sent q (rows o) ≡ true
      → step o (gives (with_rows (set (rows o) (place_of q (rows o)) (resent t (row_of q (rows o)))) o)) ≡ record_sent o q t
  unfolding sending_causes
  sent_again_lem e = sends _ (ap (λ (x : Observer). gives x) (enters true e) ∙ passes _ (past (and_left _ _ (ap not e)) none))

  -- it is not, and no row is free
  pub sent_full : was_sent q (rows o) ≡ false → o.counts.used ≡ capacity o → step o (refused observer_full) ≡ record_sent o q t
  unfolding sending_causes
  sent_full e f = sends _ (refuses _ (here (and_both _ _ (ap not e) (eq-eqb _ _ f))))

  -- it is not, and a row is put in
  pub sent_new_lem : was_sent q (rows o) ≡ false → (o.counts.used ≡ capacity o → ⊥)
      → step o (gives (with_rows (put_in (place_of q (rows o)) (sent_row q t) (rows o)) o)) ≡ record_sent o q t
  unfolding sending_causes
  sent_new_lem e f =
      sends _
      (ap (λ (x : Observer). gives x) (enters false e)
      ∙ passes _ (past {m = observer_full} (and_right (not (was_sent q (rows o))) _ (ne_eqb _ _ f)) none))

-- ---- a return

module _ (o : Observer) (w : well_formed o ≡ true) (q t : ℕ) where
  arrives : (x : Outcome Observer) → x ≡ first_cause (return_causes o q t) (gives (after_return o q t)) → step o x ≡ record_return o t q
  unfolding record_return
  arrives x e = ap (step o) (e ∙ judged_well o _ w)

  -- the sequence is not on the sheet
  pub return_unknown : was_sent q (rows o) ≡ false → step o (refused sequence_was_not_sent) ≡ record_return o t q
  unfolding return_causes
  return_unknown e = arrives _ (refuses _ (here (ap not e)))

  -- it is
  module _ (s : was_sent q (rows o) ≡ true) where
    pub return_early : t < (row_of q (rows o)).send_timestamp_ns → step o (refused timestamp_reversed) ≡ record_return o t q
    unfolding return_causes
    return_early h = arrives _ (refuses _ (later (ap not s) (here (lt-ltb _ _ h))))

    abbrev returned_if : Bool → Observer
    returned_if marked =
        elim marked [
          | true ↦ with_counts (one_duplicate o.counts) o
          | false ↦
              with_rows (set (rows o) (place_of q (rows o)) (returned t (row_of q (rows o))))
              (with_counts (out_of_order_if (ltb q (highest_marked (rows o))) o.counts) o)
        ]

    taken : (marked : Bool) → (row_of q (rows o)).send_timestamp_ns ≤ t → eqb (row_of q (rows o)).mark 1 ≡ marked
        → step o (gives (returned_if marked)) ≡ record_return o t q
    unfolding return_causes after_return
    taken marked h e =
        arrives _
        (ap (λ (x : Observer). gives x) (sym (ap returned_if e)) ∙ passes _ (past (ap not s) (past (le-ltb _ _ h) none)))

    -- its row is marked
    pub return_duplicate : (row_of q (rows o)).send_timestamp_ns ≤ t → (row_of q (rows o)).mark ≡ 1
        → step o (gives (with_counts (one_duplicate o.counts) o)) ≡ record_return o t q
    return_duplicate h m = taken true h (eq-eqb _ _ m)

    -- it is not, and is now
    pub return_first : (row_of q (rows o)).send_timestamp_ns ≤ t → ((row_of q (rows o)).mark ≡ 1 → ⊥)
        → step o
        (gives
        (with_rows (set (rows o) (place_of q (rows o)) (returned t (row_of q (rows o))))
        (with_counts (out_of_order_if (ltb q (highest_marked (rows o))) o.counts) o)))
        ≡ record_return o t q
    return_first h m = taken false h (ne_eqb _ _ m)

-- ---- an error indication

pub indication_counted : (o : Observer) → well_formed o ≡ true
    → step o (gives (with_counts (one_error_indication o.counts) o)) ≡ record_error_indication o
unfolding record_error_indication
indication_counted o e = ap (step o) (judged_well o _ e)
