-- Each call by its ways out. The code reads the columns through one reference, as l, and writes them through another,
-- as c.
use Prim.Native.Nat.{ℕ, ◌+◌, ◌-◌, ◌≤◌, ◌<◌}
use mathlib.Core.Path.{◌≡◌, refl, sym, ap, subst, ◌∙◌}
use mathlib.Core.Bool.{Bool, true, false}
use lib.Dec.{leb, ltb, eqb}
use lib.ListN.{get_or, take, drop, set}
use borrow.Author.Tests.{le-leb, lt-leb, lt-ltb, le-ltb, eq-eqb, ne_eqb}
use Rattle.error.specs.Number.{malformed_observer, observer_full, sequence_was_not_sent, timestamp_reversed}
use Rattle.error.specs.Outcome.{Outcome, refused, gives}
use Rattle.columns.specs.Columns.{any_marked}
use Rattle.columns.specs.Place.{holds, found}
use Rattle.rows.specs.Columns.{Columns, columns_of, column_lengths, capacity_of, Left}
use Rattle.rows.specs.Search.{RowOf, PlaceFor}
use Rattle.rows.specs.Entering.{sent_again, sent_new, entering_at, entering}
use Rattle.rows.specs.Arriving.{returned_at, arriving_at, arriving_from, arriving}
use Rattle.rows.specs.declared.Arrival.{Arrival}
use Rattle.rows.specs.declared.Arrival.TheVariants.{InOrder, OutOfOrder, Duplicate}

-- ---- a packet is entered

module _ (n q t : ℕ) {l c : Columns} (same : l ≡ c) where
  -- what was shown of the columns that are read holds of those that are written
  enters_as : (answer : Outcome ℕ) (changed : Columns → Columns) → record { answer = answer; columns = changed l } ≡ entering n q t l
      → record { answer = answer; columns = changed c } ≡ entering n q t c
  enters_as answer changed e = subst (λ (x : Columns). record { answer = answer; columns = changed x } ≡ entering n q t x) same e

  abbrev entering_if : Bool → Left (Outcome ℕ)
  entering_if fits =
      elim fits [
        | true ↦ entering_at n (found q (take n l.sequences)) q t l
        | false ↦ record { answer = refused malformed_observer; columns = l }
      ]

  entering_if_lem : (fits : Bool) → leb n (capacity_of (column_lengths l)) ≡ fits → entering_if fits ≡ entering n q t l
  unfolding entering
  entering_if_lem fits e = ap entering_if (sym e)

  -- the used rows do not fit
  pub enters_nothing : capacity_of (column_lengths l) < n → record { answer = refused malformed_observer; columns = c } ≡ entering n q t c
  enters_nothing h = enters_as _ (λ x. x) (entering_if_lem false (lt-leb n _ h))

  module _ (fits : n ≤ capacity_of (column_lengths l)) (k : ℕ) where
    abbrev entering_at_if : Bool → Bool → Left (Outcome ℕ)
    entering_at_if has full =
        elim has [
          | true ↦ record { answer = gives n; columns = sent_again k t l }
          | false ↦ elim full [ true ↦ record { answer = refused observer_full; columns = l } | false ↦ record { answer = gives (n + 1); columns = sent_new n k q t l } ]
        ]

    entering_at_lem : (has full : Bool) → k ≡ found q (take n l.sequences) → holds q k (take n l.sequences) ≡ has → eqb n (capacity_of (column_lengths l)) ≡ full
        → entering_at_if has full ≡ entering n q t l
    unfolding entering_at
    entering_at_lem has full at e f =
        sym (λ i. entering_at_if (e i) (f i))
        ∙ ap (λ (i : ℕ). entering_at n i q t l) at
        ∙ entering_if_lem true (le-leb n _ fits)

    -- the sequence has row k
    pub enters_again : RowOf q n l k → record { answer = gives n; columns = sent_again k t c } ≡ entering n q t c
    enters_again r = enters_as _ (sent_again k t) (entering_at_lem true (eqb n (capacity_of (column_lengths l))) r.at r.held refl)

    -- it has none, and none is free
    pub enters_full : PlaceFor q n l k → n ≡ capacity_of (column_lengths l) → record { answer = refused observer_full; columns = c } ≡ entering n q t c
    enters_full p f = enters_as _ (λ x. x) (entering_at_lem false true p.at p.not_held (eq-eqb n _ f))

    -- it has none, and one is put in
    pub enters_new : PlaceFor q n l k → (n ≡ capacity_of (column_lengths l) → ⊥)
        → record { answer = gives (n + 1); columns = sent_new n k q t c } ≡ entering n q t c
    enters_new p f = enters_as _ (sent_new n k q t) (entering_at_lem false false p.at p.not_held (ne_eqb n _ f))

-- ---- a sequence returns

module _ (n t q : ℕ) {l c : Columns} (same : l ≡ c) where
  arrives_as : (answer : Outcome Arrival) (changed : Columns → Columns) → record { answer = answer; columns = changed l } ≡ arriving n t q l
      → record { answer = answer; columns = changed c } ≡ arriving n t q c
  arrives_as answer changed e = subst (λ (x : Columns). record { answer = answer; columns = changed x } ≡ arriving n t q x) same e

  abbrev arriving_if : Bool → Left (Outcome Arrival)
  arriving_if fits =
      elim fits [
        | true ↦ arriving_from n (found q (take n l.sequences)) t q l
        | false ↦ record { answer = refused malformed_observer; columns = l }
      ]

  arriving_if_lem : (fits : Bool) → leb n (capacity_of (column_lengths l)) ≡ fits → arriving_if fits ≡ arriving n t q l
  unfolding arriving
  arriving_if_lem fits e = ap arriving_if (sym e)

  -- the used rows do not fit
  pub arrives_nowhere : capacity_of (column_lengths l) < n → record { answer = refused malformed_observer; columns = c } ≡ arriving n t q c
  arrives_nowhere h = arrives_as _ (λ x. x) (arriving_if_lem false (lt-leb n _ h))

  module _ (fits : n ≤ capacity_of (column_lengths l)) (k : ℕ) where
    abbrev arriving_from_if : Bool → Left (Outcome Arrival)
    arriving_from_if has = elim has [ true ↦ arriving_at n k t l | false ↦ record { answer = refused sequence_was_not_sent; columns = l } ]

    arriving_from_lem : (has : Bool) → k ≡ found q (take n l.sequences) → holds q k (take n l.sequences) ≡ has → arriving_from_if has ≡ arriving n t q l
    unfolding arriving_from
    arriving_from_lem has at e =
        ap arriving_from_if (sym e) ∙ ap (λ (i : ℕ). arriving_from n i t q l) at ∙ arriving_if_lem true (le-leb n _ fits)

    -- the sequence is not on the sheet
    pub arrives_unknown : PlaceFor q n l k → record { answer = refused sequence_was_not_sent; columns = c } ≡ arriving n t q c
    arrives_unknown p = arrives_as _ (λ x. x) (arriving_from_lem false p.at p.not_held)

    -- it has row k
    module _ (r : RowOf q n l k) where
      abbrev arriving_at_if : Bool → Bool → Bool → Left (Outcome Arrival)
      arriving_at_if early marked late =
          elim early [
            | true ↦ record { answer = refused timestamp_reversed; columns = l }
            | false ↦
                elim marked [
                  | true ↦ record { answer = gives Duplicate; columns = l }
                  | false ↦ record { answer = elim late [ true ↦ gives OutOfOrder | false ↦ gives InOrder ]; columns = returned_at k t l }
                ]
          ]

      arriving_at_lem : (early marked late : Bool) → ltb t (get_or l.send_timestamps k 0) ≡ early → eqb (get_or l.marks k 0) 1 ≡ marked
          → any_marked (drop (k + 1) (take n l.marks)) ≡ late → arriving_at_if early marked late ≡ arriving n t q l
      unfolding arriving_at
      arriving_at_lem early marked late e f g = sym (λ i. arriving_at_if (e i) (f i) (g i)) ∙ arriving_from_lem true r.at r.held

      pub arrives_early : t < get_or l.send_timestamps k 0 → record { answer = refused timestamp_reversed; columns = c } ≡ arriving n t q c
      arrives_early h = arrives_as _ (λ x. x) (arriving_at_lem true (eqb (get_or l.marks k 0) 1) _ (lt-ltb t _ h) refl refl)

      module _ (h : get_or l.send_timestamps k 0 ≤ t) where
        pub arrives_again : get_or l.marks k 0 ≡ 1 → record { answer = gives Duplicate; columns = c } ≡ arriving n t q c
        arrives_again e = arrives_as _ (λ x. x) (arriving_at_lem false true _ (le-ltb t _ h) (eq-eqb _ _ e) refl)

        -- the row with the latency by the send time that was read
        abbrev returned_by : Columns → Columns
        returned_by x =
            columns_of x.sequences x.send_timestamps (set x.latencies k (t - get_or l.send_timestamps k 0)) (set x.marks k 1) (set x.arrival_timestamps k t)

        pub arrives_late : (get_or l.marks k 0 ≡ 1 → ⊥) → any_marked (drop (k + 1) (take n l.marks)) ≡ true
            → record { answer = gives OutOfOrder; columns = returned_by c } ≡ arriving n t q c
        arrives_late e g = arrives_as _ returned_by (arriving_at_lem false false true (le-ltb t _ h) (ne_eqb _ _ e) g)

        pub arrives_in_order : (get_or l.marks k 0 ≡ 1 → ⊥) → any_marked (drop (k + 1) (take n l.marks)) ≡ false
            → record { answer = gives InOrder; columns = returned_by c } ≡ arriving n t q c
        arrives_in_order e g = arrives_as _ returned_by (arriving_at_lem false false false (le-ltb t _ h) (ne_eqb _ _ e) g)
