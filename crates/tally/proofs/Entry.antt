-- A plan's packets, entered on a fresh observer: the rows stand in plan order, and an observer with room takes them all.
use Prim.Native.Nat.{ℕ, zero, suc, ◌+◌, ◌≤◌, ◌<◌}
use native.Mathlib.Omega.{arith}
use mathlib.Core.Path.{◌≡◌, refl, sym, ap, ap₂, ◌∙◌, subst}
use mathlib.Core.Bool.{Bool, true, false, ◌&&◌}
use mathlib.Core.List.{List, [], ◌∷◌, ◌++◌, map, append_assoc, append-nil}
use lib.Dec.{eqb}
use lib.ListN.{length, get_or, take, drop, length-map, length-append}
use lib.Seq.{take-length, drop-length}
use borrow.Author.Tests.{le-ltb}
use Rattle.error.specs.Outcome.{gives}
use Rattle.error.proofs.Causes.{refused_gives}
use Rattle.plan.specs.Plan.{time_at, packets_from, packets_of}
use Rattle.plan.specs.declared.TrafficPlan.{TrafficPlan}
use Rattle.observer.specs.Counts.{fresh}
use Rattle.observer.specs.Observer.{Row, Observer, capacity, rows, sequences_of, sent_row, with_rows}
use Rattle.observer.specs.Judge.{well_formed, Step, step}
use Rattle.columns.specs.Place.{holds}
use Rattle.observer.specs.Place.{place_of, was_sent}
use Rattle.observer.specs.Sending.{record_sent}
use Rattle.observer.specs.Claims.{sending}
use Rattle.observer.specs.declared.ObserverCounts.{ObserverCounts}
use Rattle.columns.proofs.Search.{place_at}
use Rattle.observer.proofs.Rows.{rows_are, rows_with, field_at, capacity_with}
use Rattle.observer.proofs.Keeping.{well_rows}
use Rattle.observer.proofs.Calls.{sent_full, sent_new_lem}
use Rattle.observer.proofs.Claims.{calls_keep_well, fresh_is_well}
use Rattle.tally.specs.Tally.{Tally, row_for, tally_of}
use Rattle.tally.specs.Demand.{send_all, NoneRefused, Takes}
use Rattle.tally.proofs.Rows.{Consecutive, sequence_is, consecutive_snoc}
use Rattle.tally.proofs.Steps.{tallied, with_counts_of, read_off, Ready}

pub used_is : {q n : ℕ} {o : Observer} → Ready q n o → length (rows o) ≡ o.counts.used
used_is {o = o} i = (rows_are o (well_rows o i.well).fits).count

-- ---- the next sequence is sent

module _ {q n : ℕ} {o : Observer} (i : Ready q n o) (t : ℕ) where
  abbrev new_rows : List Row
  new_rows = rows o ++ sent_row (q + n) t ∷ []

  place_end : place_of (q + n) (rows o) ≡ length (rows o)
  place_end =
      let l : length (sequences_of (rows o)) ≡ length (rows o) = length-map (rows o) (λ r. r.sequence) in
      place_at (q + n) (sequences_of (rows o)) (length (rows o)) (omega arith)
      (λ j h. omega (arith, i.number, field_at (λ r. r.sequence) (rows o) j h, sequence_is (rows o) q j i.consecutive h))
      (λ h. absurd (omega arith))

  not_sent : was_sent (q + n) (rows o) ≡ false
  unfolding holds
  not_sent =
      let l : length (sequences_of (rows o)) ≡ length (rows o) = length-map (rows o) (λ r. r.sequence) in
      ap (λ (b : Bool). b && eqb (get_or (sequences_of (rows o)) (place_of (q + n) (rows o)) 0) (q + n))
      (le-ltb (place_of (q + n) (rows o)) (length (sequences_of (rows o))) (omega (arith, place_end)))

  at_the_end : new_rows ≡ take (place_of (q + n) (rows o)) (rows o) ++ sent_row (q + n) t ∷ drop (place_of (q + n) (rows o)) (rows o)
  at_the_end =
      sym (ap (λ (k : ℕ). take k (rows o) ++ sent_row (q + n) t ∷ drop k (rows o)) place_end
      ∙ ap₂ (λ (x y : List Row). x ++ sent_row (q + n) t ∷ y) (take-length (rows o)) (drop-length (rows o)))

  abbrev call : Step
  call = record_sent o (q + n) t

  sent_is : (o.counts.used ≡ capacity o → ⊥) → step o (gives (with_rows new_rows o)) ≡ call
  sent_is f = ap (λ (rs : List Row). step o (gives (with_rows rs o))) at_the_end ∙ sent_new_lem o i.well (q + n) t not_sent f

  not_full : call.outcome ≡ gives tt → o.counts.used ≡ capacity o → ⊥
  not_full h e = refused_gives (ap (λ (s : Step). s.outcome) (sent_full o i.well (q + n) t not_sent e) ∙ h)

  read_off_rows : (rs : List Row) → read_off (with_rows rs o) ≡ with_counts_of rs o.counts
  unfolding with_rows
  read_off_rows rs = ap (λ (x : List Row). with_counts_of x o.counts) (rows_with rs o)

  pub room : n < capacity o → o.counts.used ≡ capacity o → ⊥
  room h e = omega (arith, used_is i, i.number)

  pub accepted : n < capacity o → call.outcome ≡ gives tt
  accepted h = ap (λ (s : Step). s.outcome) (sym (sent_is (room h)))

  pub same_capacity : n < capacity o → capacity call.observer ≡ capacity o
  same_capacity h =
      ap (λ (s : Step). capacity s.observer) (sym (sent_is (room h)))
      ∙ capacity_with new_rows o (omega (arith, i.number, length-append (rows o) (sent_row (q + n) t ∷ [])))

  pub record Sending : Type 0 where
    pub ready : Ready q (suc n) call.observer
    pub is : read_off call.observer ≡ with_counts_of new_rows o.counts

  pub sends : call.outcome ≡ gives tt → Sending
  sends h =
      let is : read_off call.observer ≡ with_counts_of new_rows o.counts =
      ap (λ (s : Step). read_off s.observer) (sym (sent_is (not_full h))) ∙ read_off_rows new_rows in
      let new : rows call.observer ≡ new_rows = ap (λ (a : Tally). a.rows) is in
      record {
        ready = record {
          well = calls_keep_well o (sending (q + n) t ∷ []) i.well;
          number = ap length new ∙ omega (arith, i.number, length-append (rows o) (sent_row (q + n) t ∷ []));
          consecutive = subst (λ (rs : List Row). Consecutive q rs) (sym new)
              (consecutive_snoc (rows o) q (sent_row (q + n) t) i.consecutive (omega (arith, i.number)));
        };
        is = is;
      }

-- ---- all packets

module _ (plan : TrafficPlan) (next : ℕ) where
  pub record Entered (m : ℕ) (o : Observer) (a : Tally) : Type 0 where
    pub ready : Ready next m o
    pub is : read_off o ≡ a

  enter : (n k m : ℕ) (o : Observer) → m ≡ k + n → Ready next k o → NoneRefused o (packets_from plan next n k)
      → Entered m (send_all o (packets_from plan next n k)) (with_counts_of (rows o ++ map row_for (packets_from plan next n k)) o.counts)
  unfolding packets_from
  enter zero k m o e i h = record {
    ready = subst (λ (x : ℕ). Ready next x o) (omega arith) i;
    is = ap (λ (rs : List Row). with_counts_of rs o.counts) (sym (append-nil (rows o)));
  }
  enter (suc n) k m o e i h =
      let s = sends i (time_at plan k) h.0 in
      let onward = enter n (suc k) m (record_sent o (next + k) (time_at plan k)).observer (omega arith) s.ready h.1 in
      record {
        ready = onward.ready;
        is = onward.is
            ∙ ap (λ (a : Tally). tallied (a.rows ++ map row_for (packets_from plan next n (suc k))) a.duplicates a.out_of_order a.error_indications) s.is
            ∙ ap (λ (rs : List Row). with_counts_of rs o.counts) (append_assoc (rows o) (sent_row (next + k) (time_at plan k) ∷ []) (map row_for (packets_from plan next n (suc k))));
      }

  fresh_well : (o : Observer) (c : ObserverCounts) → c ≡ o.counts → c ≡ fresh → well_formed o ≡ true
  fresh_well o c e f = fresh_is_well o (sym e ∙ f)

  fresh_rows : (o : Observer) → o.counts.used ≡ 0 → rows o ≡ []
  unfolding rows
  fresh_rows o e = rw e

  pub fresh_ready : (o : Observer) → o.counts ≡ fresh → Ready next 0 o
  fresh_ready o e =
      let none : rows o ≡ [] = fresh_rows o (ap (λ (c : ObserverCounts). c.used) e) in
      record { well = fresh_well o o.counts refl e; number = ap length none; consecutive = subst (λ (rs : List Row). Consecutive next rs) (sym none) tt }

  pub entered : (o : Observer) → Takes plan next o → Entered plan.packet_count (send_all o (packets_of plan next)) (tally_of (packets_of plan next))
  unfolding packets_of
  entered o t =
      let i = fresh_ready o t.is_fresh in
      let all = enter plan.packet_count 0 plan.packet_count o (omega arith) i t.none_refused in
      record {
        ready = all.ready;
        is = all.is
            ∙ ap₂ (λ (rs : List Row) (c : ObserverCounts). with_counts_of (rs ++ map row_for (packets_from plan next plan.packet_count 0)) c)
            (fresh_rows o (ap (λ (c : ObserverCounts). c.used) t.is_fresh)) t.is_fresh;
      }

  -- ---- an observer with room

  takes : (n k : ℕ) (o : Observer) → Ready next k o → k + n ≤ capacity o → NoneRefused o (packets_from plan next n k)
  unfolding packets_from
  takes zero k o i h = tt
  takes (suc n) k o i h =
      let l : k < capacity o = omega arith in
      let s = sends i (time_at plan k) (accepted i (time_at plan k) l) in
      (accepted i (time_at plan k) l, takes n (suc k) (record_sent o (next + k) (time_at plan k)).observer s.ready (omega (arith, same_capacity i (time_at plan k) l)))

  pub takes_all : (o : Observer) → o.counts ≡ fresh → plan.packet_count ≤ capacity o → Takes plan next o
  unfolding packets_of
  takes_all o e h = record { is_fresh = e; none_refused = takes plan.packet_count 0 o (fresh_ready o e) (omega arith) }

  needs : (n k : ℕ) (o : Observer) → Ready next k o → NoneRefused o (packets_from plan next n k) → k + n ≤ capacity o
  unfolding packets_from
  needs zero k o i h = omega (arith, used_is i, i.number, (well_rows o i.well).fits)
  needs (suc n) k o i h =
      let full = not_full i (time_at plan k) h.0 in
      let fits : o.counts.used ≤ capacity o = (well_rows o i.well).fits in
      let l : k < capacity o = omega (arith, used_is i, i.number, fits, full) in
      let s = sends i (time_at plan k) h.0 in
      omega (arith, same_capacity i (time_at plan k) l, needs n (suc k) (record_sent o (next + k) (time_at plan k)).observer s.ready h.1)

  pub needs_room : (o : Observer) → Takes plan next o → plan.packet_count ≤ capacity o
  unfolding packets_of
  needs_room o t = omega (arith, needs plan.packet_count 0 o (fresh_ready o t.is_fresh) t.none_refused)
