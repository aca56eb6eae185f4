-- Entering a plan. The packets' sequences are consecutive, so how many of them are on the sheet is the difference of two places; and as long as
-- the rows that are still needed are free, each single call is taken.
use Prim.Native.Nat.{ℕ, zero, suc, ◌+◌, ◌-◌, ◌≤◌, ◌<◌}
use native.Mathlib.Omega.{arith}
use native.Mathlib.Numerals.{add-one}
use mathlib.Core.Path.{◌≡◌, refl, sym, ap, ◌∙◌}
use mathlib.Core.List.{List, [], ◌∷◌, ◌++◌, Memᴰ}
use mathlib.Core.Bool.{Bool, true, false, ◌&&◌}
use lib.Dec.{eqb, ltb}
use lib.ListN.{length, get_or, set, take, drop, replicate, length-set}
use lib.Seq.{map-set_same}
use borrow.Author.Tests.{lt-ltb, le-ltb, ltb-true, ltb-false, eqb-true, eqb-false}
use Rattle.error.specs.Number.{malformed_observer, observer_full}
use Rattle.error.specs.Outcome.{Outcome, refused, gives, outcome_number}
use Rattle.error.proofs.Causes.{refuses, passes, here, past, none}
use Rattle.measurement.specs.declared.MeasurementHeader.{MeasurementHeader}
use Rattle.plan.specs.Plan.{time_at, packet_at, packets_from, packets_of, judge_plan}
use Rattle.plan.specs.declared.TrafficPlan.{TrafficPlan}
use Rattle.observer.specs.Observer.{Row, Observer, capacity, rows, sequences_of, sent_row}
use Rattle.columns.specs.Columns.{rising}
use Rattle.observer.specs.Judge.{well_formed, judged, Step, step}
use Rattle.columns.specs.Place.{place, holds}
use Rattle.observer.specs.Place.{place_of, was_sent, row_of}
use Rattle.observer.specs.Sending.{resent, record_sent}
use Rattle.rows.specs.Columns.{Columns}
use Rattle.std.specs.Prelude as code
use Rattle.std.specs.Result.{result_unwrap_or}
use Rattle.error.specs.Answer.{answered}
use Rattle.error.specs.declared.Refusal.{Refusal}
use Rattle.observer.specs.Counts.{with_used}
use Rattle.observer.specs.Answer.{observer_of, after_entry, recorded}
use Rattle.sent_plan.specs.SendingPlan.{send_in_turn, rows_needed, free_rows, entering_causes, entering, record_sent_plan}
use Rattle.observer.specs.Claims.{sending}
use Rattle.observer.specs.declared.ObserverCounts.{ObserverCounts}
use Rattle.columns.proofs.Search.{both_right, rising_at, place_at, place_within, held_within}
use Rattle.observer.proofs.Rows.{rows_are, rows_with, counts_with, capacity_with, put_in, length_put, map_put}
use Rattle.observer.proofs.Judging.{Well}
use Rattle.observer.proofs.Keeping.{Parts, place_parts, well_rows}
use Rattle.observer.proofs.Calls.{judged_malformed, judged_well, sent_again_lem, sent_full, sent_new_lem}
use Rattle.observer.proofs.Claims.{calls_keep_well}

-- ---- places among numbers that rise

module _ (xs : List ℕ) (r : rising xs ≡ true) where
  -- q is one of them
  place_held : (q : ℕ) → holds q (place q xs) xs ≡ true → place (q + 1) xs ≡ place q xs + 1
  unfolding holds
  place_held q e =
      let k : ℕ = place q xs in
      let p = place_parts q xs in
      let h : k < length xs = held_within q k xs e in
      let is : get_or xs k 0 ≡ q = eqb-true (get_or xs k 0) q (both_right (ltb k (length xs)) _ e) in
      place_at (q + 1) xs (k + 1) (omega arith) (λ i g. below k p is i (ltb i k) refl g) (λ g. omega (arith, rising_at xs k (k + 1) r (omega arith) g))
    where
      below : (k : ℕ) → Parts q xs k → get_or xs k 0 ≡ q → (i : ℕ) (b : Bool) → ltb i k ≡ b → i < k + 1 → get_or xs i 0 < q + 1
      below k p is i true t g = omega (arith, p.below i (ltb-true i k t))
      below k p is i false t g = let same : i ≡ k = omega (arith, ltb-false i k t) in rw same (omega (arith, is))

  -- it is not
  place_missed : (q : ℕ) → holds q (place q xs) xs ≡ false → place (q + 1) xs ≡ place q xs
  unfolding holds
  place_missed q e =
      let k : ℕ = place q xs in
      let p = place_parts q xs in
      place_at (q + 1) xs k (place_within q xs) (λ i g. omega (arith, p.below i g))
      (λ g. let n : eqb (get_or xs k 0) q ≡ false = sym (ap (λ (b : Bool). b && eqb (get_or xs k 0) q) (lt-ltb k (length xs) g)) ∙ e in
      omega (arith, p.above g, eqb-false (get_or xs k 0) q n))

  -- one more number has at most one more before it
  place_one : (q : ℕ) → place (q + 1) xs ≤ place q xs + 1
  place_one q = go (holds q (place q xs) xs) refl
    where
      go : (b : Bool) → holds q (place q xs) xs ≡ b → place (q + 1) xs ≤ place q xs + 1
      go true e = omega (arith, place_held q e)
      go false e = omega (arith, place_missed q e)

  pub place_far : (n q : ℕ) → place (q + n) xs ≤ place q xs + n
  place_far zero q = let e : q + 0 ≡ q = omega arith in rw e (omega arith)
  place_far (suc n) q = let e : q + suc n ≡ q + 1 + n = omega arith in rw e (omega (arith, place_far n (q + 1), place_one q))

place_above : (x q : ℕ) (xs : List ℕ) → x < q → place q (x ∷ xs) ≡ suc (place q xs)
place_above x q xs h = rw (lt-ltb x q h, place)

-- a number put in at its place has one more before each that is above it
place_put : (q above : ℕ) (xs : List ℕ) → q < above → place above (take (place q xs) xs ++ q ∷ drop (place q xs) xs) ≡ suc (place above xs)
place_put q above [] h = place_above q above [] h
place_put q above (x ∷ xs) h = go (ltb x q) refl (place_put q above xs h)
  where
    go : (b : Bool) → ltb x q ≡ b → place above (take (place q xs) xs ++ q ∷ drop (place q xs) xs) ≡ suc (place above xs)
        → place above (take (elim b [ true ↦ suc (place q xs) | false ↦ 0 ]) (x ∷ xs) ++ q ∷ drop (elim b [ true ↦ suc (place q xs) | false ↦ 0 ]) (x ∷ xs))
        ≡ suc (place above (x ∷ xs))
    go true e on =
        let h : x < above = omega (arith, ltb-true x q e) in
        place_above x above (take (place q xs) xs ++ q ∷ drop (place q xs) xs) h ∙ ap suc on ∙ ap suc (sym (place_above x above xs h))
    go false e on = place_above q above (x ∷ xs) h

-- ---- the rows that are needed

module _ (plan : TrafficPlan) (next : ℕ) where
  -- how many packets are not on the sheet, by the places of the first and of the sequence behind the last
  pub needed : (rs : List Row) → rising (sequences_of rs) ≡ true → (n k : ℕ)
      → rows_needed rs (packets_from plan next n k) + place_of (next + k + n) rs ≡ n + place_of (next + k) rs
  unfolding packets_from
  needed rs r zero k = let e : next + k + 0 ≡ next + k = omega arith in rw e
  needed rs r (suc n) k = go (was_sent (next + k) rs) refl (needed rs r n (suc k))
    where
      go : (b : Bool) → was_sent (next + k) rs ≡ b
          → rows_needed rs (packets_from plan next n (suc k)) + place_of (next + suc k + n) rs ≡ n + place_of (next + suc k) rs
          → elim b [ true ↦ rows_needed rs (packets_from plan next n (suc k)) | false ↦ suc (rows_needed rs (packets_from plan next n (suc k))) ]
          + place_of (next + k + suc n) rs
          ≡ suc n + place_of (next + k) rs
      go true e h =
          let s : next + suc k ≡ next + k + 1 = omega arith in
          let l : next + k + suc n ≡ next + suc k + n = omega arith in
          rw l (omega (arith, h, ap (λ (q : ℕ). place_of q rs) s, place_held (sequences_of rs) r (next + k) e))
      go false e h =
          let s : next + suc k ≡ next + k + 1 = omega arith in
          let l : next + k + suc n ≡ next + suc k + n = omega arith in
          rw l (omega (arith, h, ap (λ (q : ℕ). place_of q rs) s, place_missed (sequences_of rs) r (next + k) e))

-- ---- one packet is sent

-- a call that was taken: the sequences and the used count that it leaves, and what it keeps
record Taken (o : Observer) (s : Step) (xs : List ℕ) (n : ℕ) : Type 0 where
  pub outcome : s.outcome ≡ gives tt
  pub sequences : sequences_of (rows s.observer) ≡ xs
  pub used : s.observer.counts.used ≡ n
  pub room : capacity s.observer ≡ capacity o
  pub well : well_formed s.observer ≡ true

module _ (o : Observer) (w : well_formed o ≡ true) (q t : ℕ) where
  abbrev xs : List ℕ
  xs = sequences_of (rows o)

  abbrev k : ℕ
  k = place_of q (rows o)

  count : length (rows o) ≡ o.counts.used
  count = (rows_are o (well_rows o w).fits).count

  left_well : well_formed (record_sent o q t).observer ≡ true
  left_well = calls_keep_well o (sending q t ∷ []) w

  again : was_sent q (rows o) ≡ true → Taken o (record_sent o q t) xs o.counts.used
  again e =
      let r : Row = resent t (row_of q (rows o)) in
      let rs : List Row = set (rows o) k r in
      let is = sym (sent_again_lem o w q t e) in
      let l : length rs ≡ o.counts.used = length-set (rows o) k r ∙ count in
      record {
        outcome = ap (λ (s : Step). s.outcome) is;
        sequences = ap (λ (s : Step). sequences_of (rows s.observer)) is ∙ ap sequences_of (rows_with rs o)
            ∙ map-set_same (λ x. x.sequence) (rows o) k r (sent_row 0 0) refl;
        used = ap (λ (s : Step). s.observer.counts.used) is ∙ ap (λ (c : ObserverCounts). c.used) (counts_with rs o) ∙ l;
        room = ap (λ (s : Step). capacity s.observer) is ∙ capacity_with rs o (omega (arith, (well_rows o w).fits));
        well = left_well;
      }

  new : was_sent q (rows o) ≡ false → (o.counts.used ≡ capacity o → ⊥) → Taken o (record_sent o q t) (take k xs ++ q ∷ drop k xs) (o.counts.used + 1)
  new e f =
      let rs : List Row = put_in k (sent_row q t) (rows o) in
      let is = sym (sent_new_lem o w q t e f) in
      let l : length rs ≡ o.counts.used + 1 = length_put k (sent_row q t) (rows o) ∙ ap suc count ∙ sym (add-one o.counts.used) in
      record {
        outcome = ap (λ (s : Step). s.outcome) is;
        sequences = ap (λ (s : Step). sequences_of (rows s.observer)) is ∙ ap sequences_of (rows_with rs o)
            ∙ map_put (λ x. x.sequence) (rows o) k (sent_row q t);
        used = ap (λ (s : Step). s.observer.counts.used) is ∙ ap (λ (c : ObserverCounts). c.used) (counts_with rs o) ∙ l;
        room = ap (λ (s : Step). capacity s.observer) is ∙ capacity_with rs o (omega (arith, (well_rows o w).fits, f));
        well = left_well;
      }

-- ---- all packets are sent

module _ (plan : TrafficPlan) (next : ℕ) where
  -- the rows that n packets from packet k on need are free, in numbers without differences
  abbrev Free : ℕ → ℕ → Observer → Type 0
  Free n k o = n + place_of (next + k) (rows o) + o.counts.used ≤ place_of (next + k + n) (rows o) + capacity o

  abbrev Short : ℕ → ℕ → Observer → Type 0
  Short n k o = place_of (next + k + n) (rows o) + capacity o < n + place_of (next + k) (rows o) + o.counts.used

  -- packet k is sent, and n are left
  module _ (n k : ℕ) (o : Observer) (w : well_formed o ≡ true) where
    abbrev at : ℕ
    at = next + k

    abbrev sent : Step
    sent = record_sent o at (time_at plan k)

    abbrev sheet : List ℕ
    sheet = sequences_of (rows o)

    rises : rising sheet ≡ true
    rises = (well_rows o w).rises

    next_is : next + suc k ≡ at + 1
    next_is = omega arith

    last_is : next + k + suc n ≡ next + suc k + n
    last_is = omega arith

    -- the places that decide about the rest, after a packet that is sent again and after one that is new
    record Places (held more : ℕ) : Type 0 where
      pub first : place_of (next + suc k) (rows sent.observer) ≡ place at sheet + held
      pub last : place_of (next + suc k + n) (rows sent.observer) ≡ place (next + k + suc n) sheet + more

    places_again : was_sent at (rows o) ≡ true → Taken o sent sheet o.counts.used → Places 1 0
    places_again e s = record {
      first = ap (place (next + suc k)) s.sequences ∙ ap (λ (x : ℕ). place x sheet) next_is ∙ place_held sheet rises at e;
      last = ap (place (next + suc k + n)) s.sequences ∙ ap (λ (x : ℕ). place x sheet) (sym last_is) ∙ omega arith;
    }

    places_new : was_sent at (rows o) ≡ false → Taken o sent (take (place_of at (rows o)) sheet ++ at ∷ drop (place_of at (rows o)) sheet) (o.counts.used + 1)
        → Places 1 1
    places_new e s = record {
      first = ap (place (next + suc k)) s.sequences ∙ place_put at (next + suc k) sheet (omega arith)
          ∙ ap (λ (x : ℕ). suc (place x sheet)) next_is ∙ ap suc (place_missed sheet rises at e) ∙ sym (add-one (place at sheet));
      last = ap (place (next + suc k + n)) s.sequences ∙ place_put at (next + suc k + n) sheet (omega arith)
          ∙ ap (λ (x : ℕ). suc (place x sheet)) (sym last_is) ∙ sym (add-one (place (next + k + suc n) sheet));
    }

    -- a new sequence finds a row
    not_full : Free (suc n) k o → was_sent at (rows o) ≡ false → o.counts.used ≡ capacity o → ⊥
    not_full h e f =
        let far : place (next + k + suc n) sheet ≤ place at sheet + n =
        rw (last_is, next_is) (omega (arith, place_far sheet rises n (at + 1), place_missed sheet rises at e)) in
        omega (arith, far, h, f)

    free_again : Free (suc n) k o → Taken o sent sheet o.counts.used → Places 1 0 → Free n (suc k) sent.observer
    free_again h s p = omega (arith, h, s.used, s.room, p.first, p.last)

    free_new : Free (suc n) k o → {xs : List ℕ} → Taken o sent xs (o.counts.used + 1) → Places 1 1 → Free n (suc k) sent.observer
    free_new h s p = omega (arith, h, s.used, s.room, p.first, p.last)

    short_again : Short (suc n) k o → Taken o sent sheet o.counts.used → Places 1 0 → Short n (suc k) sent.observer
    short_again h s p = omega (arith, h, s.used, s.room, p.first, p.last)

    short_new : Short (suc n) k o → {xs : List ℕ} → Taken o sent xs (o.counts.used + 1) → Places 1 1 → Short n (suc k) sent.observer
    short_new h s p = omega (arith, h, s.used, s.room, p.first, p.last)

  -- what packet k leaves
  abbrev after : ℕ → Observer → Observer
  after k o = (record_sent o (next + k) (time_at plan k)).observer

  -- the numbers of n calls from packet k on
  abbrev numbers : ℕ → ℕ → Observer → List ℕ
  numbers n k o = (send_in_turn o (packets_from plan next n k)).numbers

  -- no single call refuses
  pub all_taken : (n k : ℕ) (o : Observer) → well_formed o ≡ true → Free n k o → numbers n k o ≡ replicate n 0
  unfolding packets_from
  all_taken zero k o w h = refl
  all_taken (suc n) k o w h = go (was_sent (next + k) (rows o)) refl (all_taken n (suc k) (after k o))
    where
      joined : {xs : List ℕ} {m : ℕ} → Taken o (record_sent o (next + k) (time_at plan k)) xs m → Free n (suc k) (after k o)
          → (well_formed (after k o) ≡ true → Free n (suc k) (after k o) → numbers n (suc k) (after k o) ≡ replicate n 0)
          → outcome_number (record_sent o (next + k) (time_at plan k)).outcome ∷ numbers n (suc k) (after k o) ≡ 0 ∷ replicate n 0
      joined s f on =
          ap (λ (x : Outcome (Unit {0})). outcome_number x ∷ numbers n (suc k) (after k o)) s.outcome ∙ ap (λ (l : List ℕ). 0 ∷ l) (on s.well f)

      go : (known : Bool) → was_sent (next + k) (rows o) ≡ known
          → (well_formed (after k o) ≡ true → Free n (suc k) (after k o) → numbers n (suc k) (after k o) ≡ replicate n 0)
          → outcome_number (record_sent o (next + k) (time_at plan k)).outcome ∷ numbers n (suc k) (after k o) ≡ 0 ∷ replicate n 0
      go true e on = let s = again o w (next + k) (time_at plan k) e in joined s (free_again n k o w h s (places_again n k o w e s)) on
      go false e on =
          let s = new o w (next + k) (time_at plan k) e (not_full n k o w h e) in
          joined s (free_new n k o w h s (places_new n k o w e s)) on

  -- some single call refuses by 22
  pub some_full : (n k : ℕ) (o : Observer) → well_formed o ≡ true → Short n k o → Memᴰ observer_full (numbers n k o)
  unfolding packets_from
  some_full zero k o w h =
      let e : next + k + 0 ≡ next + k = omega arith in
      absurd (omega (arith, h, ap (λ (x : ℕ). place_of x (rows o)) e, (well_rows o w).fits))
  some_full (suc n) k o w h = go (was_sent (next + k) (rows o)) (eqb o.counts.used (capacity o)) refl refl (some_full n (suc k) (after k o))
    where
      go : (known full : Bool) → was_sent (next + k) (rows o) ≡ known → eqb o.counts.used (capacity o) ≡ full
          → (well_formed (after k o) ≡ true → Short n (suc k) (after k o) → Memᴰ observer_full (numbers n (suc k) (after k o)))
          → Memᴰ observer_full (outcome_number (record_sent o (next + k) (time_at plan k)).outcome ∷ numbers n (suc k) (after k o))
      go true full e f on =
          let s = again o w (next + k) (time_at plan k) e in
          Memᴰ.tail (on s.well (short_again n k o w h s (places_again n k o w e s)))
      go false true e f on = Memᴰ.head (ap (λ (s : Step). outcome_number s.outcome) (sent_full o w (next + k) (time_at plan k) e (eqb-true _ _ f)))
      go false false e f on =
          let s = new o w (next + k) (time_at plan k) e (eqb-false _ _ f) in
          Memᴰ.tail (on s.well (short_new n k o w h s (places_new n k o w e s)))

  -- the test, and what it decides
  module _ (o : Observer) (w : well_formed o ≡ true) where
    abbrev needs : ℕ
    needs = rows_needed (rows o) (packets_of plan next)

    counted : needs + place_of (next + 0 + plan.packet_count) (rows o) ≡ plan.packet_count + place_of (next + 0) (rows o)
    unfolding packets_of
    counted = needed plan next (rows o) (well_rows o w).rises plan.packet_count 0

    pub none_refused : needs ≤ free_rows o → (send_in_turn o (packets_of plan next)).numbers ≡ replicate plan.packet_count 0
    unfolding packets_of
    none_refused h = all_taken plan.packet_count 0 o w (omega (arith, counted, h, (well_rows o w).fits))

    pub one_refused : free_rows o < needs → Memᴰ observer_full (send_in_turn o (packets_of plan next)).numbers
    unfolding packets_of
    one_refused h = some_full plan.packet_count 0 o w (omega (arith, counted, h, (well_rows o w).fits))

-- ---- the call by its ways out

module _ (o : Observer) (packets : List MeasurementHeader) where
  pub entering_full : free_rows o < rows_needed (rows o) packets → refused observer_full ≡ entering o packets
  unfolding entering entering_causes
  entering_full h = refuses _ (here (lt-ltb _ _ h))

  pub entering_whole : rows_needed (rows o) packets ≤ free_rows o → gives (send_in_turn o packets).observer ≡ entering o packets
  unfolding entering entering_causes
  entering_whole h = passes _ (past (le-ltb _ _ h) none)

-- the code's test, in the column: n rows are needed
module _ {o : Observer} (w : Well o) (plan : TrafficPlan) (next n room : ℕ)
    (is : n + place (next + plan.packet_count) (take o.counts.used o.columns.sequences) ≡ plan.packet_count + place next (take o.counts.used o.columns.sequences))
    (all : room ≡ capacity o) where
  needed_is : rows_needed (rows o) (packets_of plan next) ≡ n
  needed_is =
      let z : next + 0 ≡ next = omega arith in
      let first : place_of (next + 0) (rows o) ≡ place next (take o.counts.used o.columns.sequences) = ap (λ (q : ℕ). place_of q (rows o)) z ∙ ap (place next) w.fronts.sequences in
      let last : place_of (next + 0 + plan.packet_count) (rows o) ≡ place (next + plan.packet_count) (take o.counts.used o.columns.sequences) =
      ap (λ (q : ℕ). place_of (q + plan.packet_count) (rows o)) z ∙ ap (place (next + plan.packet_count)) w.fronts.sequences in
      omega (arith, counted plan next o w.accepted, is, first, last)

  pub room_short : room - o.counts.used < n → step o (refused observer_full) ≡ step o (entering o (packets_of plan next))
  room_short h = ap (step o) (entering_full o (packets_of plan next) (omega (arith, needed_is)))

  pub room_enough : n ≤ room - o.counts.used → (x : Observer) → x ≡ (send_in_turn o (packets_of plan next)).observer
      → step o (gives x) ≡ step o (entering o (packets_of plan next))
  room_enough h x e = ap (λ (y : Observer). step o (gives y)) e ∙ ap (step o) (entering_whole o (packets_of plan next) (omega (arith, needed_is)))

module _ (o : Observer) (plan : TrafficPlan) (next : ℕ) where
  abbrev onward : Outcome (List MeasurementHeader) → Outcome Observer
  onward x = elim x [ refused n ↦ refused n | gives packets ↦ entering o packets ]

  pub plan_malformed : well_formed o ≡ false → step o (refused malformed_observer) ≡ record_sent_plan o plan next
  unfolding record_sent_plan
  plan_malformed e = ap (step o) (judged_malformed o _ e)

  pub plan_judged : well_formed o ≡ true → (x : Outcome (List MeasurementHeader)) → (judge_plan plan next).outcome ≡ x → step o (onward x) ≡ record_sent_plan o plan next
  unfolding record_sent_plan
  plan_judged e x j = ap (step o) (judged_well o _ e) ∙ ap (λ (y : Outcome (List MeasurementHeader)). step o (judged o (onward y))) (sym j)

-- ---- the packets one after the other

-- the code takes the rows in use from the answer, or leaves them where that is a refusal
pub used_after : (r : code.Result ℕ Refusal) (c : ObserverCounts) → after_entry c (answered r) ≡ with_used (result_unwrap_or r c.used) c
used_after (code.Ok n) c = refl
used_after (code.Err e) c = refl

module _ (plan : TrafficPlan) (next : ℕ) where
  -- the packets from packet k on
  abbrev pub left_from : ℕ → List MeasurementHeader
  left_from k = packets_from plan next (plan.packet_count - k) k

  pub left_first : left_from 0 ≡ packets_of plan next
  unfolding packets_of
  left_first = let e : plan.packet_count - 0 ≡ plan.packet_count = omega arith in ap (λ (n : ℕ). packets_from plan next n 0) e

  pub left_none : (k : ℕ) → plan.packet_count ≤ k → left_from k ≡ []
  unfolding packets_from
  left_none k h = let e : plan.packet_count - k ≡ 0 = omega arith in ap (λ (n : ℕ). packets_from plan next n k) e

  left_next : (k : ℕ) → k < plan.packet_count → left_from k ≡ packet_at plan next k ∷ left_from (k + 1)
  unfolding packets_from
  left_next k h =
      let e : plan.packet_count - k ≡ suc (plan.packet_count - (k + 1)) = omega arith in
      ap (λ (n : ℕ). packets_from plan next n k) e ∙ ap (λ (x : ℕ). packet_at plan next k ∷ packets_from plan next (plan.packet_count - (k + 1)) x) (sym (add-one k))

  -- packet k is sent
  module _ (outcome : Outcome (Unit {0})) (counts : ObserverCounts) (c : Columns) (o : Observer) (k time : ℕ) (e : recorded outcome counts c ≡ record_sent o (next + k) time) where
    pub sent_well : well_formed o ≡ true → well_formed (observer_of c counts) ≡ true
    sent_well w = ap (λ (s : Step). well_formed s.observer) e ∙ calls_keep_well o (sending (next + k) time ∷ []) w

    pub sent_on_lem : time ≡ time_at plan k → k < plan.packet_count → (whole : Observer) → (send_in_turn o (left_from k)).observer ≡ whole
        → (send_in_turn (observer_of c counts) (left_from (k + 1))).observer ≡ whole
    sent_on_lem et h whole on =
        ap (λ (s : Step). (send_in_turn s.observer (left_from (k + 1))).observer) e
        ∙ ap (λ (x : ℕ). (send_in_turn (record_sent o (next + k) x).observer (left_from (k + 1))).observer) et
        ∙ ap (λ (l : List MeasurementHeader). (send_in_turn o l).observer) (sym (left_next k h))
        ∙ on
