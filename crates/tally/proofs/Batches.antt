-- The claims of specs/Batches.antt, proved.
use Prim.Native.Nat.{ℕ, zero, suc, ◌≤◌}
use mathlib.Core.Path.{◌≡◌, refl, sym, ap, ◌∙◌}
use mathlib.Core.List.{List, [], ◌∷◌, map, Memᴰ}
use mathlib.Core.Bool.{Bool, true, false}
use native.Mathlib.Omega.{arith}
use lib.Dec.{eqb, ltb}
use lib.ListN.{take, replicate}
use borrow.Author.Tests.{eqb-true, eqb-false, ltb-true, ltb-false}
use Rattle.error.specs.Number.{malformed_observer, observer_full}
use Rattle.error.specs.Outcome.{Outcome, refused, gives, outcome_number}
use Rattle.measurement.specs.declared.MeasurementHeader.{MeasurementHeader}
use Rattle.plan.specs.Plan.{packets_of, Judged}
use Rattle.traffic.proofs.Claims.{success_is_complete}
use Rattle.observer.specs.Observer.{Observer, capacity, rows}
use Rattle.observer.specs.Judge.{well_formed, judged, Step, step, after_reading}
use Rattle.observer.specs.Place.{was_sent}
use Rattle.observer.specs.Sending.{record_sent}
use Rattle.observer.specs.Returning.{record_return}
use Rattle.observer.specs.InTurn.{in_turn}
use Rattle.received_tpdus.specs.Received.{take_returns}
use Rattle.received_tpdus.specs.Received as received
use Rattle.sent_plan.specs.SendingPlan.{send_in_turn, rows_needed, free_rows}
use Rattle.observer.proofs.Calls.{judged_malformed, judged_well, refusing_malformed, return_malformed, sent_malformed, sent_again_lem, sent_full, sent_new_lem}
use Rattle.sent_plan.proofs.SendingPlan.{one_refused, entering_whole, plan_judged}
use Rattle.sent_plan.proofs.PlanClaims.{all_or_nothing}
use Rattle.return_calls.specs.Returns.{sequence_read, record_received_tpdu}
use Rattle.received_tpdus.specs.Received.{Received, tpdus_of, received_of, record_received, returns_in, record_received_tpdus}
use Rattle.tally.specs.Demand.{send_all, NoneRefused, receive_all}
use Rattle.tally.specs.Batches.{PlanEntered, handed_tpdu, ReturnsTaken, Batches}
use Rattle.tally.proofs.Entry.{fresh_ready}

sends : (o : Observer) (packets : List MeasurementHeader) → (send_in_turn o packets).observer ≡ send_all o packets
sends o [] = refl
sends o (p ∷ packets) = sends (record_sent o p.sequence p.send_timestamp_ns).observer packets

-- no number is 22 where none is refused
none_full : (o : Observer) (packets : List MeasurementHeader) → NoneRefused o packets → Memᴰ observer_full (send_in_turn o packets).numbers → ⊥
none_full o [] h m = elim m [ ]
none_full o (p ∷ packets) h (Memᴰ.head e) =
    let z : observer_full ≡ 0 = e ∙ ap (λ (x : Outcome (Unit {0})). outcome_number x) h.0 in
    omega arith
none_full o (p ∷ packets) h (Memᴰ.tail m) = none_full (record_sent o p.sequence p.send_timestamp_ns).observer packets h.1 m

-- a call whose number is 0 was taken
taken : (o : Observer) (q t : ℕ) → outcome_number (record_sent o q t).outcome ≡ 0 → (record_sent o q t).outcome ≡ gives tt
taken o q t z = go (well_formed o) (was_sent q (rows o)) (eqb o.counts.used (capacity o)) refl refl refl
  where
    by : (n : ℕ) → step o (refused n) ≡ record_sent o q t → n ≡ 0
    by n e = ap (λ (s : Step). outcome_number s.outcome) e ∙ z

    go : (well known full : Bool) → well_formed o ≡ well → was_sent q (rows o) ≡ known → eqb o.counts.used (capacity o) ≡ full
        → (record_sent o q t).outcome ≡ gives tt
    go false known full w e f = absurd (omega (arith, by malformed_observer (sent_malformed o q t w)))
    go true true full w e f = sym (ap (λ (s : Step). s.outcome) (sent_again_lem o w q t e))
    go true false true w e f = absurd (omega (arith, by observer_full (sent_full o w q t e (eqb-true _ _ f))))
    go true false false w e f = sym (ap (λ (s : Step). s.outcome) (sent_new_lem o w q t e (eqb-false _ _ f)))

head_is : {a b : ℕ} {l m : List ℕ} → a ∷ l ≡ b ∷ m → a ≡ b
head_is e = cc

tail_is : {a b : ℕ} {l m : List ℕ} → a ∷ l ≡ b ∷ m → l ≡ m
tail_is e = cc

not_empty : {a : ℕ} {l : List ℕ} → a ∷ l ≡ [] → ⊥
not_empty e = let z : ◌≡◌ {A = ℕ} 0 1 = cc in omega arith

all_zero : (n : ℕ) (o : Observer) (packets : List MeasurementHeader) → (send_in_turn o packets).numbers ≡ replicate n 0 → NoneRefused o packets
all_zero n o [] e = tt
all_zero zero o (p ∷ packets) e = absurd (not_empty e)
all_zero (suc n) o (p ∷ packets) e =
    (taken o p.sequence p.send_timestamp_ns (head_is e), all_zero n (record_sent o p.sequence p.send_timestamp_ns).observer packets (tail_is e))

plan_entered : PlanEntered
plan_entered flow plan next a o f =
    let c = success_is_complete flow plan next a.buffer a.bytes a.generated in
    let w : well_formed o ≡ true = (fresh_ready plan next o f).well in
    record {
      all_sent = λ t.
          sym (ap (λ (x : Observer). step o (gives x)) (sym (sends o (packets_of plan next)))
          ∙ ap (step o) (entering_whole o (packets_of plan next) (room w t.none_refused (ltb (free_rows o) (rows_needed (rows o) (packets_of plan next))) refl))
          ∙ plan_judged o plan next w _ (ap (λ (j : Judged). j.outcome) c.judged));
      only_if_all = λ g.
          record { is_fresh = f; none_refused = all_zero plan.packet_count o (packets_of plan next) (all_or_nothing.entered_whole o plan next g).none_refused };
    }
  where
    room : well_formed o ≡ true → NoneRefused o (packets_of plan next) → (b : Bool) → ltb (free_rows o) (rows_needed (rows o) (packets_of plan next)) ≡ b
        → rows_needed (rows o) (packets_of plan next) ≤ free_rows o
    room w h true t = absurd (none_full o (packets_of plan next) h (one_refused plan next o w (ltb-true _ _ t)))
    room w h false t = ltb-false _ _ t

takes : (o : Observer) (rs : List Received) → (in_turn record_received o rs).observer ≡ receive_all o (map handed_tpdu rs)
takes o [] = refl
takes o (r ∷ rs) = takes (record_received o r).observer rs

-- a malformed observer is left by each single call
left_by_lem : (o : Observer) → well_formed o ≡ false → (r : Received) → o ≡ (record_received o r).observer
unfolding record_received_tpdu
left_by_lem o w r = go (sequence_read r.tpdu)
  where
    go : (x : Outcome ℕ) → o ≡ (after_reading o x (record_return o r.time)).observer
    go (refused n) = ap (λ (s : Step). s.observer) (refusing_malformed o n w)
    go (gives q) = ap (λ (s : Step). s.observer) (return_malformed o r.time q w)

left_by_all : (o : Observer) → ((r : Received) → o ≡ (record_received o r).observer) → (rs : List Received) → o ≡ (in_turn record_received o rs).observer
left_by_all o h [] = refl
left_by_all o h (r ∷ rs) = left_by_all o h rs ∙ ap (λ (x : Observer). (in_turn record_received x rs).observer) (h r)

returns_taken : ReturnsTaken
unfolding record_received_tpdus
returns_taken o times lengths bytes returned numbers = go (well_formed o) refl
  where
    rs : List Received
    rs = received_of times (take (returns_in times lengths returned numbers) (tpdus_of lengths bytes))

    given : Outcome received.ReturnsTaken
    given = gives (take_returns o times (take (returns_in times lengths returned numbers) (tpdus_of lengths bytes)) returned numbers)

    left_by : Outcome received.ReturnsTaken → Observer
    left_by x = (elim x as (λ (y : Outcome received.ReturnsTaken). received.ReturnsTaken) [ refused n ↦ record { outcome = refused n; returned = returned; numbers = numbers; observer = o } | gives taken ↦ taken ]).observer

    go : (b : Bool) → well_formed o ≡ b → left_by (judged o given) ≡ receive_all o (map handed_tpdu rs)
    go true w = ap left_by (sym (judged_well o given w)) ∙ takes o rs
    go false w =
        ap left_by (sym (judged_malformed o given w))
        ∙ left_by_all o (left_by_lem o w) rs
        ∙ takes o rs

pub batches : Batches
batches = record { plan_entered = plan_entered; returns_taken = returns_taken }
