-- The claims of specs/Claims.antt, proved.
use Prim.Native.Nat.{ℕ, zero, suc, ◌+◌, ◌*◌, ◌<◌, ◌≤◌}
use native.Mathlib.Omega.{arith}
use native.Mathlib.Nat.{mul-le-mul_right}
use mathlib.Core.Path.{◌≡◌, refl, sym, ap, ◌∙◌}
use mathlib.Core.List.{List, [], ◌∷◌}
use mathlib.Core.Bool.{Bool, true, false}
use mathlib.Core.Logic.{◌⊎◌, inl, inr}
use lib.Dec.{ltb}
use borrow.Author.Tests.{lt-ltb, le-ltb, eq-eqb, ne_eqb}
use Rattle.error.specs.Outcome.{Outcome, refused, gives, Cause, ◌⇒◌, first_cause}
use Rattle.error.proofs.Causes as causes
use Rattle.error.proofs.Causes.{refused_gives}
use Rattle.measurement.specs.declared.MeasurementHeader.{MeasurementHeader}
use Rattle.plan.specs.Plan.{top, interval, rate_causes, interval_of, time_at, packet_at, packets_from, packets_of, PlanCause, ◌⇒◌leaves◌, leaving, causes_at, causes_from, Judged, first_plan_cause, judge_packets, plan_causes, judge_plan}
use Rattle.plan.specs.Claims.{accepted, AcceptedIfAcceptable, AcceptableIfAccepted, SequenceDecides, TimeDecides, RateThenCount, PlanNumbers, Each, Ordered, PacketsOrdered, Intervals, Examples}
use Rattle.plan.specs.declared.TrafficPlan.{TrafficPlan}
use Rattle.plan.proofs.Rows.{refuses, passes, leaving_refuses, leaving_passes}
use Rattle.plan.proofs.Judged.{judged_19, judged_20, judged_accepted, plan_accepted}

-- a plan whose rate and count are right is judged by its packets
first_rows : (plan : TrafficPlan) (next : ℕ) → 0 < plan.target_rate_pps → plan.target_rate_pps ≤ 1000000000 → plan.packet_count ≤ 2048
    → judge_packets plan next ≡ judge_plan plan next
unfolding judge_plan plan_causes rate_causes
first_rows plan next p l c =
    passes (judge_packets plan next) (leaving_passes next
    (causes.past (ne_eqb plan.target_rate_pps 0 (λ e. omega arith))
    (causes.past (le-ltb 1000000000 plan.target_rate_pps l)
    (causes.past (le-ltb 2048 plan.packet_count c) causes.none))))

pub accepted_if_acceptable : AcceptedIfAcceptable
accepted_if_acceptable plan next a =
    sym (judged_accepted plan next (λ k h. (omega (arith, a.sequences k h), a.times k h)) ∙ first_rows plan next a.rate_positive a.rate_within a.count_within)

pub acceptable_if_accepted : AcceptableIfAccepted
acceptable_if_accepted = plan_accepted

-- the lowest packet that fails
pub sequence_decides : SequenceDecides
sequence_decides plan next k f h =
    sym (judged_19 plan next k f.among h (λ j l. (omega (arith, f.sequences j l), f.times j l)) ∙ first_rows plan next f.rate_positive f.rate_within f.count_within)

pub time_decides : TimeDecides
time_decides plan next k f s h =
    sym (judged_20 plan next k f.among (omega arith) (λ j l. (omega (arith, f.sequences j l), f.times j l)) h ∙ first_rows plan next f.rate_positive f.rate_within f.count_within)

-- the rate, then the count
pub rate_then_count : RateThenCount
unfolding judge_plan plan_causes rate_causes
rate_then_count plan next =
    let rate = plan.target_rate_pps in
    record {
      no_rate = λ e. sym (refuses (judge_packets plan next) (leaving_refuses next (causes.here (eq-eqb rate 0 e))));
      too_fast = λ l.
          sym (refuses (judge_packets plan next) (leaving_refuses next
          (causes.later (ne_eqb rate 0 (λ e. omega arith)) (causes.here (lt-ltb 1000000000 rate l)))));
      too_many = λ above within many.
          sym (refuses (judge_packets plan next) (leaving_refuses next
          (causes.later (ne_eqb rate 0 (λ e. omega arith))
          (causes.later (le-ltb 1000000000 rate within) (causes.here (lt-ltb 2048 plan.packet_count many))))));
    }

-- order
module _ (plan : TrafficPlan) (next : ℕ) where
  abbrev Before : MeasurementHeader → MeasurementHeader → Type 0
  Before p q = (p.sequence < q.sequence) × (p.send_timestamp_ns ≤ q.send_timestamp_ns)

  later_ones : (n k j : ℕ) → j < k → Each (Before (packet_at plan next j)) (packets_from plan next n k)
  unfolding packets_from
  later_ones zero k j h = tt
  later_ones (suc n) k j h =
      let i = interval plan.target_rate_pps in
      let l : j * i ≤ k * i = mul-le-mul_right i (omega arith) in
      ((omega arith, omega arith), later_ones n (suc k) j (omega arith))

  ordered : (n k : ℕ) → Ordered (packets_from plan next n k)
  unfolding packets_from
  ordered zero k = tt
  ordered (suc n) k = (later_ones n (suc k) k (omega arith), ordered n (suc k))

  in_range : (n k : ℕ) → ((i : ℕ) → k ≤ i → i < k + n → (next + i < top) × (time_at plan i ≤ top))
      → Each (λ p. (p.sequence < top) × (p.send_timestamp_ns ≤ top)) (packets_from plan next n k)
  unfolding packets_from
  in_range zero k all = tt
  in_range (suc n) k all = (all k (omega arith) (omega arith), in_range n (suc k) (λ i l h. all i (omega arith) (omega arith)))

pub given : {A : Type 0} {x y : A} → gives x ≡ gives y → x ≡ y
given e = cc

pub packets_ordered : PacketsOrdered
unfolding packets_of
packets_ordered plan next packets e =
    let h = plan_accepted plan next packets e in
    let same : packets_of plan next ≡ packets = given (sym (ap (λ (j : Judged). j.outcome) h.1) ∙ e) in
    rw (sym same) (
      ordered plan next plan.packet_count 0,
      in_range plan next plan.packet_count 0 (λ i l u. (h.0.sequences i (omega arith), h.0.times i (omega arith))),
    )

-- what a refusal leaves
pub same_refusal : {A : Type 0} {m n : ℕ} → ◌≡◌ {A = Outcome A} (refused m) (refused n) → n ≡ m
same_refusal e = cc

module _ (next : ℕ) where
  abbrev Leaves : Judged → Type 0
  Leaves j = (n : ℕ) → j.outcome ≡ refused n → (n ≡ 19) ⊎ (n ≡ 20) ⊎ (j.next ≡ next)

  by_rows : (rows : List Cause) (o : Judged) → Leaves o → Leaves (first_plan_cause (leaving next rows) o)
  unfolding first_plan_cause leaving
  by_rows [] o h n e = h n e
  by_rows ((true ⇒ m) ∷ rows) o h n e = inr (inr refl)
  by_rows ((false ⇒ m) ∷ rows) o h n e = by_rows rows o h n e

  by_packet : (s t : Bool) (a b : ℕ) (rows : List PlanCause) (o : Judged) → Leaves (first_plan_cause rows o)
      → Leaves (first_plan_cause ((s ⇒ 19 leaves a) ∷ (t ⇒ 20 leaves b) ∷ rows) o)
  unfolding first_plan_cause
  by_packet true t a b rows o h n e = inl (same_refusal e)
  by_packet false true a b rows o h n e = inr (inl (same_refusal e))
  by_packet false false a b rows o h n e = h n e

  by_packets : (plan : TrafficPlan) (n k : ℕ) (o : Judged) → Leaves o → Leaves (first_plan_cause (causes_from plan next n k) o)
  unfolding first_plan_cause causes_from causes_at
  by_packets plan zero k o h = h
  by_packets plan (suc n) k o h =
      by_packet (ltb top (next + k + 1)) (ltb top (time_at plan k)) (next + k) (next + k + 1) (causes_from plan next n (suc k)) o (by_packets plan n (suc k) o h)

  pub by_plan : (plan : TrafficPlan) → Leaves (judge_plan plan next)
  unfolding judge_plan judge_packets
  by_plan plan =
      by_rows (plan_causes plan) (judge_packets plan next) (by_packets plan plan.packet_count 0 (accepted plan next) (λ n e. absurd (refused_gives (sym e))))

-- the numbers of the rows
abbrev OnCard : ℕ → Type 0
OnCard n = (16 ≤ n) × (n ≤ 20)

data Numbers : List PlanCause → Type 0 where
  end : Numbers []
  row : {t : Bool} {n kept : ℕ} {rows : List PlanCause} → OnCard n → Numbers rows → Numbers ((t ⇒ n leaves kept) ∷ rows)

by_number : (rows : List PlanCause) (o : Judged) → Numbers rows → ((n : ℕ) → o.outcome ≡ refused n → OnCard n)
    → (n : ℕ) → (first_plan_cause rows o).outcome ≡ refused n → OnCard n
unfolding first_plan_cause
by_number [] o end h n e = h n e
by_number ((true ⇒ m leaves kept) ∷ rows) o (row k q) h n e = let same : n ≡ m = same_refusal e in rw same k
by_number ((false ⇒ m leaves kept) ∷ rows) o (row k q) h n e = by_number rows o q h n e

packet_numbers : (plan : TrafficPlan) (next n k : ℕ) → Numbers (causes_from plan next n k)
unfolding causes_from causes_at
packet_numbers plan next zero k = end
packet_numbers plan next (suc n) k = row {n = 19} (omega arith, omega arith) (row {n = 20} (omega arith, omega arith) (packet_numbers plan next n (suc k)))

pub plan_numbers : PlanNumbers
unfolding judge_plan judge_packets plan_causes rate_causes leaving
plan_numbers plan next n e =
    by_number _ (judge_packets plan next)
    (row {n = 16} (omega arith, omega arith) (row {n = 17} (omega arith, omega arith) (row {n = 18} (omega arith, omega arith) end)))
    (by_number _ (accepted plan next) (packet_numbers plan next plan.packet_count 0) (λ m f. absurd (refused_gives (sym f)))) n e

-- examples
pub intervals : Intervals
unfolding interval_of rate_causes first_cause
intervals = record { one = refl; too_fast = refl; third = refl; zero = refl }

pub examples : Examples
unfolding judge_plan judge_packets plan_causes rate_causes leaving first_plan_cause causes_from causes_at packets_of packets_from
examples = record {
  empty = λ next first. let e : next + 0 ≡ next = omega arith in ap (λ (x : ℕ). record { outcome = gives []; next = x }) e;
  longest = accepted_if_acceptable (record { packet_count = 2048; target_rate_pps = 1000000000; first_send_timestamp_ns = 0 }) 0 (record {
    rate_positive = omega arith;
    rate_within = omega arith;
    count_within = omega arith;
    sequences = λ k h. omega arith;
    times = λ k h. omega arith;
  });
  highest = refl;
  tie = refl;
  time_first = refl;
}
