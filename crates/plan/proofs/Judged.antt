-- The packets of a plan, judged one after the other: the sequence and the time each have a first packet at which they
-- would pass their top, and the lower of the two decides.
use Prim.Native.Nat.{ℕ, zero, suc, ◌+◌, ◌-◌, ◌*◌, ◌/◌, ◌<◌, ◌≤◌}
use native.Mathlib.Omega.{arith}
use mathlib.Core.Path.{◌≡◌, refl, sym, ap, subst, ◌∙◌}
use mathlib.Core.List.{List, [], ◌∷◌}
use mathlib.Core.Bool.{Bool, true, false}
use lib.Dec.{ltb}
use native.Mathlib.Nat.{zero-mul, add-mul, mul-le-mul_right, div-mul-le_self, lt-div-mul-add, div-eq_of_lt}
use borrow.Author.Tests.{lt-ltb, le-ltb, ltb-true, ltb-false, eq-eqb, ne_eqb, eqb-false}
use Rattle.error.specs.Outcome.{refused, gives, Cause, ◌⇒◌}
use Rattle.error.proofs.Causes as causes
use Rattle.error.proofs.Causes.{from, Left, stops, goes_on, passes_from, first_false}
use Rattle.measurement.specs.declared.MeasurementHeader.{MeasurementHeader}
use Rattle.plan.specs.Plan.{top, interval, rate_causes, interval_of, time_at, Judged, leaving, causes_at, causes_from, judge_packets, plan_causes, judge_plan}
use Rattle.plan.specs.Judge.{InTime, Timed, Judges}
use Rattle.plan.specs.Claims.{Acceptable, accepted}
use Rattle.std.specs.Prelude as code
use Rattle.error.specs.declared.Refusal.TheVariants.{SequenceOverflow, SendTimestampOverflow}
use Rattle.plan.specs.declared.JudgedPlan.{JudgedPlan}
use Rattle.plan.specs.declared.TrafficPlan.{TrafficPlan}
use Rattle.plan.proofs.Rows.{refused_at, Refuses, here, later, Passes, none, past, refuses, passes, passed, leaving_refuses, leaving_passes, passed_leaving, passed_both, refused_by, refuses_front, refuses_behind, passes_both, passed_apart}

module _ (plan : TrafficPlan) (next : ℕ) where
  abbrev InSequence : ℕ → Type 0
  InSequence k = next + k + 1 ≤ top

  abbrev InTimeAt : ℕ → Type 0
  InTimeAt k = time_at plan k ≤ top

  -- the rows of one packet
  module _ (k : ℕ) where
    packet_passes : InSequence k → InTimeAt k → Passes (causes_at plan next k)
    unfolding causes_at
    packet_passes h l = past (le-ltb top (next + k + 1) h) (past (le-ltb top (time_at plan k) l) none)

    packet_19 : top < next + k + 1 → Refuses (causes_at plan next k) 19 (next + k)
    unfolding causes_at
    packet_19 h = here (lt-ltb top (next + k + 1) h)

    packet_20 : InSequence k → top < time_at plan k → Refuses (causes_at plan next k) 20 (next + k + 1)
    unfolding causes_at
    packet_20 h l = later (le-ltb top (next + k + 1) h) (here (lt-ltb top (time_at plan k) l))

    packet_passed : Passes (causes_at plan next k) → InSequence k × InTimeAt k
    unfolding causes_at
    packet_passed (past e (past f none)) = (ltb-false top (next + k + 1) e, ltb-false top (time_at plan k) f)

  -- packets before k + n
  none_fails : (n k : ℕ) → ((i : ℕ) → i < k + n → InSequence i × InTimeAt i) → Passes (causes_from plan next n k)
  unfolding causes_from
  none_fails zero k all = none
  none_fails (suc n) k all =
      let h = all k (omega arith) in
      passes_both (packet_passes k h.0 h.1) (none_fails n (suc k) (λ i l. all i (omega arith)))

  -- packet m, d packets behind k, refuses, and nothing before it does
  packet_fails : (n k d m number left : ℕ) → m ≡ k + d → d < n → ((i : ℕ) → i < m → InSequence i × InTimeAt i) → Refuses (causes_at plan next m) number left
      → Refuses (causes_from plan next n k) number left
  unfolding causes_from
  packet_fails zero k d m number left e l all r = absurd (omega arith)
  packet_fails (suc n) k zero m number left e l all r =
      let same : m ≡ k = omega arith in
      refuses_front (causes_from plan next n (suc k)) (rw same at r)
  packet_fails (suc n) k (suc d) m number left e l all r =
      let p = all k (omega arith) in
      refuses_behind (packet_passes k p.0 p.1) (packet_fails n (suc k) d m number left (omega arith) (omega arith) all r)

  -- and backwards
  all_passed : (n k : ℕ) → Passes (causes_from plan next n k) → (i : ℕ) → k ≤ i → i < k + n → InSequence i × InTimeAt i
  unfolding causes_from
  all_passed zero k p i l h = absurd (omega arith)
  all_passed (suc n) k p i l h =
      let q = passed_apart (causes_at plan next k) p in
      go (ltb k i) refl (packet_passed k q.0) (all_passed n (suc k) q.1 i)
    where
      go : (b : Bool) → ltb k i ≡ b → InSequence k × InTimeAt k → (suc k ≤ i → i < suc k + n → InSequence i × InTimeAt i) → InSequence i × InTimeAt i
      go true t own on = on (omega (arith, ltb-true k i t)) (omega arith)
      go false t own on =
          let same : i ≡ k = omega (arith, ltb-false k i t) in
          rw same own

  pub judged_19 : (m : ℕ) → m < plan.packet_count → top ≤ next + m → ((i : ℕ) → i < m → InSequence i × InTimeAt i)
      → refused_at 19 (next + m) ≡ judge_packets plan next
  unfolding judge_packets
  judged_19 m l e all = refuses (accepted plan next) (packet_fails plan.packet_count 0 m m 19 (next + m) (omega arith) l all (packet_19 m (omega arith)))

  pub judged_20 : (m : ℕ) → m < plan.packet_count → InSequence m → ((i : ℕ) → i < m → InSequence i × InTimeAt i) → top < time_at plan m
      → refused_at 20 (next + m + 1) ≡ judge_packets plan next
  unfolding judge_packets
  judged_20 m l s all h = refuses (accepted plan next) (packet_fails plan.packet_count 0 m m 20 (next + m + 1) (omega arith) l all (packet_20 m s h))

  pub judged_accepted : ((i : ℕ) → i < plan.packet_count → InSequence i × InTimeAt i) → accepted plan next ≡ judge_packets plan next
  unfolding judge_packets
  judged_accepted all = passes (accepted plan next) (none_fails plan.packet_count 0 (λ i h. all i (omega arith)))

-- the rate
module _ (rate : ℕ) where
  abbrev LeftRate : ℕ → Type 0
  LeftRate n = Left (from n (rate_causes rate)) (gives (interval rate)) (interval_of rate)

  rate_rows : LeftRate 16
  unfolding interval_of rate_causes
  rate_rows = record { is = refl }

  past_16 : LeftRate 16 → (rate ≡ 0 → ⊥) → LeftRate 17
  unfolding rate_causes
  past_16 left h = goes_on left (ne_eqb rate 0 h)

  pub rate_zero : rate ≡ 0 → refused 16 ≡ interval_of rate
  unfolding rate_causes
  rate_zero h = stops rate_rows (eq-eqb rate 0 h)

  above : (rate ≡ 0 → ⊥) → interval rate ≡ 0 → 1000000000 < rate
  above p h =
      let e : interval rate * rate ≡ 0 = ap (λ (q : ℕ). q * rate) h ∙ zero-mul rate in
      let u : 1000000000 < interval rate * rate + rate = lt-div-mul-add (omega (arith, p)) in
      omega arith

  within : (interval rate ≡ 0 → ⊥) → rate ≤ 1000000000
  within p = go (ltb 1000000000 rate) refl
    where
      go : (b : Bool) → ltb 1000000000 rate ≡ b → rate ≤ 1000000000
      go true t = absurd (p (div-eq_of_lt (ltb-true 1000000000 rate t)))
      go false t = ltb-false 1000000000 rate t

  pub rate_high : (rate ≡ 0 → ⊥) → interval rate ≡ 0 → refused 17 ≡ interval_of rate
  unfolding rate_causes
  rate_high p h = stops (past_16 rate_rows p) (lt-ltb 1000000000 rate (above p h))

  pub rate_good : (rate ≡ 0 → ⊥) → (interval rate ≡ 0 → ⊥) → gives (interval rate) ≡ interval_of rate
  unfolding rate_causes
  rate_good p h = causes.all_passed (goes_on (past_16 rate_rows p) (le-ltb 1000000000 rate (within h)))

  -- backwards: the bounds of a rate that passed, and its interval
  pub rate_bounds : causes.Passes (rate_causes rate) → (0 < rate) × (rate ≤ 1000000000)
  unfolding rate_causes
  rate_bounds p =
      let not_16 = eqb-false rate 0 (first_false (passes_from 16 p)) in
      (omega (arith, not_16), ltb-false 1000000000 rate (first_false (passes_from 17 p)))

  pub rate_passed : causes.Passes (rate_causes rate) → 0 < interval rate
  rate_passed p = positive (interval rate) refl
    where
      positive : (i : ℕ) → interval rate ≡ i → 0 < i
      positive zero h =
          let b = rate_bounds p in
          absurd (omega (arith, b.1, above (λ e. omega (arith, b.0)) h))
      positive (suc i) h = omega arith

pub ruleset rate_rules = (rate_zero, rate_high, rate_good)

-- the packets whose time fits
module _ (first i count : ℕ) (low : first ≤ top) (p : 0 < i) where
  abbrev last : ℕ
  last = (top - first) / i

  fits : (k : ℕ) → k ≤ last → first + k * i ≤ top
  fits k h =
      let a = mul-le-mul_right i h in
      let b = div-mul-le_self (top - first) i in
      omega arith

  pub in_time_some : last < count → InTime first i count (last + 1)
  in_time_some h = record {
    within = omega arith;
    before = λ k l. fits k (omega arith);
    at = λ l.
        let a : top - first < last * i + i = lt-div-mul-add p in
        omega (arith, add-mul last 1 i);
  }

  pub in_time_all : count ≤ last → InTime first i count count
  in_time_all h = record { within = omega arith; before = λ k l. fits k (omega arith); at = λ l. absurd (omega arith) }

pub judges_as : (plan : TrafficPlan) {r : JudgedPlan} {x y : Judged} → Judges plan r x → x ≡ y → Judges plan r y
judges_as plan {r} h e = subst (Judges plan r) e h

-- the closed form
module _ (plan : TrafficPlan) (next i r : ℕ) (timed : Timed plan i) (in_time : InTime plan.first_send_timestamp_ns i plan.packet_count r) where
  time_before : (k : ℕ) → k < r → time_at plan k ≤ top
  time_before k h = rw (sym timed.is) (in_time.before k h)

  pub closed_19 : next ≤ top → top - next < plan.packet_count → top - next ≤ r
      → Judges plan (record { interval = code.Err SequenceOverflow; next_sequence = next + (top - next) }) (judge_packets plan next)
  closed_19 h l e = judges_as plan (record { outcome = refl; next = refl }) (judged_19 plan next (top - next) l (omega arith) (λ k u. (omega arith, time_before k (omega arith))))

  pub closed_20 : r < plan.packet_count → r < top - next
      → Judges plan (record { interval = code.Err SendTimestampOverflow; next_sequence = next + r + 1 }) (judge_packets plan next)
  closed_20 l h = judges_as plan (record { outcome = refl; next = refl }) (judged_20 plan next r l (omega arith) (λ k u. (omega arith, time_before k u)) (rw (sym timed.is) (in_time.at l)))

  pub closed_accepted : plan.packet_count ≤ r → plan.packet_count ≤ top - next → next ≤ top
      → Judges plan (record { interval = code.Ok i; next_sequence = next + plan.packet_count }) (judge_packets plan next)
  closed_accepted l h u =
      judges_as plan (record { outcome = ap gives timed.is; next = refl }) (judged_accepted plan next (λ k v. (omega arith, time_before k (omega arith))))

-- the rows before the packets'
module _ (plan : TrafficPlan) (next : ℕ) where
  abbrev rate_of : ℕ
  rate_of = plan.target_rate_pps

  abbrev more : List Cause
  more = (ltb 2048 plan.packet_count ⇒ 18) ∷ []

  pub plan_refused : (n : ℕ) → refused n ≡ interval_of plan.target_rate_pps → refused_at n next ≡ judge_plan plan next
  unfolding judge_plan plan_causes interval_of
  plan_refused n e =
      refuses (judge_packets plan next) (leaving_refuses next (causes.refuses_front more (refused_by (rate_causes rate_of) (interval rate_of) n (sym e))))

  module _ (i : ℕ) (e : gives i ≡ interval_of plan.target_rate_pps) where
    rate_passes : causes.Passes (rate_causes rate_of) × (gives (interval rate_of) ≡ gives i)
    unfolding interval_of
    rate_passes = causes.passed (rate_causes rate_of) (gives (interval rate_of)) i (sym e)

    pub plan_too_many : 2048 < plan.packet_count → refused_at 18 next ≡ judge_plan plan next
    unfolding judge_plan plan_causes
    plan_too_many h = refuses (judge_packets plan next) (leaving_refuses next (causes.refuses_behind rate_passes.0 (causes.here (lt-ltb 2048 plan.packet_count h))))

    pub plan_judged : plan.packet_count ≤ 2048 → judge_packets plan next ≡ judge_plan plan next
    unfolding judge_plan plan_causes
    plan_judged h = passes (judge_packets plan next) (leaving_passes next (causes.passes_both rate_passes.0 (causes.past (le-ltb 2048 plan.packet_count h) causes.none)))

    pub plan_timed : plan.packet_count ≤ 2048 → Timed plan i
    plan_timed h =
        let same : i ≡ interval rate_of = cc rate_passes.1 in
        record { is = same; positive = rw same (rate_passed rate_of rate_passes.0); count = h }

-- and backwards: what is accepted
count_bound : (n : ℕ) → causes.Passes ((ltb 2048 n ⇒ 18) ∷ []) → n ≤ 2048
count_bound n p = ltb-false 2048 n (first_false p)

pub plan_accepted : (plan : TrafficPlan) (next : ℕ) (packets : List MeasurementHeader) → (judge_plan plan next).outcome ≡ gives packets
    → Acceptable plan next × (judge_plan plan next ≡ accepted plan next)
unfolding judge_plan plan_causes judge_packets
plan_accepted plan next packets e =
    let rate = plan.target_rate_pps in
    let rows = passed (leaving next (plan_causes plan)) (judge_packets plan next) packets e in
    let halves = passed_both (rate_causes rate) (passed_leaving next (plan_causes plan) rows.0) in
    let own = passed (causes_from plan next plan.packet_count 0) (accepted plan next) packets rows.1 in
    let all = all_passed plan next plan.packet_count 0 own.0 in
    let within = rate_bounds rate halves.0 in (
      record {
        rate_positive = within.0;
        rate_within = within.1;
        count_within = count_bound plan.packet_count halves.1;
        sequences = λ k h. omega (arith, (all k (omega arith) (omega arith)).0);
        times = λ k h. (all k (omega arith) (omega arith)).1;
      },
      sym (passes (accepted plan next) own.0 ∙ passes (judge_packets plan next) rows.0),
    )
