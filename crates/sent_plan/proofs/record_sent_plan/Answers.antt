-- 21, then the plan's own causes, then 22 by two searches, then the packets one after the other. The columns are read
-- through one reference (l), and written through another.
use Prim.Native.Nat.{ℕ, ◌+◌}
use native.Mathlib.Omega.{arith}
use mathlib.Core.Path.{◌≡◌, sym, ap, subst, ◌∙◌}
use mathlib.Core.List.{List}
use Rattle.std.specs.Prelude.{Result, Err}
use Rattle.std.proofs.Common.{rules}
use Rattle.std.proofs.lemmas.Result.{err_from_is_err_and}
use Rattle.error.specs.Answer.{answered}
use Rattle.error.specs.Number.{malformed_observer, observer_full}
use Rattle.error.specs.Outcome.{refused, gives}
use Rattle.error.specs.declared.Refusal.{Refusal}
use Rattle.measurement.specs.declared.MeasurementHeader.{MeasurementHeader}
use Rattle.plan.specs.Plan.{Judged, packets_of}
use Rattle.plan.specs.declared.TrafficPlan.{TrafficPlan}
use Rattle.plan.proofs.Answers.{answer_refused, answer_accepted, answer_planned, planned_time, planned_fits}
use Rattle.rows.specs.Columns.{Columns, columns_lent, columns_written}
use Rattle.observer.specs.Counts.{with_used}
use Rattle.observer.specs.Judge.{Step}
use Rattle.observer.specs.Observer.{capacity}
use Rattle.observer.specs.Answer.{observer_of, taken, recorded}
use Rattle.observer.specs.declared.ObserverCounts.{ObserverCounts}
use Rattle.observer.proofs.Judging.{well}
use Rattle.observer.proofs.Entering.{entered_is}
use Rattle.sent_plan.specs.SendingPlan.{send_in_turn, record_sent_plan}
use Rattle.sent_plan.proofs.SendingPlan.{room_short, room_enough, plan_malformed, plan_judged, left_first, left_none, used_after, sent_well, sent_on_lem}
use Rattle.sent_plan.proofs.record_sent_plan.Goals as goal

-- what was shown of the columns that are read holds of those that are written
as_written : {l c : Columns} → l ≡ c → (counts : ObserverCounts) (plan : TrafficPlan) (next : ℕ) (s : Columns → Step)
    → s l ≡ record_sent_plan (observer_of l counts) plan next → s c ≡ record_sent_plan (observer_of c counts) plan next
as_written same counts plan next s e = subst (λ (x : Columns). s x ≡ record_sent_plan (observer_of x counts) plan next) same e

pub returns-then-not-well_formed-clause-recorded : goal.returns-then-not-well_formed-clause-recorded
returns-then-not-well_formed-clause-recorded c =
    let a = c.args in
    as_written c.read-lent.ensures a.counts.now a.plan a.next_sequence (recorded (refused malformed_observer) a.counts.now)
    (plan_malformed (observer_of (columns_lent c.read-lent.result) a.counts.now) a.plan a.next_sequence (sym c.well_formed-2.ensures ∙ c.if-not-well_formed.true))

pub returns-in_err-interval-clause-recorded : goal.returns-in_err-interval-clause-recorded
returns-in_err-interval-clause-recorded c =
    let a = c.args in
    let passed = err_from_is_err_and c.from_residual.result c.from_residual.ensures.1 in
    let why = c.in_err-interval.field-0.0 in
    ap (λ (r : Result (Unit {0}) Refusal). recorded (answered r) a.counts.now (columns_written a.sheet.now)) (passed.1 ∙ ap (λ (e : Refusal). Err e) passed.2)
    ∙ as_written c.read-lent.ensures a.counts.now a.plan a.next_sequence (recorded (answered (Err why)) a.counts.now)
    (plan_judged (observer_of (columns_lent c.read-lent.result) a.counts.now) a.plan a.next_sequence (sym c.well_formed-2.ensures ∙ c.if-not-well_formed.false) _
    (answer_refused a.plan a.next_sequence c.judge_plan.result c.judge_plan.ensures why c.in_err-interval.was))

pub rows_needed-needed-requires : goal.rows_needed-needed-requires
rows_needed-needed-requires c =
    let a = c.args in
    let w = well (observer_of (columns_lent c.read-lent.result) a.counts.now) (sym c.well_formed-2.ensures ∙ c.if-not-well_formed.false) in
    let p = answer_planned a.plan a.next_sequence c.judge_plan.result c.judge_plan.ensures c.in_ok-interval.interval c.in_ok-interval.was (omega (arith, c.ranges.next_sequence.fits)) in
    (w.room.sequences, w.rises, p.count, p.sequences)

pub overflow_sub-capacity : goal.overflow_sub-capacity
unfolding capacity
overflow_sub-capacity c =
    let w = well (observer_of (columns_lent c.read-lent.result) c.args.counts.now) (sym c.well_formed-2.ensures ∙ c.if-not-well_formed.false) in
    omega (arith, w.fits, c.capacity.ensures)

pub returns-then-capacity-counts-clause-recorded : goal.returns-then-capacity-counts-clause-recorded
unfolding capacity
returns-then-capacity-counts-clause-recorded c =
    let a = c.args in
    let o = observer_of (columns_lent c.read-lent.result) a.counts.now in
    let w = well o (sym c.well_formed-2.ensures ∙ c.if-not-well_formed.false) in
    let t = answer_accepted a.plan a.next_sequence c.judge_plan.result c.judge_plan.ensures c.in_ok-interval.interval c.in_ok-interval.was in
    as_written c.read-lent.ensures a.counts.now a.plan a.next_sequence (recorded (refused observer_full) a.counts.now)
    (room_short w a.plan a.next_sequence c.rows_needed-needed.result c.capacity.result c.rows_needed-needed.ensures c.capacity.ensures c.if-capacity-counts.true
    ∙ plan_judged o a.plan a.next_sequence w.accepted _ (ap (λ (x : Judged). x.outcome) t.2))

pub loop-k-init : goal.loop-k-init
loop-k-init c = record {
  leaves = ap (λ (l : List MeasurementHeader). (send_in_turn (observer_of (columns_written c.args.sheet.now) c.args.counts.now) l).observer) (left_first c.args.plan c.args.next_sequence);
  well = rw c.read-lent.ensures at (sym c.well_formed-2.ensures ∙ c.if-not-well_formed.false);
  same = search rules;
}

pub overflow_add-next_sequence : goal.overflow_add-next_sequence
overflow_add-next_sequence c =
    let a = c.args in
    let p = answer_planned a.plan a.next_sequence c.judge_plan.result c.judge_plan.ensures c.in_ok-interval.interval c.in_ok-interval.was (omega (arith, c.ranges.next_sequence.fits)) in
    omega (arith, c.loop-k-test.true, p.sequences)

pub overflow_mul-k : goal.overflow_mul-k
overflow_mul-k c =
    let a = c.args in
    let p = answer_planned a.plan a.next_sequence c.judge_plan.result c.judge_plan.ensures c.in_ok-interval.interval c.in_ok-interval.was (omega (arith, c.ranges.next_sequence.fits)) in
    omega (arith, planned_fits p c.loop-k.k c.loop-k-test.true)

pub overflow_add-plan : goal.overflow_add-plan
overflow_add-plan c =
    let a = c.args in
    let p = answer_planned a.plan a.next_sequence c.judge_plan.result c.judge_plan.ensures c.in_ok-interval.interval c.in_ok-interval.was (omega (arith, c.ranges.next_sequence.fits)) in
    omega (arith, planned_fits p c.loop-k.k c.loop-k-test.true)

pub loop-k-preserved : goal.loop-k-preserved
loop-k-preserved c =
    let a = c.args in
    let l = c.loop-k in
    let p = answer_planned a.plan a.next_sequence c.judge_plan.result c.judge_plan.ensures c.in_ok-interval.interval c.in_ok-interval.was (omega (arith, c.ranges.next_sequence.fits)) in
    let o = observer_of (columns_written l.sheet) l.counts in
    let left = columns_written c.enter.new.sheet in
    let outcome = taken (answered c.enter.result) in
    let sent =
    ap (λ (x : ℕ). recorded outcome (with_used x l.counts) left) c.unwrap_or-counts.ensures
    ∙ ap (λ (x : ObserverCounts). recorded outcome x left) (sym (used_after c.enter.result l.counts))
    ∙ entered_is o (a.next_sequence + l.k) _ _ left l.invariant.well c.enter.ensures.entered in
    let h = l.invariant.same in
    let g = c.enter.ensures.same in
    record {
      leaves = sent_on_lem a.plan a.next_sequence outcome _ left o l.k _ sent (planned_time p l.k) c.loop-k-test.true _ l.invariant.leaves;
      well = sent_well a.plan a.next_sequence outcome _ left o l.k _ sent l.invariant.well;
      same = (h.0 ∙ g.0, h.1 ∙ g.1, h.2 ∙ g.2, h.3 ∙ g.3, h.4 ∙ g.4);
    }

pub returns-clause-recorded : goal.returns-clause-recorded
unfolding capacity
returns-clause-recorded c =
    let a = c.args in
    let l = c.loop-k in
    let o = observer_of (columns_lent c.read-lent.result) a.counts.now in
    let w = well o (sym c.well_formed-2.ensures ∙ c.if-not-well_formed.false) in
    let t = answer_accepted a.plan a.next_sequence c.judge_plan.result c.judge_plan.ensures c.in_ok-interval.interval c.in_ok-interval.was in
    let left = observer_of (columns_written l.sheet) l.counts in
    let sent : left ≡ (send_in_turn (observer_of (columns_written a.sheet.now) a.counts.now) (packets_of a.plan a.next_sequence)).observer =
    ap (λ (x : List MeasurementHeader). (send_in_turn left x).observer) (sym (left_none a.plan a.next_sequence l.k c.loop-k-test.false)) ∙ l.invariant.leaves in
    as_written c.read-lent.ensures a.counts.now a.plan a.next_sequence (λ x. recorded (gives tt) l.counts (columns_written l.sheet))
    (room_enough w a.plan a.next_sequence c.rows_needed-needed.result c.capacity.result c.rows_needed-needed.ensures c.capacity.ensures c.if-capacity-counts.false left
    (subst (λ (x : Columns). left ≡ (send_in_turn (observer_of x a.counts.now) (packets_of a.plan a.next_sequence)).observer) (sym c.read-lent.ensures) sent)
    ∙ plan_judged o a.plan a.next_sequence w.accepted _ (ap (λ (x : Judged). x.outcome) t.2))
