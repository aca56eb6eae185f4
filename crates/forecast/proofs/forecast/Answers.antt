use Prim.Native.Nat.{◌-◌}
use mathlib.Core.Path.{ap, ◌∙◌}
use native.Mathlib.Omega.{arith}
use Rattle.std.specs.Prelude.{Err}
use Rattle.std.proofs.lemmas.Result.{err_from_is_err_and}
use Rattle.error.specs.declared.Refusal.{Refusal}
use Rattle.forecast.specs.Answer.{forecast_means}
use Rattle.forecast.proofs.Answers.{answer_refuses, answer_empty, answer_packets, bytes_fit, sequence_fits, time_fits}
use Rattle.forecast.proofs.forecast.Goals as goal

pub returns-in_err-interval : goal.returns-in_err-interval
returns-in_err-interval c =
    let a = c.args in
    let passed = err_from_is_err_and c.from_residual.result c.from_residual.ensures.1 in
    ap forecast_means (passed.1 ∙ ap (λ (e : Refusal). Err e) passed.2) ∙ answer_refuses a.version a.plan a.next_sequence _ c.judge_plan.ensures _ c.in_err-interval.was

pub returns-then-plan-eq0 : goal.returns-then-plan-eq0
returns-then-plan-eq0 c =
    let a = c.args in
    answer_empty a.version a.plan a.next_sequence _ c.judge_plan.ensures _ c.in_ok-interval.was c.if-plan-eq0.true

pub overflow_mul-result : goal.overflow_mul-result
overflow_mul-result c =
    let a = c.args in
    omega (arith, bytes_fit a.version a.plan a.next_sequence _ c.judge_plan.ensures _ c.in_ok-interval.was c.packet_length.result c.packet_length.ensures)

pub overflow_add-result : goal.overflow_add-result
overflow_add-result c =
    let a = c.args in
    omega (arith, sequence_fits a.version a.plan a.next_sequence _ c.judge_plan.ensures _ c.in_ok-interval.was (omega arith))

pub overflow_mul-result-2 : goal.overflow_mul-result-2
overflow_mul-result-2 c =
    let a = c.args in
    omega (arith, time_fits a.version a.plan a.next_sequence _ c.judge_plan.ensures _ c.in_ok-interval.was (omega arith) (a.plan.packet_count - 1) (omega arith))

pub overflow_add-result-2 : goal.overflow_add-result-2
overflow_add-result-2 c =
    let a = c.args in
    omega (arith, time_fits a.version a.plan a.next_sequence _ c.judge_plan.ensures _ c.in_ok-interval.was (omega arith) (a.plan.packet_count - 1) (omega arith))

pub returns : goal.returns
returns c =
    let a = c.args in
    answer_packets a.version a.plan a.next_sequence _ c.judge_plan.ensures _ c.in_ok-interval.was _ c.packet_length.ensures (omega arith) (omega arith)
