-- Cause 21, then `rows::enter`, which is `record_sent` behind it.
use mathlib.Core.Path.{sym, ap, ◌∙◌}
use Rattle.std.specs.Prelude.{Result, Err}
use Rattle.std.proofs.lemmas.Result.{err_from_is_err_and}
use Rattle.error.specs.Answer.{answered}
use Rattle.error.specs.declared.Refusal.{Refusal}
use Rattle.rows.specs.Columns.{Columns, columns_written}
use Rattle.observer.specs.Judge.{well_formed}
use Rattle.observer.specs.Answer.{observer_of, recorded}
use Rattle.observer.proofs.Calls.{sent_malformed}
use Rattle.observer.proofs.Entering.{entered_is}
use Rattle.observer.proofs.record_sent.Goals as goal

pub returns-then-not-well_formed-clause-recorded : goal.returns-then-not-well_formed-clause-recorded
returns-then-not-well_formed-clause-recorded c =
    let judged = ap (λ (x : Columns). well_formed (observer_of x c.args.counts.now)) (sym c.read.ensures) ∙ sym c.well_formed-2.ensures in
    sent_malformed (observer_of (columns_written c.args.sheet.now) c.args.counts.now) _ _ (judged ∙ c.if-not-well_formed.true)

pub returns-in_err-counts-clause-recorded : goal.returns-in_err-counts-clause-recorded
returns-in_err-counts-clause-recorded c =
    let judged = ap (λ (x : Columns). well_formed (observer_of x c.args.counts.now)) (sym c.read.ensures) ∙ sym c.well_formed-2.ensures in
    let passed = err_from_is_err_and c.from_residual.result c.from_residual.ensures.1 in
    ap (λ (r : Result (Unit {0}) Refusal). recorded (answered r) c.args.counts.now (columns_written c.enter.new.sheet)) (passed.1 ∙ ap (λ (e : Refusal). Err e) passed.2)
    ∙ entered_is (observer_of (columns_written c.args.sheet.now) c.args.counts.now) _ _ _ _ (judged ∙ c.if-not-well_formed.false) c.in_err-counts.ensures.entered

pub returns-clause-recorded : goal.returns-clause-recorded
returns-clause-recorded c =
    let judged = ap (λ (x : Columns). well_formed (observer_of x c.args.counts.now)) (sym c.read.ensures) ∙ sym c.well_formed-2.ensures in
    entered_is (observer_of (columns_written c.args.sheet.now) c.args.counts.now) _ _ _ _ (judged ∙ c.if-not-well_formed.false) c.in_ok-counts.ensures.entered
