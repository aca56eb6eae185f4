-- `received_tpdus::record_read` meets its contract: a refusal is due after 21, which the sheet has passed; a sequence
-- is recorded.
use Rattle.std.proofs.Common.{ℕ, sym, ap, ap₂, ◌∙◌, Result}
use Rattle.std.proofs.lemmas.Result.{err_from_is_err_and}
use Rattle.error.specs.Answer.{answered}
use Rattle.error.specs.Outcome.{Outcome}
use Rattle.error.specs.declared.Refusal.{Refusal}
use Rattle.rows.specs.Columns.{columns_marked}
use Rattle.observer.specs.Judge.{after_reading}
use Rattle.observer.specs.Returning.{record_return}
use Rattle.observer.specs.Answer.{observer_of, recorded}
use Rattle.observer.specs.declared.ObserverCounts.{ObserverCounts}
use Rattle.observer.proofs.Calls.{refusing_well}
use Rattle.observer.proofs.Arriving.{return_is}
use Rattle.received_tpdus.proofs.record_read.Goals as goal

pub returns-in_err-read-clause-recorded : goal.returns-in_err-read-clause-recorded
returns-in_err-read-clause-recorded c =
    let o = observer_of (columns_marked c.args.sheet.now) c.args.counts.now in
    let p = err_from_is_err_and c.from_residual.result c.from_residual.ensures.1 in
    rw (p.1, p.2)
    (refusing_well o _ c.requires
    ∙ ap (λ (r : Result ℕ Refusal). after_reading o (answered r) (record_return o c.args.return_timestamp_ns)) (sym c.in_err-read.was))

pub returns-clause-recorded : goal.returns-clause-recorded
returns-clause-recorded c =
    let o = observer_of (columns_marked c.args.sheet.now) c.args.counts.now in
    ap₂ (λ (x : Outcome (Unit {0})) (n : ObserverCounts). recorded x n (columns_marked c.arrive.new.sheet)) c.returned.ensures.answer c.returned.ensures.counts
    ∙ return_is o c.args.return_timestamp_ns _ _ _ c.requires c.arrive.ensures.arrived
    ∙ ap (λ (r : Result ℕ Refusal). after_reading o (answered r) (record_return o c.args.return_timestamp_ns)) (sym c.in_ok-read.was)
