-- `return_calls::record_returned` meets its contract: cause 21, then what was read.
use Rattle.std.proofs.Common.{◌≡◌, sym, ap, ap₂, ◌∙◌, Bool, Ok, Result}
use Rattle.std.proofs.lemmas.Result.{err_from_is_err_and}
use Rattle.error.specs.Answer.{answered}
use Rattle.error.specs.Outcome.{Outcome, gives}
use Rattle.error.specs.declared.Refusal.{Refusal}
use Rattle.rows.specs.Columns.{Columns, columns_marked}
use Rattle.observer.specs.Judge.{well_formed}
use Rattle.observer.specs.Answer.{observer_of, recorded}
use Rattle.observer.specs.declared.ObserverCounts.{ObserverCounts}
use Rattle.observer.proofs.Calls.{indication_counted}
use Rattle.observer.proofs.Arriving.{return_is}
use Rattle.return_calls.specs.Kinds.{MeasurementTpdu, ErrorIndication}
use Rattle.return_calls.specs.Returns.{as_message}
use Rattle.return_calls.specs.Reading.{record_returned}
use Rattle.return_calls.specs.declared.Returned.{Returned}
use Rattle.return_calls.specs.declared.Returned.TheVariants as returned
use Rattle.return_calls.proofs.Laws.{returned_malformed, noticed}
use Rattle.return_calls.proofs.record_returned.Goals as goal

judged : (lent marked : Columns) (counts : ObserverCounts) (well : Bool) {is : Bool} → lent ≡ marked → well ≡ well_formed (observer_of lent counts) → well ≡ is
    → well_formed (observer_of marked counts) ≡ is
judged lent marked counts well e f g = ap (λ (x : Columns). well_formed (observer_of x counts)) (sym e) ∙ sym f ∙ g

read_is : (read : Result Returned Refusal) (x y : Returned) → read ≡ Ok x → x ≡ y → gives y ≡ answered read
read_is read x y e f = ap (λ (z : Returned). gives z) (sym f) ∙ ap answered (sym e)

pub returns-then-not-well_formed-clause-recorded :
    goal.returns-then-not-well_formed-clause-recorded
returns-then-not-well_formed-clause-recorded c =
    returned_malformed (observer_of (columns_marked c.args.sheet.now) c.args.counts.now) c.args.return_timestamp_ns (answered c.args.read)
    (judged _ _ c.args.counts.now _ c.read.ensures c.well_formed-2.ensures c.if-not-well_formed.true)

pub returns-in_err-sequence-clause-recorded : goal.returns-in_err-sequence-clause-recorded
returns-in_err-sequence-clause-recorded c =
    let w = judged _ _ c.args.counts.now _ c.read.ensures c.well_formed-2.ensures c.if-not-well_formed.false in
    let o = observer_of (columns_marked c.args.sheet.now) c.args.counts.now in
    let p = err_from_is_err_and c.from_residual.result c.from_residual.ensures.1 in
    rw (p.1, p.2) (noticed o c.args.return_timestamp_ns _ w ∙ ap (λ (r : Result Returned Refusal). record_returned o c.args.return_timestamp_ns (answered r)) (sym c.in_err-sequence.was))

pub returns-in_err-returned-in-Sequence-clause-recorded :
    goal.returns-in_err-returned-in-Sequence-clause-recorded
returns-in_err-returned-in-Sequence-clause-recorded c =
    let w = judged _ _ c.args.counts.now _ c.read.ensures c.well_formed-2.ensures c.if-not-well_formed.false in
    let o = observer_of (columns_marked c.args.sheet.now) c.args.counts.now in
    let t = c.args.return_timestamp_ns in
    let p = err_from_is_err_and c.from_residual-in_err-returned-in-Sequence.result c.from_residual-in_err-returned-in-Sequence.ensures.1 in
    let done = c.in_err-returned-in-Sequence.ensures in
    rw (p.1, p.2)
    (ap (as_message MeasurementTpdu)
    (ap₂ (λ (x : Outcome (Unit {0})) (n : ObserverCounts). recorded x n (columns_marked c.arrive.new.sheet)) done.answer done.counts
    ∙ return_is o t _ _ _ w c.arrive.ensures.arrived)
    ∙ ap (record_returned o t) (read_is c.args.read _ (returned.Sequence _) c.in_ok-sequence.was c.in-Sequence.is))

pub returns-in_ok-returned-in-Sequence-clause-recorded :
    goal.returns-in_ok-returned-in-Sequence-clause-recorded
returns-in_ok-returned-in-Sequence-clause-recorded c =
    let w = judged _ _ c.args.counts.now _ c.read.ensures c.well_formed-2.ensures c.if-not-well_formed.false in
    let o = observer_of (columns_marked c.args.sheet.now) c.args.counts.now in
    let t = c.args.return_timestamp_ns in
    let done = c.in_ok-returned-in-Sequence.ensures in
    ap (as_message MeasurementTpdu)
    (ap₂ (λ (x : Outcome (Unit {0})) (n : ObserverCounts). recorded x n (columns_marked c.arrive.new.sheet)) done.answer done.counts
    ∙ return_is o t _ _ _ w c.arrive.ensures.arrived)
    ∙ ap (record_returned o t) (read_is c.args.read _ (returned.Sequence _) c.in_ok-sequence.was c.in-Sequence.is)

pub returns-in-ErrorIndication-clause-recorded : goal.returns-in-ErrorIndication-clause-recorded
returns-in-ErrorIndication-clause-recorded c =
    let w = judged _ _ c.args.counts.now _ c.read.ensures c.well_formed-2.ensures c.if-not-well_formed.false in
    let o = observer_of (columns_marked c.args.sheet.now) c.args.counts.now in
    let t = c.args.return_timestamp_ns in
    ap (as_message ErrorIndication) (ap (λ (n : ObserverCounts). recorded (gives tt) n (columns_marked c.args.sheet.now)) c.error_indicated.ensures ∙ indication_counted o w)
    ∙ ap (record_returned o t) (read_is c.args.read _ (returned.ErrorIndication _) c.in_ok-sequence.was c.in-ErrorIndication.is)

pub returns-in-EchoResponse-clause-recorded : goal.returns-in-EchoResponse-clause-recorded
returns-in-EchoResponse-clause-recorded c =
    let w = judged _ _ c.args.counts.now _ c.read.ensures c.well_formed-2.ensures c.if-not-well_formed.false in
    let o = observer_of (columns_marked c.args.sheet.now) c.args.counts.now in
    let t = c.args.return_timestamp_ns in
    noticed o t _ w ∙ ap (record_returned o t) (read_is c.args.read _ returned.EchoResponse c.in_ok-sequence.was c.in-EchoResponse.is)

pub returns-in-Ignored-clause-recorded : goal.returns-in-Ignored-clause-recorded
returns-in-Ignored-clause-recorded c =
    let w = judged _ _ c.args.counts.now _ c.read.ensures c.well_formed-2.ensures c.if-not-well_formed.false in
    let o = observer_of (columns_marked c.args.sheet.now) c.args.counts.now in
    let t = c.args.return_timestamp_ns in
    noticed o t _ w ∙ ap (record_returned o t) (read_is c.args.read _ (returned.Ignored _) c.in_ok-sequence.was c.in-Ignored.is)
