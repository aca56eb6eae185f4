-- `received_tpdus::record_received_tpdus` meets its contract: cause 21, then the T-PDUs one after the other.
use Rattle.std.proofs.Common.{◌≡◌, ℕ, ◌+◌, ◌<◌, List, ◌∷◌, sym, ap, ap₂, ◌∙◌, arith, length, drop, get_or, Ok, Err, Result}
use Rattle.std.specs.Result.{result_unwrap_or}
use Rattle.error.specs.Answer.{answered}
use Rattle.error.specs.declared.Refusal.{Refusal}
use Rattle.rows.specs.Columns.{Columns, columns_marked}
use Rattle.observer.specs.Judge.{well_formed, Step}
use Rattle.observer.specs.Answer.{observer_of}
use Rattle.return_calls.specs.Returns.{sequence_read}
use Rattle.received_tpdus.specs.Received.{tpdus_of, returns_in, sequence_or_0}
use Rattle.received_tpdus.proofs.Received.{tpdu_next, tpdus_behind, stored, reading_well, read_is, stored_behind, received_step, received_malformed, received_all}
use Rattle.received_tpdus.proofs.record_received_tpdus.Goals as goal

-- what is written of a T-PDU that was read
or_0 : (read : Result ℕ Refusal) (n : ℕ) → n ≡ result_unwrap_or read 0 → n ≡ sequence_or_0 (answered read)
or_0 (Ok q) n e = e
or_0 (Err r) n e = e

pub returns-then-not-well_formed-clause-recorded :
    goal.returns-then-not-well_formed-clause-recorded
returns-then-not-well_formed-clause-recorded c =
    let a = c.args in
    let judged = ap (λ (x : Columns). well_formed (observer_of x a.counts.now)) (sym c.read.ensures) ∙ sym c.well_formed-2.ensures in
    received_malformed (observer_of (columns_marked a.sheet.now) a.counts.now) a.return_timestamps.now a.lengths.now a.tpdus.now a.returned.now a.numbers.now
    (judged ∙ c.if-not-well_formed.true)

pub loop-i-preserved : goal.loop-i-preserved
loop-i-preserved c =
    let a = c.args in
    let l = c.loop-i in
    let inv = l.invariant in
    let time = get_or a.return_timestamps.now l.i 0 in
    let so_far = observer_of (columns_marked l.sheet) l.counts in
    let all = tpdus_of a.lengths.now a.tpdus.now in
    let tpdu = c.split_at.result.0.now in
    let read = c.read_sequence-read in
    let returns : c.min-returns.result ≡ returns_in a.return_timestamps.now a.lengths.now a.returned.now a.numbers.now = omega (arith, c.min-returns.ensures, c.min-2.ensures, c.min.ensures) in
    let below : l.i < c.min-returns.result = c.loop-i-test.true in
    let in_times : l.i < length a.return_timestamps.now = omega (arith, returns, below) in
    let in_lengths : l.i < length a.lengths.now = omega (arith, returns, below) in
    let in_returned : l.i < length a.returned.now = omega (arith, returns, below) in
    let in_numbers : l.i < length a.numbers.now = omega (arith, returns, below) in
    let in_numbers_so_far : l.i < length l.numbers = omega (arith, in_numbers, l.auto.numbers) in
    let next =
    tpdu_next a.lengths.now l.rest.now all l.i c.min-in-loop-i.result in_lengths c.min-in-loop-i.ensures inv.tpdus_left
    ∙ ap₂ (λ (x y : List ℕ). x ∷ tpdus_of (drop (l.i + 1) a.lengths.now) y) (sym c.split_at.ensures.front) (sym c.split_at.ensures.back) in
    let n = c.answer_number in
    let p = inv.same in
    let q = c.record_read.ensures.same in
    let s = read_is so_far time tpdu _ read.ensures c.record_read.ensures.recorded in
    record {
      same = (p.0 ∙ q.0, p.1 ∙ q.1, p.2 ∙ q.2, p.3 ∙ q.3, p.4 ∙ q.4);
      on = received_step a.return_timestamps.now all c.min-returns.result l.i _ _ in_times below next so_far l.numbers _ _ n.result in_numbers_so_far s n.ensures inv.on;
      well = ap (λ (z : Step). well_formed z.observer) c.record_read.ensures.recorded ∙ reading_well so_far time tpdu (answered read.result) inv.well;
      numbers_left = stored_behind l.numbers a.numbers.now l.i n.result in_numbers_so_far in_numbers inv.numbers_left;
      tpdus_left = tpdus_behind _ _ _ l.i next;
      returned_so_far = stored (λ tpdu. sequence_or_0 (sequence_read tpdu)) _ _ _ a.returned.now l.returned l.i c.unwrap_or.result next in_returned inv.returned_so_far (or_0 read.result _ c.unwrap_or.ensures ∙ ap sequence_or_0 read.ensures);
    }

pub returns-clause-recorded : goal.returns-clause-recorded
returns-clause-recorded c =
    let a = c.args in
    let l = c.loop-i in
    let o = observer_of (columns_marked a.sheet.now) a.counts.now in
    let judged = ap (λ (x : Columns). well_formed (observer_of x a.counts.now)) (sym c.read.ensures) ∙ sym c.well_formed-2.ensures in
    let returns : c.min-returns.result ≡ returns_in a.return_timestamps.now a.lengths.now a.returned.now a.numbers.now = omega (arith, c.min-returns.ensures, c.min-2.ensures, c.min.ensures) in
    received_all o a.return_timestamps.now a.lengths.now a.tpdus.now a.returned.now a.numbers.now c.min-returns.result returns
    (judged ∙ c.if-not-well_formed.false) l.i (observer_of (columns_marked l.sheet) l.counts) l.returned l.numbers (omega arith) l.auto.numbers l.invariant.on l.invariant.numbers_left l.invariant.returned_so_far
