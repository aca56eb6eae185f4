-- The used rows fit, or 21 is due (proofs/Judging.antt); where they fit, the code judges what is left in three columns.
use mathlib.Core.Path.{sym, ◌∙◌}
use mathlib.Core.Bool.{true, false}
use native.Mathlib.Omega.{arith}
use borrow.Author.Tests.{lt-leb}
use Rattle.std.proofs.lemmas.Bool.{false≢true}
use Rattle.rows.specs.Columns.{columns_lent}
use Rattle.observer.specs.Observer.{capacity}
use Rattle.observer.specs.Answer.{observer_of}
use Rattle.observer.proofs.Judging.{overfull, rising_first}
use Rattle.observer.proofs.well_formed.Goals as goal
use Rattle.observer.proofs.well_formed.Goals.{then-used-capacity, else-used-capacity}

pub returns-then-sequences_rise : goal.returns-then-sequences_rise
unfolding capacity
returns-then-sequences_rise c =
    let o = observer_of (columns_lent c.args.sheet) c.args.counts in
    elim c.if-used-capacity.branch [
      | then-used-capacity w ↦
          let rises = sym w.sequences_rise.ensures ∙ sym w.value-is ∙ c.if-sequences_rise.true in
          c.returns_known.ensures ∙ rising_first o (omega (arith, w.if-used-capacity.true)) true rises
      | else-used-capacity w ↦ absurd (false≢true (sym (w.value-is ∙ lt-leb _ _ w.if-used-capacity.false) ∙ c.if-sequences_rise.true))
    ]

pub returns-else-sequences_rise : goal.returns-else-sequences_rise
unfolding capacity
returns-else-sequences_rise c =
    let o = observer_of (columns_lent c.args.sheet) c.args.counts in
    elim c.if-used-capacity.branch [
      | then-used-capacity w ↦
          let rises = sym w.sequences_rise.ensures ∙ sym w.value-is ∙ c.if-sequences_rise.false in
          c.if-sequences_rise.false ∙ rising_first o (omega (arith, w.if-used-capacity.true)) false rises
      | else-used-capacity w ↦ w.value-is ∙ lt-leb _ _ w.if-used-capacity.false ∙ sym (overfull o (omega (arith, w.if-used-capacity.false)))
    ]
