-- Cause 21, then what the two loops found.
use mathlib.Core.Path.{refl, sym, ◌∙◌}
use Rattle.report.proofs.Latencies.{summary_of_lem}
use Rattle.report.proofs.Reporting.{passed, reported}
use Rattle.report.proofs.report.Goals as goal

pub returns : goal.returns
returns c =
    let p = passed c.args.sheet c.args.counts (sym c.well_formed-2.ensures ∙ c.if-not-well_formed.false) in
    let g = c.gather-gathered in
    let worst = c.longest_runs-worst in
    rw (c.within_budget.ensures, c.summary.ensures, summary_of_lem _ _ g.ensures)
    (reported p.well _ _ _ g.result.count worst.result.packets worst.result.duration _ g.ensures.count worst.ensures.packets worst.ensures.duration refl)
