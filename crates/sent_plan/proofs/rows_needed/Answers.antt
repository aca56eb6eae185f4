-- `sent_plan::rows_needed` meets its contract. The sequences rise, so the searches end at the places.
use native.Mathlib.Omega.{arith}
use mathlib.Core.Path.{◌∙◌}
use Prim.Native.Nat.{◌+◌}
use lib.ListN.{take}
use lib.Seq.{length-take-le}
use Rattle.columns.proofs.Search.{place_within, found_place}
use Rattle.sent_plan.proofs.SendingPlan.{place_far}
use Rattle.sent_plan.proofs.rows_needed.Goals as goal

pub overflow_add-result : goal.overflow_add-result
overflow_add-result c =
    let a = c.args in
    let xs = take a.used a.sequences.now in
    omega (arith, place_within a.first xs, length-take-le a.used a.sequences.now c.requires.0, c.find-low.ensures ∙ found_place a.first xs c.requires.1)

pub overflow_sub-result : goal.overflow_sub-result
overflow_sub-result c =
    let a = c.args in
    let xs = take a.used a.sequences.now in
    omega (
      arith,
      place_far xs c.requires.1 a.count a.first,
      c.find-low.ensures ∙ found_place a.first xs c.requires.1,
      c.find-high.ensures ∙ found_place (a.first + a.count) xs c.requires.1,
    )

pub returns : goal.returns
returns c =
    let a = c.args in
    let xs = take a.used a.sequences.now in
    omega (
      arith,
      place_far xs c.requires.1 a.count a.first,
      c.find-low.ensures ∙ found_place a.first xs c.requires.1,
      c.find-high.ensures ∙ found_place (a.first + a.count) xs c.requires.1,
    )
