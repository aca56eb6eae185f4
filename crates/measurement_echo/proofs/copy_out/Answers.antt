use mathlib.Core.Path.{refl, sym, ap, ◌∙◌}
use lib.ListN.{length}
use lib.Seq.{length-take-le}
use Rattle.measurement_echo.proofs.Block.{count_is, front_is, out_short, out_copied}
use Rattle.measurement_echo.proofs.copy_out.Goals as goal

pub returns-then-out-count : goal.returns-then-out-count
returns-then-out-count c =
    let a = c.args in
    λ f s t e. out_short f s t a.block.now e refl a.out.now c.if-out-count.true

-- the block holds as many bytes as were built
pub slice_bounds-copy_from_slice-end-3 : goal.slice_bounds-copy_from_slice-end-3
slice_bounds-copy_from_slice-end-3 c =
    let m = c.requires in
    let b = c.args.block.now in
    count_is m.flow m.sequence m.time b m.is refl ∙ sym (ap length (front_is m.flow m.sequence m.time b m.is refl))

pub copy_from_slice-requires : goal.copy_from_slice-requires
copy_from_slice-requires c =
    let m = c.requires in
    let b = c.args.block.now in
    length-take-le c.args.count c.args.out.now c.if-out-count.false
    ∙ count_is m.flow m.sequence m.time b m.is refl ∙ sym (ap length (front_is m.flow m.sequence m.time b m.is refl))

pub returns : goal.returns
returns c =
    let a = c.args in
    λ f s t e. out_copied f s t a.block.now e refl a.out.now c.copy_from_slice.new.self c.if-out-count.false c.copy_from_slice.ensures.after
