use mathlib.Core.Path.{sym}
use native.Mathlib.Omega.{arith}
use lib.Seq.{length-take-le}
use Rattle.measurement_reading.proofs.Rows.{length_right}
use Rattle.measurement_decode.proofs.Laws.{sum_tested}
use Rattle.measurement_decode.proofs.sum_wrong.Goals as goal

pub slice_bounds-sum-end : goal.slice_bounds-sum-end
slice_bounds-sum-end c =
    let u = c.args.udp.now in
    sym (length-take-le c.read_u16-length.result u (omega (arith, c.read_u16-length.ensures, length_right u c.requires.2)))

pub returns : goal.returns
returns c =
    λ v src dst is. sum_tested v src dst c.args.udp.now is c.read_u16-length.ensures (omega arith) c.sum.ensures
