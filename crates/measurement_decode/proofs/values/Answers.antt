use native.Mathlib.Omega.{arith}
use Rattle.measurement_reading.proofs.Rows.{length_right}
use Rattle.measurement_decode.proofs.Laws.{values_are}
use Rattle.measurement_decode.proofs.values.Goals as goal

pub read_u16-end-requires : goal.read_u16-end-requires
read_u16-end-requires c = (omega arith, omega (arith, length_right c.args.udp.now c.requires.right))

pub returns : goal.returns
returns c =
    let a = c.args in
    λ src dst. values_are a.version src dst a.udp.now c.read_u16-end.ensures c.read_u16.ensures c.read_u16-2.ensures
    c.read_u64.ensures c.read_u64-2.ensures
