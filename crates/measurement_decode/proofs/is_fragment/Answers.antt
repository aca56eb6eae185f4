use Prim.Native.Nat.{◌%◌}
use native.Mathlib.Omega.{arith}
use Rattle.measurement_reading.proofs.Rows.{fragment_tested}
use Rattle.measurement_decode.proofs.is_fragment.Goals as goal

pub returns : goal.returns
returns c =
    let word = c.read_u16.result in
    fragment_tested c.args.tpdu.now {t = word % 0x4000} c.read_u16.ensures (λ z. omega arith) (λ z. omega arith)
