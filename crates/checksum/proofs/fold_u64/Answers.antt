-- `checksum::fold_u64` meets its contract: `&` with a mask is a remainder.
use Prim.Native.Nat.{ℕ, ◌+◌, ◌/◌}
use native.Mathlib.Omega.{arith}
use lib.Bits.{bit_and, and_mask}
use Rattle.checksum.proofs.Carries.{fold_whole_number}
use Rattle.checksum.proofs.fold_u64.Goals as goal

-- the carries of a number added in once
abbrev carried : ℕ → ℕ
carried n = bit_and n 65535 + n / 65536

pub returns : goal.returns
returns c =
    let n = c.args.sum in
    let h = bit_and n 4294967295 + n / 4294967296 in
    fold_whole_number n {halves = h} {words = carried h} {once = carried (carried h)} (omega arith) (omega (arith, and_mask n 32))
    (omega (arith, and_mask h 16)) (omega (arith, and_mask (carried h) 16)) (omega (arith, and_mask (carried (carried h)) 16))
