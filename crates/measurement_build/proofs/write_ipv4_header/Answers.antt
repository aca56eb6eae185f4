-- `measurement_build::write_ipv4_header` meets its contract.
use Prim.Native.Nat.{◌+◌}
use native.Mathlib.Omega.{arith}
use lib.ListN.{drop, length-set}
use Rattle.field.proofs.Fields.{split_off}
use Rattle.measurement_build.proofs.Headers.{ipv4_bytes}
use Rattle.measurement_build.proofs.write_ipv4_header.Goals as goal

pub bounds-out-1 : goal.bounds-out-1
bounds-out-1 c = simp length-set (omega arith)

pub bounds-out-2 : goal.bounds-out-2
bounds-out-2 c = simp length-set (omega arith)

pub bounds-out : goal.bounds-out
bounds-out c = simp length-set (omega arith)

pub bounds-out-4 : goal.bounds-out-4
bounds-out-4 c = simp length-set (omega arith)

pub bounds-out-3 : goal.bounds-out-3
bounds-out-3 c = simp length-set (omega arith)

pub bounds-out-6 : goal.bounds-out-6
bounds-out-6 c = simp length-set (omega arith)

pub bounds-out-5 : goal.bounds-out-5
bounds-out-5 c = simp length-set (omega arith)

pub bounds-out-8 : goal.bounds-out-8
bounds-out-8 c = simp length-set (omega arith)

pub bounds-out-9 : goal.bounds-out-9
bounds-out-9 c = simp length-set (omega arith)

pub bounds-out-10 : goal.bounds-out-10
bounds-out-10 c = simp length-set (omega arith)

pub bounds-out-7 : goal.bounds-out-7
bounds-out-7 c = simp length-set (omega arith)

pub bounds-out-12 : goal.bounds-out-12
bounds-out-12 c = simp length-set (omega arith)

pub bounds-out-11 : goal.bounds-out-11
bounds-out-11 c = simp length-set (omega arith)

pub bounds-out-13 : goal.bounds-out-13
bounds-out-13 c = simp length-set (omega arith)

pub bounds-out-14 : goal.bounds-out-14
bounds-out-14 c = simp length-set (omega arith)

pub bounds-out-16 : goal.bounds-out-16
bounds-out-16 c = simp length-set (omega arith)

pub bounds-out-15 : goal.bounds-out-15
bounds-out-15 c = simp length-set (omega arith)

pub bounds-out-17 : goal.bounds-out-17
bounds-out-17 c = simp length-set (omega arith)

pub bounds-out-18 : goal.bounds-out-18
bounds-out-18 c = simp length-set (omega arith)

pub bounds-out-10-2 : goal.bounds-out-10-2
bounds-out-10-2 c = simp length-set (omega arith)

pub bounds-out-19 : goal.bounds-out-19
bounds-out-19 c = simp length-set (omega arith)

pub shape_of-out : goal.shape_of-out
shape_of-out c = simp length-set

-- with the first 20 bytes taken one by one, the stores compute, whatever order they stand in
pub returns : goal.returns
returns c =
    let a = c.args in
    rw (split_off 20 0 a.out.now c.requires.0)
    (ipv4_bytes a.src a.dst (drop 20 a.out.now) (0x8514 + a.pseudo) c.fold_u64-sum.result c.high.result c.low.result
    c.fold_u64-sum.ensures c.high.ensures c.low.ensures)
