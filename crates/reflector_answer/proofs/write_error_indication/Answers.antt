use Rattle.std.proofs.Common.{sym, ap, arith, length, length-take-le}
use Rattle.reflector_answer.proofs.Answers.{octets_most}
use Rattle.reflector_answer.proofs.write_error_indication.Goals as goal

pub overflow_cast-octets : goal.overflow_cast-octets
overflow_cast-octets c = let a = c.args.peer in omega (arith, octets_most a.version a.address, ap length c.counted-address.ensures)

pub slice_bounds-copy_from_slice-end-2 : goal.slice_bounds-copy_from_slice-end-2
slice_bounds-copy_from_slice-end-2 c =
    let a = c.args.peer in
    omega (arith, octets_most a.version a.address, ap length c.counted-address.ensures, c.split_at_mut-front.ensures.back_len, c.requires)

pub slice_bounds-copy_from_slice-end-3 : goal.slice_bounds-copy_from_slice-end-3
slice_bounds-copy_from_slice-end-3 c =
    let a = c.args.peer in
    sym (length-take-le _ _ (omega (arith, octets_most a.version a.address, ap length c.counted-address.ensures, c.split_at_mut-front.ensures.back_len, c.requires)))

pub copy_from_slice-requires-2 : goal.copy_from_slice-requires-2
copy_from_slice-requires-2 c =
    let a = c.args.peer in
    length-take-le _ _ (omega (arith, octets_most a.version a.address, ap length c.counted-address.ensures, c.split_at_mut-front.ensures.back_len, c.requires))
