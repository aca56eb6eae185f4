use Prim.Native.Nat.{◌*◌}
use mathlib.Core.Path.{ap, sym, ◌∙◌}
use native.Mathlib.Omega.{arith}
use Rattle.std.proofs.Common.{rules}
use lib.Seq.{length-take-le}
use Rattle.field.specs.Field.{bytes_at}
use Rattle.measurement.specs.Flow.{address_length}
use Rattle.measurement.specs.declared.IpVersion.TheVariants.{V4}
use Rattle.measurement_reading.specs.Read.{ihl}
use Rattle.measurement_reading.proofs.Rows.{rest_ipv4}
use Rattle.measurement_decode.specs.Numbers.{verdict}
use Rattle.measurement_decode.proofs.Laws.{judging, addresses}
use Rattle.measurement_decode.proofs.judge_ipv4.Goals as goal

pub slice_bounds-checksum-end : goal.slice_bounds-checksum-end
slice_bounds-checksum-end c =
    let p = c.args.tpdu.now in
    sym (length-take-le (c.low_half-ihl.result * 4) p (omega (arith, c.if-tpdu-start.false)))

pub returns : goal.returns
unfolding ihl address_length
returns c =
    let p = c.args.tpdu.now in
    c.judge_udp.ensures (bytes_at 4 12 p) (bytes_at 4 16 p)
    (addresses V4 p 12 16 20 c.address_sum.result c.address_sum-2.result (omega arith) (omega arith) c.address_sum.ensures.0 c.address_sum-2.ensures.0)
    ∙ ap verdict (rest_ipv4 p c.low_half-ihl.ensures.0 c.read_u16-end.ensures (search (rules, judging)))
