use mathlib.Core.Path.{ap, ◌∙◌}
use Rattle.std.proofs.Common.{rules}
use native.Mathlib.Omega.{arith}
use Rattle.field.specs.Field.{bytes_at}
use Rattle.measurement.specs.Flow.{address_length}
use Rattle.measurement.specs.declared.IpVersion.TheVariants.{V6}
use Rattle.measurement_reading.proofs.Rows.{rest_ipv6}
use Rattle.measurement_decode.specs.Numbers.{verdict}
use Rattle.measurement_decode.proofs.Laws.{judging, addresses}
use Rattle.measurement_decode.proofs.judge_ipv6.Goals as goal

pub returns : goal.returns
unfolding address_length
returns c =
    let p = c.args.tpdu.now in
    c.judge_udp.ensures (bytes_at 16 8 p) (bytes_at 16 24 p)
    (addresses V6 p 8 24 40 c.address_sum.result c.address_sum-2.result (omega arith) (omega arith) c.address_sum.ensures.0 c.address_sum-2.ensures.0)
    ∙ ap verdict (rest_ipv6 p c.read_u16-length.ensures (search (rules, judging)))
