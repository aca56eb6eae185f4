use Rattle.measurement_decode.proofs.Laws.{eight}
use Rattle.measurement_decode.proofs.read_u64.Goals as goal

pub returns : goal.returns
returns c =
    let a = c.args in
    eight a.bytes.now a.at c.wide.ensures.0 c.wide-2.ensures.0 c.wide-3.ensures.0 c.wide-4.ensures.0
    c.wide-5.ensures.0 c.wide-6.ensures.0 c.wide-7.ensures.0 c.wide-8.ensures.0
