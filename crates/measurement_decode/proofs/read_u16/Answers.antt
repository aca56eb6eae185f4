use Rattle.measurement_decode.proofs.Laws.{two}
use Rattle.measurement_decode.proofs.read_u16.Goals as goal

pub returns : goal.returns
returns c =
    let a = c.args in
    two a.bytes.now a.at c.word.ensures
