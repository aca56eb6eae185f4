use mathlib.Core.Path.{sym}
use Rattle.measurement_decode.proofs.Callers.{put_together}
use Rattle.measurement_decode.proofs.decode_measurement_tpdu.Goals as goal

pub returns : goal.returns
returns c =
    let e = c.in_ok-read.ensures in
    sym (put_together c.args.tpdu.now _ _ e.answer e.source e.destination)
