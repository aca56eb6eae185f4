use mathlib.Core.Path.{refl}
use Rattle.measurement_echo.proofs.Block.{not_refused}
use Rattle.measurement_echo.proofs.write_from_block.Goals as goal

-- the block is long enough
pub returns-in_err-count : goal.returns-in_err-count
returns-in_err-count c =
    let a = c.args in
    not_refused a.flow a.sequence a.send_timestamp_ns _ c.in_err-count.ensures refl

pub returns : goal.returns
returns c =
    let a = c.args in
    c.copy_out.ensures a.flow a.sequence a.send_timestamp_ns c.in_ok-count.ensures
