use mathlib.Core.Path.{◌∙◌}
use borrow.Author.Tests.{lt-ltb}
use Rattle.measurement_reading.proofs.Rows.{length_short, length_past}
use Rattle.measurement_decode.proofs.length_wrong.Goals as goal

pub returns-then-n-lt-UDP_HEADER_BYTES : goal.returns-then-n-lt-UDP_HEADER_BYTES
returns-then-n-lt-UDP_HEADER_BYTES c = lt-ltb c.read_u16-n.result 8 c.if-n-lt-UDP_HEADER_BYTES.true ∙ length_short c.args.udp.now c.read_u16-n.ensures c.if-n-lt-UDP_HEADER_BYTES.true

pub returns-else-n-lt-UDP_HEADER_BYTES : goal.returns-else-n-lt-UDP_HEADER_BYTES
returns-else-n-lt-UDP_HEADER_BYTES c = length_past c.args.udp.now c.read_u16-n.ensures c.if-n-lt-UDP_HEADER_BYTES.false
