-- `gtpu::judge_variable_length` meets its contract: each way out is a law of proofs/Rows.antt, at the length that was read.
use Rattle.std.proofs.Common.{sym, ◌∙◌}
use Rattle.gtpu.proofs.Rows.{length_cut, length_other, value_cut, value_sound}
use Rattle.gtpu.proofs.judge_variable_length.Goals as goal

pub returns-then-list-lt-VALUE_START : goal.returns-then-list-lt-VALUE_START
returns-then-list-lt-VALUE_START c = length_cut c.args.list.now c.requires.1 c.if-list-lt-VALUE_START.true

pub returns-then-other_length : goal.returns-then-other_length
returns-then-other_length c =
    length_other c.args.list.now c.requires.1 c.if-list-lt-VALUE_START.false c.value_length-octets.result c.value_length-octets.ensures (sym c.other_length.ensures ∙ c.if-other_length.true)

pub returns-then-list-size : goal.returns-then-list-size
returns-then-list-size c =
    value_cut c.args.list.now c.requires.1 c.if-list-lt-VALUE_START.false c.value_length-octets.result c.value_length-octets.ensures (sym c.other_length.ensures ∙ c.if-other_length.false) c.if-list-size.true

pub returns : goal.returns
returns c =
    value_sound c.args.list.now c.requires.1 c.if-list-lt-VALUE_START.false c.value_length-octets.result c.value_length-octets.ensures (sym c.other_length.ensures ∙ c.if-other_length.false) c.if-list-size.false
