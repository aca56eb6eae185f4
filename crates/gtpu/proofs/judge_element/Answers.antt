-- `gtpu::judge_element` meets its contract: each way out is a law of proofs/Rows.antt, or what the callee ensures.
use Rattle.std.proofs.Common.{arith}
use Rattle.gtpu.proofs.Rows.{refuses_27, teid_cut, teid_sound}
use Rattle.gtpu.proofs.judge_element.Goals as goal

pub returns-then-list-lt-TEID_DATA_I_SIZE : goal.returns-then-list-lt-TEID_DATA_I_SIZE
returns-then-list-lt-TEID_DATA_I_SIZE c = teid_cut c.args.list.now c.in-16.is c.if-list-lt-TEID_DATA_I_SIZE.true

pub returns-else-list-lt-TEID_DATA_I_SIZE : goal.returns-else-list-lt-TEID_DATA_I_SIZE
returns-else-list-lt-TEID_DATA_I_SIZE c = teid_sound c.args.list.now c.in-16.is c.if-list-lt-TEID_DATA_I_SIZE.false

pub returns-in_default : goal.returns-in_default
returns-in_default c = refuses_27 c.args.list.now (omega arith) (λ e. omega arith)
