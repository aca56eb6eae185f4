use Rattle.std.proofs.Common.{rules}
use Rattle.error.specs.Outcome.{first_cause}
use Rattle.reflector_sessions.specs.Judge.{table_causes, table_outcome}
use Rattle.reflector_sessions.proofs.judge_table.Goals as goal

pub returns-then-max_sessions-eq0 : goal.returns-then-max_sessions-eq0
unfolding table_outcome table_causes first_cause
returns-then-max_sessions-eq0 c = search rules

pub returns-then-max_sessions-used : goal.returns-then-max_sessions-used
unfolding table_outcome table_causes first_cause
returns-then-max_sessions-used c = search rules

pub returns : goal.returns
unfolding table_outcome table_causes first_cause
returns c = search rules
