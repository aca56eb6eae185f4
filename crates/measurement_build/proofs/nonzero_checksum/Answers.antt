-- `measurement_build::nonzero_checksum` meets its contract.
use Rattle.measurement_build.proofs.Headers.{ones_for_zero, as_it_is}
use Rattle.measurement_build.proofs.nonzero_checksum.Goals as goal

pub returns-then-checksum-eq0 : goal.returns-then-checksum-eq0
returns-then-checksum-eq0 c = ones_for_zero c.args.sum c.if-checksum-eq0.true

pub returns : goal.returns
returns c = as_it_is c.args.sum c.if-checksum-eq0.false
