-- `checksum::checksum` meets its contract.
use native.Mathlib.Nat.{zero-add}
use Rattle.checksum.specs.Sum.{checksum_of}
use Rattle.checksum.proofs.checksum.Goals as goal

pub returns : goal.returns
unfolding checksum_of
returns c = rw (c.sum.ensures, zero-add)
