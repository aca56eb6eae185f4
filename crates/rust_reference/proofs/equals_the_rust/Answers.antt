-- `rust_reference::equals_the_rust` meets its contract.
use Rattle.rust_reference.proofs.Claims.{equals_the_rust}
use Rattle.rust_reference.proofs.equals_the_rust.Goals as goal

pub returns : goal.returns
returns c = equals_the_rust
