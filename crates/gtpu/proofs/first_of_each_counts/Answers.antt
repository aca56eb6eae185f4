-- `gtpu::first_of_each_counts` meets its contract.
use Rattle.gtpu.proofs.Tunnels.{first_of_each, every_accepted, tunnel_examples_lem}
use Rattle.gtpu.proofs.first_of_each_counts.Goals as goal

pub returns : goal.returns
returns c = (first_of_each, every_accepted, tunnel_examples_lem)
