-- `measurement_build::write_ipv6_header` meets its contract.
use native.Mathlib.Omega.{arith}
use Rattle.measurement_build.proofs.Headers.{ipv6_put}
use Rattle.measurement_build.proofs.write_ipv6_header.Goals as goal

pub returns : goal.returns
returns c =
    ipv6_put c.args.src c.args.dst c.args.out.now c.put.new.out c.put-2.new.out c.put-3.new.out (omega (arith, c.well_formed.0)) (omega (arith, c.well_formed.1.0))
    c.put.ensures c.put-2.ensures c.put-3.ensures
