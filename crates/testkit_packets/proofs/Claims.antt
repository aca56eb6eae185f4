-- The claim of specs/Claims.antt.
use native.Mathlib.Omega.{arith}
use mathlib.Core.Path.{◌≡◌, refl, ap}
use borrow.Author.Tests.{ne_eqb}
use Rattle.error.specs.Outcome.{Outcome, refused, gives}
use Rattle.gtpu.specs.Indication.{indication_of}
use Rattle.gtpu.specs.Tunnels.{IndicationNumbers}
use Rattle.gtpu.specs.declared.RefusedTunnel.{RefusedTunnel}
use Rattle.gtpu.proofs.Tunnels.{indication_numbers}
use Rattle.measurement.proofs.Versions.{versions_numbered}
use Rattle.measurement.specs.declared.IpVersion.{IpVersion}
use Rattle.testkit_packets.specs.Interface.{elements_numbers, address_left}
use Rattle.testkit_packets.specs.Claims.{elements_told, ElementsReadBack}

pub elements_read_back : ElementsReadBack
unfolding IndicationNumbers
elements_read_back payload lent = by (indication_of payload) refl
  where
    by : (x : Outcome RefusedTunnel) → indication_of payload ≡ x → elements_told (elements_numbers x) (address_left x lent) ≡ x
    by (refused n) e = rw (elements_told, ne_eqb n 0 (λ z. omega (arith, (indication_numbers payload n e).0)))
    by (gives t) e =
        ap (λ (v : IpVersion). gives (record { teid = t.teid; version = v; peer_address = t.peer_address })) (versions_numbered.read_back t.version)
