-- The claims of specs/Claims.antt, case by case.
use mathlib.Core.Path.{◌≡◌, refl, ap}
use Rattle.std.specs.Prelude.{Some, None}
use Rattle.measurement.specs.Flow.{version_number, version_numbered}
use Rattle.measurement.specs.declared.IpVersion.{IpVersion}
use Rattle.measurement.specs.declared.IpVersion.TheVariants.{V4, V6}
use Rattle.testkit_reflector.specs.Interface.{sequence_of}
use Rattle.testkit_reflector.specs.Claims.{SequenceReadsBack, AddressReadsBack}

pub sequence_reads_back : SequenceReadsBack
unfolding sequence_of
sequence_reads_back None = refl
sequence_reads_back (Some n) = refl

version_reads_back : (v : IpVersion) → version_numbered (version_number v) ≡ v
unfolding version_numbered
version_reads_back V4 = refl
version_reads_back V6 = refl

pub address_reads_back : AddressReadsBack
address_reads_back a = ap (λ (v : IpVersion). record { version = v; address = a.address; port = a.port }) (version_reads_back a.version)
