-- The claim of specs/Claims.antt, proved.
use Prim.Native.Nat.{ℕ}
use mathlib.Core.Path.{◌≡◌, refl}
use borrow.Author.Tests.{ne_eqb}
use Rattle.measurement.specs.Flow.{version_numbered, version_number}
use Rattle.measurement.specs.Claims.{VersionsNumbered}
use Rattle.measurement.specs.declared.IpVersion.{IpVersion}
use Rattle.measurement.specs.declared.IpVersion.TheVariants.{V4, V6}

read_back : (v : IpVersion) → version_numbered (version_number v) ≡ v
unfolding version_numbered
read_back V4 = refl
read_back V6 = refl

every_other : (n : ℕ) → (n ≡ 4 → ⊥) → version_numbered n ≡ V6
unfolding version_numbered
every_other n other = rw (ne_eqb n 4 other, version_numbered)

pub versions_numbered : VersionsNumbered
versions_numbered = record { read_back = read_back; every_other = every_other }
