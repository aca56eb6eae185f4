-- What is claimed of the versions' numbers. proofs/Versions.antt proves it.
use Rattle.std.specs.Prelude.{ℕ, ◌≡◌}
use Rattle.measurement.specs.Flow.{version_numbered, version_number}
use Rattle.measurement.specs.declared.IpVersion.{IpVersion}
use Rattle.measurement.specs.declared.IpVersion.TheVariants.{V6}

-- A version comes back from its number, so that a flow that is handed on in numbers keeps its version; and no number
-- but 4 stands for IPv4.
pub record VersionsNumbered : Type 0 where
  pub read_back : (v : IpVersion) → version_numbered (version_number v) ≡ v
  pub every_other : (n : ℕ) → (n ≡ 4 → ⊥) → version_numbered n ≡ V6
