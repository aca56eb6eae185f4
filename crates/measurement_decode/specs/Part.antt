-- What the reader's helpers are handed. For the contracts of private functions.
use Rattle.std.specs.Prelude.{ℕ, ◌+◌, ◌<◌, ◌≤◌, ◌≡◌, List, false, length}
use Rattle.checksum.specs.Sum.{sum_of, fold_of}
use Rattle.measurement.specs.Flow.{address_length}
use Rattle.measurement.specs.declared.IpVersion.{IpVersion}
use Rattle.measurement_reading.specs.Read.{payload, length_wrong}

-- The part of the T-PDU that stands behind the IP header: room for a UDP header, and a length that a UDP length can
-- count.
pub record Part (udp : List ℕ) : Type 0 where
  pub has_header : 8 ≤ length udp
  pub short : length udp < 65536

-- A number that, in any sum, folds to the same as the words of a packet's two addresses.
pub record Addresses (v : IpVersion) (src dst : List ℕ) (sum : ℕ) : Type 0 where
  pub source : length src ≡ address_length v
  pub destination : length dst ≡ address_length v
  pub folds : (n : ℕ) → fold_of (n + sum) ≡ fold_of (n + (sum_of src + sum_of dst))

-- A part whose UDP length is right and whose payload has a whole probe.
pub record HasProbe (udp : List ℕ) : Type 0 where
  pub right : length_wrong udp ≡ false
  pub long : 24 ≤ length (payload udp)
