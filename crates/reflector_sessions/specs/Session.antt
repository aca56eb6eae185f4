-- When two sessions are the same record: document 01, leaf 9, "same record (nothing changes) or 33".
use Rattle.std.specs.Prelude.{ℕ, List, ◌∷◌, Bool, true, false, ◌&&◌, eqb, replicate}
use Rattle.field.specs.Field.{same_bytes}
use Rattle.measurement.specs.Flow.{version_numbered, version_number, address}
use Rattle.measurement.specs.declared.IpVersion.{IpVersion}
use Rattle.measurement.specs.declared.IpVersion.TheVariants.{V4, V6}
use Rattle.reflector_sessions.specs.declared.LentSocketAddr.{LentSocketAddr}
use Rattle.reflector_sessions.specs.declared.ReflectorSession.{ReflectorSession}
use Rattle.reflector_sessions.specs.declared.SocketAddr.{SocketAddr}

-- An address in lent memory, as a value.
abbrev pub value_of : LentSocketAddr → SocketAddr
value_of a = record { version = version_numbered a.version; address = a.address; port = a.port }

-- What stands where there is no session: all zeros.
abbrev pub no_session : ReflectorSession
no_session = record {
  local_teid = 0;
  peer_teid = 0;
  peer_addr = record { version = 0; address = replicate 16 0; port = 0 };
}

abbrev pub same_version : IpVersion → IpVersion → Bool
same_version V4 V4 = true
same_version V4 V6 = false
same_version V6 V4 = false
same_version V6 V6 = true

-- "of an IPv4 address only the first 4 bytes count"
unfoldable pub same_address : SocketAddr → SocketAddr → Bool
same_address a b =
    same_version a.version b.version
    && (eqb a.port b.port && same_bytes (address a.version a.address) (address a.version b.address))

-- What `==` reads of an address: version, port, and the bytes that count. That this is `same_address` is proved in
-- proofs/Same.antt.
abbrev pub compared : SocketAddr → List ℕ
compared a = version_number a.version ∷ a.port ∷ address a.version a.address

abbrev pub lent_compared : LentSocketAddr → List ℕ
lent_compared a = compared (value_of a)

unfoldable pub same_session : ReflectorSession → ReflectorSession → Bool
same_session a b = eqb a.local_teid b.local_teid
    && (eqb a.peer_teid b.peer_teid && same_address (value_of a.peer_addr) (value_of b.peer_addr))
