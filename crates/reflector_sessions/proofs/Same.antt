-- What `==` says of two addresses, and of two sessions, is what the definitions say.
use Rattle.std.proofs.Common.{ℕ, ◌≡◌, List, [], ◌∷◌, ◌&&◌, refl, ap, bytes_eq, eqb}
use Rattle.field.specs.Field.{same_bytes}
use Rattle.measurement.specs.Flow.{version_number, address}
use Rattle.measurement.specs.declared.IpVersion.{IpVersion}
use Rattle.measurement.specs.declared.IpVersion.TheVariants.{V4, V6}
use Rattle.reflector_sessions.specs.Session.{value_of, same_version, same_address, compared, lent_compared, same_session}
use Rattle.reflector_sessions.specs.declared.ReflectorSession.{ReflectorSession}
use Rattle.reflector_sessions.specs.declared.SocketAddr.{SocketAddr}

bytes_same : (a b : List ℕ) → bytes_eq a b ≡ same_bytes a b
bytes_same [] [] = refl
bytes_same [] (y ∷ b) = refl
bytes_same (x ∷ a) [] = refl
bytes_same (x ∷ a) (y ∷ b) = ap (λ t. eqb x y && t) (bytes_same a b)

pub address_same : (a b : SocketAddr) → bytes_eq (compared a) (compared b) ≡ same_address a b
unfolding same_address
address_same a b = by a.version b.version
  where
    by : (v w : IpVersion) → bytes_eq (version_number v ∷ a.port ∷ address v a.address) (version_number w ∷ b.port ∷ address w b.address)
        ≡ (same_version v w && (eqb a.port b.port && same_bytes (address v a.address) (address v b.address)))
    by V4 V4 = ap (λ t. eqb a.port b.port && t) (bytes_same (address V4 a.address) (address V4 b.address))
    by V4 V6 = refl
    by V6 V4 = refl
    by V6 V6 = ap (λ t. eqb a.port b.port && t) (bytes_same (address V6 a.address) (address V6 b.address))

pub session_same : (a b : ReflectorSession) → (eqb a.local_teid b.local_teid && (eqb a.peer_teid b.peer_teid && bytes_eq (lent_compared a.peer_addr) (lent_compared b.peer_addr))) ≡ same_session a b
unfolding same_session
session_same a b = ap (λ t. eqb a.local_teid b.local_teid && (eqb a.peer_teid b.peer_teid && t)) (address_same (value_of a.peer_addr) (value_of b.peer_addr))
