-- The reflector's sessions: a search of the `Vec` and one of the used rows find the same, and registering answers alike and leaves the same.
use Rattle.std.proofs.Common.{◌≡◌, ℕ, suc, ◌+◌, ◌<◌, Bool, true, false, not, ◌&&◌, ◌||◌, eqb, leb, List, [], ◌∷◌, ◌++◌, map, length, take, set, sym, refl, ap, ◌∙◌, subst, inr, arith, length-set, length-take-le, take-suc-set, eqb-true, le-leb}
use Rattle.std.specs.Prelude.{Option, Some, None}
use lib.ListN.{length-map}
use borrow.Author.Tests.{eqb-false, lt-leb}
use Rattle.error.specs.Number.{invalid_reflector_session, reflector_session_conflict, reflector_session_capacity_exceeded}
use Rattle.error.specs.Outcome.{Outcome, gives, ◌⇒◌, first_cause}
use Rattle.error.proofs.Causes.{passes}
use Rattle.field.specs.Field.{same_bytes}
use Rattle.measurement.specs.Flow.{address}
use Rattle.measurement.specs.declared.IpVersion.{IpVersion}
use Rattle.measurement.specs.declared.IpVersion.TheVariants.{V4, V6}
use Rattle.reflector_sessions.specs.Register.{invalid_session, session_outcome, register_outcome, register_session, registered_table}
use Rattle.reflector_sessions.specs.Session.{value_of, same_version, same_address, same_session}
use Rattle.reflector_sessions.specs.Table.{find, used_rows}
use Rattle.reflector_sessions.specs.declared.ReflectorSession.{ReflectorSession}
use Rattle.reflector_sessions.proofs.Judging.{Sound, is_sound}
use Rattle.reflector_sessions.proofs.Search.{used_within}
use Rattle.rust_reference.specs.Claims.{NoneAdded, RegisterSession}
use Rattle.rust_reference.specs.Error.{Result, Ok, Err, InvalidReflectorSession, ReflectorSessionConflict, ReflectorSessionCapacityExceeded, return_if, ◌>>◌}
use Rattle.rust_reference.specs.Map as map
use Rattle.rust_reference.specs.Number.{outcome_of}
use Rattle.rust_reference.specs.Reflector as rust
use Rattle.rust_reference.specs.Sessions.{Reflector, table_in, with_table, rust_ip, rust_session, rust_reflector, rust_removed}
use Rattle.rust_reference.proofs.Told.{told_as}
use Rattle.rust_reference.proofs.Capacity.{Fits, made_fits, sound_table}

abbrev pub SoundIn : Reflector → Type 0
SoundIn r = Sound (length r.sessions) r.used r.config.max_sessions

-- ---- sessions

and_swap : (a b : Bool) → a && b ≡ b && a
and_swap true true = refl
and_swap true false = refl
and_swap false true = refl
and_swap false false = refl

same_ip_lem : (v w : IpVersion) (a b : List ℕ) (port : Bool)
    → rust.same_ip (rust_ip v a) (rust_ip w b) && port ≡ same_version v w && (port && same_bytes (address v a) (address v b))
same_ip_lem V4 V4 a b port = and_swap (same_bytes (address V4 a) (address V4 b)) port
same_ip_lem V4 V6 a b port = refl
same_ip_lem V6 V4 a b port = refl
same_ip_lem V6 V6 a b port = and_swap (same_bytes (address V6 a) (address V6 b)) port

same_session_lem : (a b : ReflectorSession) → rust.same_session (rust_session a) (rust_session b) ≡ same_session a b
unfolding same_session same_address
same_session_lem a b =
    let one = value_of a.peer_addr in
    let other = value_of b.peer_addr in
    ap (λ (t : Bool). eqb a.local_teid b.local_teid && (eqb a.peer_teid b.peer_teid && t))
    (same_ip_lem one.version other.version one.address other.address (eqb one.port other.port))

pub find_same : (teid : ℕ) (rows : List ReflectorSession) → rust.find teid (map rust_session rows) ≡ rust_removed (find teid rows)
find_same teid [] = refl
find_same teid (session ∷ rows) = by (eqb session.local_teid teid) (find_same teid rows)
  where
    by : (t : Bool) → rust.find teid (map rust_session rows) ≡ rust_removed (find teid rows)
        → elim t [ true ↦ map.Some (rust_session session) | false ↦ rust.find teid (map rust_session rows) ]
        ≡ rust_removed (elim t [ true ↦ Some session | false ↦ find teid rows ])
    by true h = refl
    by false h = h

-- ---- registering

pub map_snoc : {A B : Type 0} (f : A → B) (l : List A) (x : A) → map f (l ++ x ∷ []) ≡ map f l ++ f x ∷ []
map_snoc f [] x = refl
map_snoc {B = B} f (y ∷ l) x = ap (λ (r : List B). f y ∷ r) (map_snoc f l x)

-- as many sessions as used rows
pub vec_length : (r : Reflector) → SoundIn r → length (rust_reflector r).sessions ≡ r.used
vec_length r s =
    length-map (used_rows (table_in r)) rust_session ∙ length-take-le r.used r.sessions (used_within (length r.sessions) r.used r.config.max_sessions s)

module _ (r : Reflector) (session : ReflectorSession) (s : SoundIn r) where
  -- the same answer, and the reflector that it leaves, where 30 and 31 pass again
  abbrev pub Comes : rust.Called (Result Bool) → Outcome Bool → Type 0
  Comes after o =
      (outcome_of after.result ≡ o)
      × (after.reflector ≡ rust_reflector (with_table (registered_table o session (table_in r)) r))
      × SoundIn (with_table (registered_table o session (table_in r)) r)

  -- the maximum is reached where as many rows are used
  full : leb r.config.max_sessions (length (rust_reflector r).sessions) ≡ eqb r.used r.config.max_sessions
  full = ap (leb r.config.max_sessions) (vec_length r s) ∙ by (eqb r.used r.config.max_sessions) refl
    where
      by : (t : Bool) → eqb r.used r.config.max_sessions ≡ t → leb r.config.max_sessions r.used ≡ t
      by true e = le-leb r.config.max_sessions r.used (omega (arith, eqb-true r.used r.config.max_sessions e))
      by false e = lt-leb r.config.max_sessions r.used (omega (arith, eqb-false r.used r.config.max_sessions e, s.enough))

  -- the row past the used ones is the `Vec`'s new last
  pushed : r.used < length r.sessions
      → rust.with_sessions ((rust_reflector r).sessions ++ rust_session session ∷ []) (rust_reflector r) ≡ rust_reflector (with_table (registered_table (gives true) session (table_in r)) r)
  pushed free =
      ap (λ (l : List rust.ReflectorSession). rust.with_sessions l (rust_reflector r))
      (sym (map_snoc rust_session (used_rows (table_in r)) session) ∙ ap (map rust_session) (sym (take-suc-set r.sessions r.used session free) ∙ one_more_lem))
    where
      one_more_lem : take (suc r.used) (set r.sessions r.used session) ≡ take (r.used + 1) (set r.sessions r.used session)
      one_more_lem = let e : suc r.used ≡ r.used + 1 = omega arith in ap (λ (n : ℕ). take n (set r.sessions r.used session)) e

  new_session : (t : Bool) → eqb r.used r.config.max_sessions ≡ t
      → Comes (elim t [
        | true ↦ record { result = Err ReflectorSessionCapacityExceeded; reflector = rust_reflector r }
        | false ↦ record { result = Ok true; reflector = rust.with_sessions ((rust_reflector r).sessions ++ rust_session session ∷ []) (rust_reflector r) }
      ]) (first_cause ((t ⇒ reflector_session_capacity_exceeded) ∷ []) (gives true))
  unfolding first_cause
  new_session true e = (refl, refl, s)
  new_session false e =
      let differ = eqb-false r.used r.config.max_sessions e in (
        refl,
        pushed (omega (arith, s.enough, s.room, differ)),
        record {
          above = s.above;
          most = s.most;
          enough = omega (arith, s.enough, differ);
          room = omega (arith, s.room, length-set r.sessions r.used session);
        },
      )

  known_session : (t : Bool)
      → Comes (elim t [
        | true ↦ record { result = Ok false; reflector = rust_reflector r }
        | false ↦ record { result = Err ReflectorSessionConflict; reflector = rust_reflector r }
      ]) (first_cause ((not t ⇒ reflector_session_conflict) ∷ []) (gives false))
  unfolding first_cause
  known_session true = (refl, refl, s)
  known_session false = (refl, refl, s)

  -- what the search found
  abbrev onward : map.Option rust.ReflectorSession → rust.Called (Result Bool)
  onward existing = elim existing [
    | map.Some other ↦
        elim (rust.same_session other (rust_session session)) [
          | true ↦ record { result = Ok false; reflector = rust_reflector r }
          | false ↦ record { result = Err ReflectorSessionConflict; reflector = rust_reflector r }
        ]
    | map.None ↦
        elim (leb r.config.max_sessions (length (rust_reflector r).sessions)) [
          | true ↦ record { result = Err ReflectorSessionCapacityExceeded; reflector = rust_reflector r }
          | false ↦ record { result = Ok true; reflector = rust.with_sessions ((rust_reflector r).sessions ++ rust_session session ∷ []) (rust_reflector r) }
        ]
  ]

  abbrev asked : Option ReflectorSession → Outcome Bool
  asked existing = elim existing [
    | Some other ↦ first_cause ((not (same_session other session) ⇒ reflector_session_conflict) ∷ []) (gives false)
    | None ↦ first_cause ((eqb r.used r.config.max_sessions ⇒ reflector_session_capacity_exceeded) ∷ []) (gives true)
  ]

  looked : (existing : Option ReflectorSession) → Comes (onward (rust_removed existing)) (asked existing)
  looked (Some other) = rw (same_session_lem other session, onward) (known_session (same_session other session))
  looked None = rw (full, onward) (new_session (eqb r.used r.config.max_sessions) refl)

  judged : (existing : Option ReflectorSession) → rust.find session.local_teid (rust_reflector r).sessions ≡ rust_removed existing
      → Comes (rust.register_session (rust_reflector r) (rust_session session)) (session_outcome r.used r.config.max_sessions existing session)
  unfolding rust.register_session rust.validate_session session_outcome invalid_session first_cause
  judged existing e = rw e (by (eqb session.local_teid 0 || (eqb session.peer_teid 0 || eqb session.peer_addr.port 0)))
    where
      by : (t : Bool)
          → Comes (rust.attempted (◌>>◌ (return_if t InvalidReflectorSession) (Ok (tt {0}))) (rust_reflector r) (λ u. onward (rust_removed existing)))
          (first_cause ((t ⇒ invalid_reflector_session) ∷ []) (asked existing))
      by true = (refl, refl, s)
      by false = looked existing

  abbrev existing : Option ReflectorSession
  existing = find session.local_teid (used_rows (table_in r))

  pub registered_in : Comes (rust.register_session (rust_reflector r) (rust_session session)) (register_session (table_in r) session).outcome
  unfolding register_session register_outcome
  registered_in =
      let o = session_outcome r.used r.config.max_sessions existing session in
      subst (Comes (rust.register_session (rust_reflector r) (rust_session session))) (passes o (is_sound (length r.sessions) r.used r.config.max_sessions s))
      (judged existing (find_same session.local_teid (used_rows (table_in r))))

pub register_sound : (r : Reflector) → Fits r.config.max_sessions → (session : ReflectorSession) → NoneAdded (register_session (table_in r) session).outcome → SoundIn r
unfolding register_session register_outcome
register_sound r fits session added = sound_table (length r.sessions) r.used r.config.max_sessions _ fits.0 fits.1 (added 31 (inr (inr (inr (inr refl)))))

pub registered : RegisterSession
unfolding register_session
registered r made session added = let c = registered_in r session (register_sound r (made_fits r made) session added) in
    (told_as (λ x. x) (rust.register_session (rust_reflector r) (rust_session session)).result c.0, c.1)
