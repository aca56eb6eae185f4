-- Removal: the place of a TEID is the same in the `Vec` and among the used rows, and `swap_remove` there leaves the used rows of the port.
use Rattle.std.proofs.Common.{◌≡◌, ℕ, zero, suc, ◌-◌, ◌<◌, Bool, true, false, eqb, List, [], ◌∷◌, map, length, get_or, take, set, sym, refl, ap, ◌∙◌, subst, inr, arith, length-set, length-take-le, get_or-take, take-take}
use Rattle.std.specs.Prelude.{Option, Some, None}
use lib.Seq.{take-set-lt}
use Rattle.error.specs.Outcome.{Outcome, gives}
use Rattle.error.proofs.Causes.{passes}
use Rattle.reflector_sessions.specs.Remove.{remove_outcome, remove_session, removed_table}
use Rattle.reflector_sessions.specs.Session.{no_session}
use Rattle.reflector_sessions.specs.Table.{find, place_of, used_rows}
use Rattle.reflector_sessions.specs.declared.ReflectorSession.{ReflectorSession}
use Rattle.reflector_sessions.proofs.Judging.{is_sound}
use Rattle.reflector_sessions.proofs.Search.{used_within}
use Rattle.rust_reference.specs.Claims.{NoneAdded, RemoveSession}
use Rattle.rust_reference.specs.Map as map
use Rattle.rust_reference.specs.Compared.{told}
use Rattle.rust_reference.specs.Reflector as rust
use Rattle.rust_reference.specs.Sessions.{Reflector, table_in, with_table, rust_session, rust_reflector, rust_removed, outcome_to}
use Rattle.rust_reference.proofs.Told.{told_to}
use Rattle.rust_reference.proofs.Capacity.{Fits, made_fits, sound_table}
use Rattle.rust_reference.proofs.Registering.{SoundIn, vec_length}

-- ---- lists

take_map : {A B : Type 0} (f : A → B) (n : ℕ) (l : List A) → take n (map f l) ≡ map f (take n l)
take_map f zero l = refl
take_map f (suc n) [] = refl
take_map {B = B} f (suc n) (x ∷ l) = ap (λ (r : List B). f x ∷ r) (take_map f n l)

set_map : {A B : Type 0} (f : A → B) (l : List A) (i : ℕ) (x : A) → set (map f l) i (f x) ≡ map f (set l i x)
set_map f [] i x = refl
set_map f (y ∷ l) zero x = refl
set_map {B = B} f (y ∷ l) (suc i) x = ap (λ (r : List B). f y ∷ r) (set_map f l i x)

get_d_map : {A B : Type 0} (f : A → B) (l : List A) (i : ℕ) (d : A) (e : B) → i < length l → get_or (map f l) i e ≡ f (get_or l i d)
get_d_map f [] i d e h = absurd (omega arith)
get_d_map f (x ∷ l) zero d e h = refl
get_d_map f (x ∷ l) (suc i) d e h = get_d_map f l i d e (omega arith)

-- ---- the place of a TEID

data Placed (teid : ℕ) (rows : List ReflectorSession) : Type 0 where
  placed : (session : ReflectorSession) → find teid rows ≡ Some session → rust.position teid (map rust_session rows) ≡ map.Some (place_of teid rows)
      → place_of teid rows < length rows → get_or rows (place_of teid rows) no_session ≡ session → Placed teid rows
  missing : find teid rows ≡ None → rust.position teid (map rust_session rows) ≡ map.None → Placed teid rows

place : (teid : ℕ) (rows : List ReflectorSession) → Placed teid rows
place teid [] = missing refl refl
place teid (row ∷ rows) = by (eqb row.local_teid teid) refl (place teid rows)
  where
    by : (t : Bool) → eqb row.local_teid teid ≡ t → Placed teid rows → Placed teid (row ∷ rows)
    by true e h = placed row (rw (e, find)) (rw (e, place_of, rust.position)) (rw (e, place_of) (omega arith)) (rw (e, place_of))
    by false e (placed session f p l g) = placed session (rw (e, find) f) (rw (e, place_of, rust.position, p)) (rw (e, place_of) (omega arith)) (rw (e, place_of) g)
    by false e (missing f p) = missing (rw (e, find) f) (rw (e, rust.position, p))

-- ---- removal

module _ (r : Reflector) (teid : ℕ) (s : SoundIn r) where
  abbrev used : List ReflectorSession
  used = used_rows (table_in r)

  abbrev hole : ℕ
  hole = place_of teid used

  abbrev pub Comes : rust.Called (map.Option rust.ReflectorSession) → Outcome (Option ReflectorSession) → Type 0
  Comes after o =
      (gives after.result ≡ outcome_to rust_removed o)
      × (after.reflector ≡ rust_reflector (with_table (removed_table o hole (table_in r)) r))
      × SoundIn (with_table (removed_table o hole (table_in r)) r)

  count : length used ≡ r.used
  count = length-take-le r.used r.sessions (used_within (length r.sessions) r.used r.config.max_sessions s)

  abbrev last : ReflectorSession
  last = get_or r.sessions (r.used - 1) no_session

  -- the `Vec`'s last element is the last used row
  last_is : hole < length used → rust.at (rust_reflector r).sessions (length (rust_reflector r).sessions - 1) ≡ rust_session last
  last_is h =
      ap (λ (n : ℕ). rust.at (rust_reflector r).sessions (n - 1)) (vec_length r s)
      ∙ get_d_map rust_session used (r.used - 1) no_session _ (omega (arith, count))
      ∙ ap rust_session (get_or-take r.used r.sessions (r.used - 1) no_session (omega (arith, count)))

  swapped : hole < length used → rust.swap_remove (rust_reflector r).sessions hole ≡ map rust_session (take (r.used - 1) (set r.sessions hole last))
  swapped h =
      ap (λ (x : rust.ReflectorSession). take (length (rust_reflector r).sessions - 1) (set (rust_reflector r).sessions hole x)) (last_is h)
      ∙ ap (λ (n : ℕ). take (n - 1) (set (rust_reflector r).sessions hole (rust_session last))) (vec_length r s)
      ∙ ap (take (r.used - 1)) (set_map rust_session used hole last)
      ∙ take_map rust_session (r.used - 1) (set used hole last)
      ∙ ap (λ (l : List ReflectorSession). map rust_session (take (r.used - 1) l)) (sym (take-set-lt r.used r.sessions hole last (omega (arith, count))))
      ∙ ap (map rust_session) (take-take (r.used - 1) r.used (set r.sessions hole last) (omega arith))

  taken : Placed teid used → Comes (rust.remove_session (rust_reflector r) teid) (gives (find teid used))
  unfolding rust.remove_session
  taken (placed session f p l g) =
      rw (p, f, rust.remove_session) (
        ap (λ (x : rust.ReflectorSession). gives (map.Some x)) (get_d_map rust_session used hole no_session _ l ∙ ap rust_session g),
        ap (λ (v : List rust.ReflectorSession). rust.with_sessions v (rust_reflector r)) (swapped l),
        record {
          above = s.above;
          most = s.most;
          enough = omega (arith, s.enough);
          room = omega (arith, s.room, length-set r.sessions hole last);
        },
      )
  taken (missing f p) = rw (p, f, rust.remove_session) (refl, refl, s)

  pub removed_in : Comes (rust.remove_session (rust_reflector r) teid) (remove_session (table_in r) teid).outcome
  unfolding remove_session remove_outcome
  removed_in =
      subst (Comes (rust.remove_session (rust_reflector r) teid)) (passes (gives (find teid used)) (is_sound (length r.sessions) r.used r.config.max_sessions s))
      (taken (place teid used))

pub remove_sound : (r : Reflector) → Fits r.config.max_sessions → (teid : ℕ) → NoneAdded (remove_session (table_in r) teid).outcome → SoundIn r
unfolding remove_session remove_outcome
remove_sound r fits teid added = sound_table (length r.sessions) r.used r.config.max_sessions _ fits.0 fits.1 (added 31 (inr (inr (inr (inr refl)))))

pub removed : RemoveSession
unfolding remove_session
removed r made teid added = let c = removed_in r teid (remove_sound r (made_fits r made) teid added) in
    (ap told c.0 ∙ sym (told_to rust_removed (remove_session (table_in r) teid).outcome), c.1)
