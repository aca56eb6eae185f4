-- The claims of specs/Claims.antt, by the places of the used rows.
use Prim.Native.Nat.{ℕ, zero, suc, ◌+◌, ◌-◌, ◌<◌, ◌≤◌}
use native.Mathlib.Omega.{arith}
use mathlib.Core.Path.{◌≡◌, refl, sym, ap, subst, ◌∙◌}
use mathlib.Core.Logic.{◌⊎◌, inl, inr}
use mathlib.Core.Bool.{Bool, true, false, not}
use mathlib.Core.List.{List, [], ◌∷◌}
use Rattle.std.specs.Prelude.{Option, Some, None}
use lib.Dec.{eqb, ltb}
use lib.ListN.{length, take, set, get_or, length-set}
use lib.Seq.{length-take-le, get_or-take, get_or-set_same, get_or-set_other}
use borrow.Author.Tests.{eqb-true, eqb-false, eq-eqb, ne_eqb, ltb-true, ltb-false, not-false}
use Rattle.error.specs.Number.{reflector_session_conflict, reflector_session_capacity_exceeded}
use Rattle.error.specs.Outcome.{Outcome, refused, gives, ◌⇒◌, first_cause}
use Rattle.error.proofs.Causes.{Passes, past, refuses, refused_gives, passed}
use Rattle.reflector_sessions.specs.Session.{no_session, same_session}
use Rattle.reflector_sessions.specs.Judge.{table_causes}
use Rattle.reflector_sessions.specs.Table.{Table, used_rows, find, place_of, appended, swap_removed}
use Rattle.reflector_sessions.specs.Register.{session_outcome, register_outcome, registered_table, register_session}
use Rattle.reflector_sessions.specs.Remove.{remove_outcome, removed_table, remove_session}
use Rattle.reflector_sessions.specs.Claims.{teid_at, Unique, AddedIsFound, UnchangedIsFound, RemovedIsNotFound, StaysUnique, OtherRowsKept}
use Rattle.reflector_sessions.specs.declared.ReflectorSession.{ReflectorSession}
use Rattle.reflector_sessions.proofs.Judging.{Sound, Judged, unsound, sound, judge}

abbrev Rows : Type 0
Rows = List ReflectorSession

-- ---- what a TEID means, by places

pub not_there : (teid : ℕ) (rows : Rows) → ((i : ℕ) → i < length rows → teid_at i rows ≡ teid → ⊥) → find teid rows ≡ None
not_there teid [] h = refl
not_there teid (s ∷ rows) h =
    rw (ne_eqb s.local_teid teid (h 0 (omega arith)), find) (not_there teid rows (λ i l e. h (suc i) (omega arith) e))

pub nowhere : (teid : ℕ) (rows : Rows) → find teid rows ≡ None → (i : ℕ) → i < length rows → teid_at i rows ≡ teid → ⊥
nowhere teid [] e i l = absurd (omega arith)
nowhere teid (s ∷ rows) e i l = go (eqb s.local_teid teid) refl (nowhere teid rows) i l
  where
    go : (b : Bool) → eqb s.local_teid teid ≡ b → (find teid rows ≡ None → (i : ℕ) → i < length rows → teid_at i rows ≡ teid → ⊥)
        → (i : ℕ) → i < length (s ∷ rows) → teid_at i (s ∷ rows) ≡ teid → ⊥
    go true q rest i l h =
        let x : find teid (s ∷ rows) ≡ Some s = rw (q, find) in
        let y : None ≡ Some s = sym e ∙ x in
        absurd (let z : ◌≡◌ {A = ℕ} 0 1 = cc in omega arith)
    go false q rest zero l h = eqb-false s.local_teid teid q h
    go false q rest (suc i) l h = rest (let x : find teid (s ∷ rows) ≡ find teid rows = rw (q, find) in sym x ∙ e) i (omega arith) h

-- the first row with the TEID
pub first_at : (teid p : ℕ) (rows : Rows) → p < length rows → teid_at p rows ≡ teid → ((i : ℕ) → i < p → teid_at i rows ≡ teid → ⊥)
    → find teid rows ≡ Some (get_or rows p no_session)
first_at teid p [] l e h = absurd (omega arith)
first_at teid zero (s ∷ rows) l e h = rw (eq-eqb s.local_teid teid e, find)
first_at teid (suc p) (s ∷ rows) l e h =
    rw (ne_eqb s.local_teid teid (h 0 (omega arith)), find) (first_at teid p rows (omega arith) e (λ i k q. h (suc i) (omega arith) q))

-- the place of a TEID that is found
abbrev There : ℕ → Rows → Type 0
There teid rows = (place_of teid rows < length rows) × (teid_at (place_of teid rows) rows ≡ teid)

pub place_there : (teid : ℕ) (rows : Rows) (s : ReflectorSession) → find teid rows ≡ Some s → There teid rows
place_there teid [] s e = absurd (let z : ◌≡◌ {A = ℕ} 0 1 = cc in omega arith)
place_there teid (r ∷ rows) s e = go (eqb r.local_teid teid) refl (place_there teid rows s)
  where
    go : (b : Bool) → eqb r.local_teid teid ≡ b → (find teid rows ≡ Some s → There teid rows) → There teid (r ∷ rows)
    go true q rest = rw (q, place_of) (omega arith, eqb-true r.local_teid teid q)
    go false q rest =
        let x : find teid (r ∷ rows) ≡ find teid rows = rw (q, find) in
        let h = rest (sym x ∙ e) in
        rw (q, place_of) (let l = h.0 in omega arith, h.1)

-- ---- the used rows of a table that 30 and 31 pass

module _ (l : Rows) (n : ℕ) (fits : n ≤ length l) where
  pub count_is : length (take n l) ≡ n
  count_is = length-take-le n l fits

  pub row_is : (i : ℕ) → i < n → get_or (take n l) i no_session ≡ get_or l i no_session
  row_is i h = get_or-take n l i no_session h

  pub teid_is : (i : ℕ) → i < n → teid_at i (take n l) ≡ teid_at i l
  teid_is i h = ap (λ (r : ReflectorSession). r.local_teid) (row_is i h)

-- no two of the first n rows have one TEID
abbrev Apart : ℕ → Rows → Type 0
Apart n l = (i j : ℕ) → i < j → j < n → teid_at i l ≡ teid_at j l → ⊥

apart_of : (l : Rows) (n : ℕ) → n ≤ length l → Unique (take n l) → Apart n l
apart_of l n fits u i j h k e =
    u i j h (let c = count_is l n fits in omega arith) (teid_is l n fits i (omega arith) ∙ e ∙ sym (teid_is l n fits j k))

unique_of : (l : Rows) (n : ℕ) → n ≤ length l → Apart n l → Unique (take n l)
unique_of l n fits a i j h k e =
    let c = count_is l n fits in
    let below : j < n = omega arith in
    a i j h below (sym (teid_is l n fits i (omega arith)) ∙ e ∙ teid_is l n fits j below)

-- ---- a row written

teid_set_other : (l : Rows) (p i : ℕ) (s : ReflectorSession) → (i ≡ p → ⊥) → teid_at i (set l p s) ≡ teid_at i l
teid_set_other l p i s ne = ap (λ (r : ReflectorSession). r.local_teid) (get_or-set_other l p i s no_session ne)

teid_set_same : (l : Rows) (p : ℕ) (s : ReflectorSession) → p < length l → teid_at p (set l p s) ≡ s.local_teid
teid_set_same l p s h = ap (λ (r : ReflectorSession). r.local_teid) (get_or-set_same l p s no_session h)

-- ---- appended

module _ (l : Rows) (n : ℕ) (s : ReflectorSession) (fits : n < length l) (absent : find s.local_teid (take n l) ≡ None) where
  abbrev l' : Rows
  l' = set l n s

  fits' : n + 1 ≤ length l'
  fits' = let e = length-set l n s in omega arith

  not_before : (i : ℕ) → i < n → teid_at i l' ≡ s.local_teid → ⊥
  not_before i h e =
      nowhere s.local_teid (take n l) absent i (let c = count_is l n (omega arith) in omega arith)
      (teid_is l n (omega arith) i h ∙ sym (teid_set_other l n i s (λ q. omega arith)) ∙ e)

  pub appended_found : find s.local_teid (take (n + 1) l') ≡ Some s
  appended_found =
      first_at s.local_teid n (take (n + 1) l') (let c = count_is l' (n + 1) fits' in omega arith)
      (teid_is l' (n + 1) fits' n (omega arith) ∙ teid_set_same l n s fits)
      (λ i h e. not_before i h (sym (teid_is l' (n + 1) fits' i (omega arith)) ∙ e))
      ∙ ap Some (row_is l' (n + 1) fits' n (omega arith) ∙ get_or-set_same l n s no_session fits)

  pub appended_apart : Apart n l → Apart (n + 1) l'
  appended_apart a i j h k e = go (ltb j n) refl
    where
      go : (b : Bool) → ltb j n ≡ b → ⊥
      go true q =
          let below = ltb-true j n q in
          a i j h below (sym (teid_set_other l n i s (λ x. omega arith)) ∙ e ∙ teid_set_other l n j s (λ x. omega arith))
      go false q =
          let above = ltb-false j n q in
          let last : j ≡ n = omega arith in
          not_before i (omega arith) (e ∙ ap (λ (x : ℕ). teid_at x l') last ∙ teid_set_same l n s fits)

-- ---- the last of n + 1 rows moved into the hole

module _ (l : Rows) (n p : ℕ) (fits : n + 1 ≤ length l) (a : Apart (n + 1) l) (hole : p < n + 1) where
  abbrev moved : Rows
  moved = set l p (get_or l n no_session)

  fits_moved : n ≤ length moved
  fits_moved = let e = length-set l p (get_or l n no_session) in omega arith

  -- each row that is left was another one, and none of them the hole
  from : (i : ℕ) → i < n → (k : ℕ) × (k < n + 1) × (k ≡ p → ⊥) × (teid_at i moved ≡ teid_at k l) × (((i ≡ p) × (k ≡ n)) ⊎ (k ≡ i))
  from i h = go (eqb i p) refl
    where
      go : (b : Bool) → eqb i p ≡ b → (k : ℕ) × (k < n + 1) × (k ≡ p → ⊥) × (teid_at i moved ≡ teid_at k l) × (((i ≡ p) × (k ≡ n)) ⊎ (k ≡ i))
      go true q =
          let e = eqb-true i p q in
          (n, omega arith, (λ x. omega arith), ap (λ (x : ℕ). teid_at x moved) e ∙ teid_set_same l p (get_or l n no_session) (omega arith), inl (e, refl))
      go false q = (i, omega arith, eqb-false i p q, teid_set_other l p i (get_or l n no_session) (eqb-false i p q), inr refl)

  distinct : (i j : ℕ) → i < n + 1 → j < n + 1 → (i ≡ j → ⊥) → teid_at i l ≡ teid_at j l → ⊥
  distinct i j hi hj ne e = go (ltb i j) refl
    where
      go : (b : Bool) → ltb i j ≡ b → ⊥
      go true q = a i j (ltb-true i j q) hj e
      go false q = a j i (let x = ltb-false i j q in omega (arith, ne)) hi (sym e)

  pub moved_apart : Apart n moved
  moved_apart i j h k e =
      let x = from i (omega arith) in
      let y = from j k in
      distinct x.0 y.0 x.1 y.1 (differs x.4 y.4) (sym x.3 ∙ e ∙ y.3)
    where
      differs : {u v : ℕ} → ((i ≡ p) × (u ≡ n)) ⊎ (u ≡ i) → ((j ≡ p) × (v ≡ n)) ⊎ (v ≡ j) → u ≡ v → ⊥
      differs (inl (a₁, b₁)) (inl (a₂, b₂)) w = omega arith
      differs (inl (a₁, b₁)) (inr b₂) w = omega arith
      differs (inr b₁) (inl (a₂, b₂)) w = omega arith
      differs (inr b₁) (inr b₂) w = omega arith

  pub moved_absent : (teid : ℕ) → teid_at p l ≡ teid → find teid (take n moved) ≡ None
  moved_absent teid e =
      not_there teid (take n moved) (λ i h q.
      let c = count_is moved n fits_moved in
      let x = from i (omega arith) in
      distinct x.0 p x.1 hole x.2 (sym x.3 ∙ sym (teid_is moved n fits_moved i (omega arith)) ∙ q ∙ sym e))

-- ---- the calls

false_not_true : gives false ≡ gives true → ⊥
false_not_true q = let z : ◌≡◌ {A = ℕ} 0 1 = cc in omega arith

module _ (t : Table) where
  abbrev count : ℕ
  count = length t.sessions

  module _ (session : ReflectorSession) where
    abbrev existing : Option ReflectorSession
    existing = find session.local_teid (used_rows t)

    -- "then same record (nothing changes) or 33, then 34, then appended"
    abbrev behind : Option ReflectorSession → Outcome Bool
    behind o =
        elim o [
          | Some other ↦ first_cause ((not (same_session other session) ⇒ reflector_session_conflict) ∷ []) (gives false)
          | None ↦ first_cause ((eqb t.used t.maximum ⇒ reflector_session_capacity_exceeded) ∷ []) (gives true)
        ]

    room : Passes ((eqb t.used t.maximum ⇒ reflector_session_capacity_exceeded) ∷ []) → t.used ≡ t.maximum → ⊥
    room (past q p) = eqb-false t.used t.maximum q

    same : (other : ReflectorSession) → Passes ((not (same_session other session) ⇒ reflector_session_conflict) ∷ []) → same_session other session ≡ true
    same other (past q p) = not-false (same_session other session) q

    behind_true : (o : Option ReflectorSession) → behind o ≡ gives true → (o ≡ None) × (t.used ≡ t.maximum → ⊥)
    behind_true (Some other) h = absurd (false_not_true (passed ((not (same_session other session) ⇒ reflector_session_conflict) ∷ []) (gives false) true h).1)
    behind_true None h = (refl, room (passed ((eqb t.used t.maximum ⇒ reflector_session_capacity_exceeded) ∷ []) (gives true) true h).0)

    behind_false : (o : Option ReflectorSession) → behind o ≡ gives false → (other : ReflectorSession) × (o ≡ Some other) × (same_session other session ≡ true)
    behind_false (Some other) h = (other, refl, same other (passed ((not (same_session other session) ⇒ reflector_session_conflict) ∷ []) (gives false) false h).0)
    behind_false None h = absurd (false_not_true (sym (passed ((eqb t.used t.maximum ⇒ reflector_session_capacity_exceeded) ∷ []) (gives true) false h).1))

    -- a call that is not refused passed 30 to 32
    register_passed : {b : Bool} → (register_session t session).outcome ≡ gives b → Sound count t.used t.maximum × (behind existing ≡ gives b)
    unfolding register_session register_outcome session_outcome
    register_passed {b} e = go (judge count t.used t.maximum)
      where
        go : Judged count t.used t.maximum → Sound count t.used t.maximum × (behind existing ≡ gives b)
        go (unsound n r) = absurd (refused_gives (refuses _ r ∙ e))
        go (sound s) = (s, (passed _ _ b (passed (table_causes count t.used t.maximum) _ b e).1).1)

    -- the table afterwards
    table_added : (register_session t session).outcome ≡ gives true → (register_session t session).table ≡ appended session t
    unfolding register_session
    table_added e = ap (λ (o : Outcome Bool). registered_table o session t) e

    table_kept : {o : Outcome Bool} → (register_session t session).outcome ≡ o → registered_table o session t ≡ t → (register_session t session).table ≡ t
    unfolding register_session
    table_kept e k = ap (λ (o : Outcome Bool). registered_table o session t) e ∙ k

    -- what an appended session found: room, and no row of its TEID
    abbrev Fresh : Type 0
    Fresh = (t.used < count) × (existing ≡ None)

    fresh : (register_session t session).outcome ≡ gives true → Fresh
    fresh e =
        let h = register_passed e in
        let k = behind_true existing h.1 in
        (let enough = h.0.enough in let room = h.0.room in omega (arith, k.1), k.0)

pub added_is_found : AddedIsFound
added_is_found t session e =
    let h = fresh t session e in
    ap (λ (x : Table). find session.local_teid (used_rows x)) (table_added t session e) ∙ appended_found t.sessions t.used session h.0 h.1

pub unchanged_is_found : UnchangedIsFound
unchanged_is_found t session e =
    let h = behind_false t session (existing t session) (register_passed t session e).1 in
    (h.0, ap (λ (x : Table). find session.local_teid (used_rows x)) (table_kept t session e refl) ∙ h.1, h.2)

register_unique : (t : Table) → Unique (used_rows t) → (session : ReflectorSession) → Unique (used_rows (register_session t session).table)
register_unique t u session = go (register_session t session).outcome refl
  where
    kept : (register_session t session).table ≡ t → Unique (used_rows (register_session t session).table)
    kept e = subst (λ (x : Table). Unique (used_rows x)) (sym e) u

    go : (o : Outcome Bool) → (register_session t session).outcome ≡ o → Unique (used_rows (register_session t session).table)
    go (refused n) e = kept (table_kept t session e refl)
    go (gives false) e = kept (table_kept t session e refl)
    go (gives true) e =
        let h = fresh t session e in
        let a = apart_of t.sessions t.used (omega (arith, h.0)) u in
        let grown = appended_apart t.sessions t.used session h.0 h.1 a in
        subst (λ (x : Table). Unique (used_rows x)) (sym (table_added t session e))
        (unique_of (set t.sessions t.used session) (t.used + 1) (let l = length-set t.sessions t.used session in omega (arith, h.0)) grown)

-- a removal that gave a record: the used rows, one more than are left, and the hole among them
pub record Taken (t : Table) (teid : ℕ) : Type 0 where
  pub left : ℕ
  pub one_more : t.used ≡ left + 1
  pub within : left + 1 ≤ length t.sessions
  pub hole : place_of teid (used_rows t) < left + 1
  pub there : teid_at (place_of teid (used_rows t)) t.sessions ≡ teid
  pub table : (remove_session t teid).table ≡ swap_removed (place_of teid (used_rows t)) t

module _ (t : Table) (teid : ℕ) where
  remove_kept : {o : Outcome (Option ReflectorSession)} → (remove_session t teid).outcome ≡ o → removed_table o (place_of teid (used_rows t)) t ≡ t → (remove_session t teid).table ≡ t
  unfolding remove_session
  remove_kept e k = ap (λ (o : Outcome (Option ReflectorSession)). removed_table o (place_of teid (used_rows t)) t) e ∙ k

  taken : {s : ReflectorSession} → (remove_session t teid).outcome ≡ gives (Some s) → Taken t teid
  unfolding remove_session remove_outcome
  taken {s} e = go (judge (length t.sessions) t.used t.maximum)
    where
      go : Judged (length t.sessions) t.used t.maximum → Taken t teid
      go (unsound n r) = absurd (refused_gives (refuses (gives (find teid (used_rows t))) r ∙ e))
      go (sound x) =
          let q = (passed (table_causes (length t.sessions) t.used t.maximum) (gives (find teid (used_rows t))) (Some s) e).1 in
          let f : find teid (used_rows t) ≡ Some s = cc in
          let there = place_there teid (used_rows t) s f in
          let within : t.used ≤ length t.sessions = let enough = x.enough in let room = x.room in omega arith in
          let c = count_is t.sessions t.used within in
          let l = there.0 in
          record {
            left = t.used - 1;
            one_more = omega arith;
            within = omega arith;
            hole = omega arith;
            there = sym (teid_is t.sessions t.used within (place_of teid (used_rows t)) (omega arith)) ∙ there.1;
            table = ap (λ (o : Outcome (Option ReflectorSession)). removed_table o (place_of teid (used_rows t)) t) e;
          }

-- the rows that are left
module _ (t : Table) (teid : ℕ) (u : Unique (used_rows t)) (k : Taken t teid) where
  apart : Apart (k.left + 1) t.sessions
  apart = subst (λ (n : ℕ). Apart n t.sessions) k.one_more (apart_of t.sessions t.used (let e = k.one_more in let w = k.within in omega arith) u)

  abbrev place : ℕ
  place = place_of teid (used_rows t)

  left_is : used_rows (remove_session t teid).table ≡ take k.left (set t.sessions place (get_or t.sessions k.left no_session))
  left_is =
      let e : t.used - 1 ≡ k.left = let h = k.one_more in omega arith in
      ap used_rows k.table ∙ ap (λ (n : ℕ). take n (set t.sessions place (get_or t.sessions n no_session))) e

  pub taken_absent : find teid (used_rows (remove_session t teid).table) ≡ None
  taken_absent = ap (find teid) left_is ∙ moved_absent t.sessions k.left place k.within apart k.hole teid k.there

  pub taken_unique : Unique (used_rows (remove_session t teid).table)
  taken_unique =
      subst Unique (sym left_is)
      (unique_of (set t.sessions place (get_or t.sessions k.left no_session)) k.left (fits_moved t.sessions k.left place k.within apart k.hole)
      (moved_apart t.sessions k.left place k.within apart k.hole))

pub removed_is_not_found : RemovedIsNotFound
removed_is_not_found t teid session u e = taken_absent t teid u (taken t teid e)

remove_unique : (t : Table) → Unique (used_rows t) → (teid : ℕ) → Unique (used_rows (remove_session t teid).table)
remove_unique t u teid = go (remove_session t teid).outcome refl
  where
    kept : (remove_session t teid).table ≡ t → Unique (used_rows (remove_session t teid).table)
    kept e = subst (λ (x : Table). Unique (used_rows x)) (sym e) u

    go : (o : Outcome (Option ReflectorSession)) → (remove_session t teid).outcome ≡ o → Unique (used_rows (remove_session t teid).table)
    go (refused n) e = kept (remove_kept t teid e refl)
    go (gives None) e = kept (remove_kept t teid e refl)
    go (gives (Some s)) e = taken_unique t teid u (taken t teid e)

pub stays_unique : StaysUnique
stays_unique t u = (register_unique t u, remove_unique t u)

-- ---- the rows that a call does not write

abbrev Kept : ℕ → Table → Table → Type 0
Kept i before after = get_or after.sessions i no_session ≡ get_or before.sessions i no_session

register_keeps : (t : Table) (session : ReflectorSession) (i : ℕ) → (i ≡ t.used → ⊥) → Kept i t (register_session t session).table
unfolding register_session
register_keeps t session i ne = go (register_session t session).outcome
  where
    go : (o : Outcome Bool) → Kept i t (registered_table o session t)
    go (refused n) = refl
    go (gives false) = refl
    go (gives true) = get_or-set_other t.sessions t.used i session no_session ne

remove_keeps : (t : Table) (teid i : ℕ) → (i ≡ place_of teid (used_rows t) → ⊥) → Kept i t (remove_session t teid).table
unfolding remove_session
remove_keeps t teid i ne = go (remove_session t teid).outcome
  where
    go : (o : Outcome (Option ReflectorSession)) → Kept i t (removed_table o (place_of teid (used_rows t)) t)
    go (refused n) = refl
    go (gives None) = refl
    go (gives (Some s)) = get_or-set_other t.sessions (place_of teid (used_rows t)) i (get_or t.sessions (t.used - 1) no_session) no_session ne

pub other_rows_kept : OtherRowsKept
other_rows_kept t = (register_keeps t, remove_keeps t)
