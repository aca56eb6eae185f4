-- What a search finds, by the place that the code looks for.
use Rattle.std.proofs.Common.{ℕ, suc, ◌≡◌, ◌+◌, ◌<◌, ◌≤◌, ◌==◌, List, [], ◌∷◌, Bool, true, false, not, Option, Some, None, cond, refl, sym, ap, ap₂, subst, ◌∙◌, arith, length, take, get_or, position, eqb, nat_lt}
use Rattle.std.specs.List.{position_or_len}
use lib.Dec.{leb-suc-suc}
use borrow.Author.Tests.{lt-ltb, ltb-true}
use lib.Seq.{length-take-le, get_or-take}
use Rattle.error.specs.Outcome.{refused, gives}
use Rattle.error.proofs.Causes.{refuses}
use Rattle.reflector_sessions.specs.Judge.{table_outcome}
use Rattle.reflector_sessions.specs.Session.{no_session}
use Rattle.reflector_sessions.specs.Table.{Table, used_rows, find, place_of, at_place, found_in, searched_count, searched_rows, judged_table}
use Rattle.reflector_sessions.specs.declared.ReflectorSession.{ReflectorSession}
use Rattle.reflector_sessions.proofs.Judging.{Sound, Judged, unsound, sound, judge, table_sound, judged_sound, searched_none, searched_all}

abbrev pub of_teid : ℕ → ReflectorSession → Bool
of_teid teid s = s.local_teid == teid

place_is : (teid : ℕ) (rows : List ReflectorSession) → position_or_len (of_teid teid) rows ≡ place_of teid rows
place_is teid [] = refl
place_is teid (s ∷ rows) = by (eqb s.local_teid teid) (place_is teid rows)
  where
    by : (b : Bool) → position_or_len (of_teid teid) rows ≡ place_of teid rows
        → cond (not b) (1 + position_or_len (of_teid teid) rows) 0 ≡ elim b [ true ↦ 0 | false ↦ suc (place_of teid rows) ]
    by true e = refl
    by false e = omega (arith, e)

-- What the first place of a TEID says, as the code finds it: past the rows reads any `d`.
module _ (teid : ℕ) (d : ReflectorSession) where
  found_at : (rows : List ReflectorSession) → find teid rows ≡ cond (nat_lt (place_of teid rows) (length rows)) (Some (get_or rows (place_of teid rows) d)) None
  found_at [] = refl
  found_at (s ∷ rows) = by (eqb s.local_teid teid) (found_at rows)
    where
      by : (b : Bool) → find teid rows ≡ cond (nat_lt (place_of teid rows) (length rows)) (Some (get_or rows (place_of teid rows) d)) None
          → elim b [ true ↦ Some s | false ↦ find teid rows ] ≡ cond (nat_lt (elim b [ true ↦ 0 | false ↦ suc (place_of teid rows) ]) (suc (length rows))) (Some (get_or (s ∷ rows) (elim b [ true ↦ 0 | false ↦ suc (place_of teid rows) ]) d)) None
      by true e = rw (lt-ltb 0 (suc (length rows)) (omega arith))
      by false e = rw (leb-suc-suc (suc (place_of teid rows)) (length rows)) e

-- no row has it, or this is the first
data Found (teid : ℕ) (d : ReflectorSession) (rows : List ReflectorSession) : Option ℕ → Type 0 where
  missing : find teid rows ≡ None → Found teid d rows None
  here : (place : ℕ) → place ≡ place_of teid rows → place < length rows → find teid rows ≡ Some (get_or rows place d) → Found teid d rows (Some place)

found : (teid : ℕ) (rows : List ReflectorSession) (d : ReflectorSession) {o : Option ℕ} → o ≡ position (of_teid teid) rows → Found teid d rows o
found teid rows d e = subst (Found teid d rows) (sym e) (rw (place_is teid rows) (by (nat_lt (place_of teid rows) (length rows)) refl (found_at teid d rows)))
  where
    by : (b : Bool) → nat_lt (place_of teid rows) (length rows) ≡ b → find teid rows ≡ cond b (Some (get_or rows (place_of teid rows) d)) None → Found teid d rows (cond b (Some (place_of teid rows)) None)
    by true t q = here (place_of teid rows) refl (ltb-true _ _ t) q
    by false t q = missing q

-- the first row of a TEID, of the first n rows
pub record Row (teid n : ℕ) (d : ReflectorSession) (rows : List ReflectorSession) (place : ℕ) : Type 0 where
  pub is : place ≡ place_of teid (take n rows)
  pub within : place < n
  pub found : find teid (take n rows) ≡ Some (get_or rows place d)

pub row : (teid n : ℕ) (d : ReflectorSession) (rows : List ReflectorSession) (place : ℕ) → n ≤ length rows
    → Some place ≡ position (of_teid teid) (take n rows) → Row teid n d rows place
row teid n d rows place l e = by (found teid (take n rows) d e)
  where
    by : Found teid d (take n rows) (Some place) → Row teid n d rows place
    by (here p i w f) =
        let h : place < n = let c = length-take-le n rows l in omega arith in
        record { is = i; within = h; found = f ∙ ap Some (get_or-take n rows place d h) }

pub no_row : (teid : ℕ) (rows : List ReflectorSession) → None ≡ position (of_teid teid) rows → find teid rows ≡ None
no_row teid rows e = by (found teid rows no_session e)
  where
    by : Found teid no_session rows None → find teid rows ≡ None
    by (missing f) = f

-- what a search tells, by what it found
module _ (teid : ℕ) (rows : List ReflectorSession) where
  pub told : {place : ℕ} {session : ReflectorSession} → place ≡ place_of teid rows → find teid rows ≡ Some session → found_in rows teid ≡ Some (record { place = place; session = session })
  told e f = ap₂ at_place (sym e) f

  pub nothing_told : find teid rows ≡ None → found_in rows teid ≡ None
  nothing_told f = ap (at_place (place_of teid rows)) f

abbrev pub SoundTable : Table → Type 0
SoundTable t = Sound (length t.sessions) t.used t.maximum

-- the used rows of a table that is not refused are rows of it
pub used_within : (rows used maximum : ℕ) → Sound rows used maximum → used ≤ rows
used_within rows used maximum s = omega (arith, s.enough, s.room)

-- a search goes through the used rows, if the table is not refused, and else through none
module _ (t : Table) where
  abbrev count : ℕ
  count = length t.sessions

  pub searched_within : searched_count count t.used t.maximum ≤ count
  unfolding table_outcome
  searched_within = go (judge count t.used t.maximum)
    where
      go : Judged count t.used t.maximum → searched_count count t.used t.maximum ≤ count
      go (unsound n h) = omega (arith, searched_none count t.used t.maximum (refuses (gives t.used) h))
      go (sound s) = omega (arith, searched_all count t.used t.maximum (table_sound count t.used t.maximum s), s.enough, s.room)

  pub searched_used : SoundTable t → searched_rows t ≡ used_rows t
  searched_used s = ap (λ n. take n t.sessions) (sym (searched_all count t.used t.maximum (table_sound count t.used t.maximum s)))

  pub searched_as : {used : ℕ} → gives used ≡ judged_table t → searched_rows t ≡ take used t.sessions
  searched_as e = ap (λ n. take n t.sessions) (sym (searched_all count t.used t.maximum e))

  pub searched_unsound : {n : ℕ} → refused n ≡ judged_table t → searched_rows t ≡ []
  searched_unsound e = ap (λ n. take n t.sessions) (sym (searched_none count t.used t.maximum e))

-- What the two calls know: `u` is the table as they read it.
module _ (t u : Table) (same : u ≡ t) where
  pub read_refused : {n : ℕ} → refused n ≡ judged_table u → refused n ≡ judged_table t
  read_refused {n} e = subst (λ x. refused n ≡ judged_table x) same e

  pub read_sound : {used : ℕ} → gives used ≡ judged_table u → SoundTable t × (used ≡ t.used)
  read_sound {used} e = judged_sound (length t.sessions) t.used t.maximum (subst (λ x. gives used ≡ judged_table x) same e)

  module _ (sound : SoundTable t) (teid : ℕ) where
    positions : {o : Option ℕ} → o ≡ position (of_teid teid) (searched_rows u) → o ≡ position (of_teid teid) (used_rows t)
    positions {o} e = subst (λ x. o ≡ position (of_teid teid) (searched_rows x)) same e ∙ ap (position (of_teid teid)) (searched_used t sound)

    pub used_row : (place : ℕ) (d : ReflectorSession) → Some place ≡ position (of_teid teid) (searched_rows u) → Row teid t.used d t.sessions place
    used_row place d e = row teid t.used d t.sessions place (used_within (length t.sessions) t.used t.maximum sound) (positions e)

    pub no_used_row : None ≡ position (of_teid teid) (searched_rows u) → find teid (used_rows t) ≡ None
    no_used_row e = no_row teid (used_rows t) (positions e)
