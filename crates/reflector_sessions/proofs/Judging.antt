-- 30 and 31 by their tests, and what a table that is not refused is like.
use Prim.Native.Nat.{ℕ, ◌<◌, ◌≤◌}
use native.Mathlib.Omega.{arith}
use mathlib.Core.Path.{◌≡◌, refl, sym, subst, ◌∙◌}
use mathlib.Core.Logic.{◌⊎◌, inl, inr}
use mathlib.Core.Bool.{Bool, true, false, ◌||◌}
use lib.Dec.{eqb, ltb}
use borrow.Author.Tests.{eq-eqb, ne_eqb, lt-ltb, le-ltb, ltb-true, ltb-false}
use Rattle.error.specs.Number.{invalid_reflector_capacity, malformed_reflector_table}
use Rattle.error.specs.Outcome.{refused, gives}
use Rattle.error.proofs.Causes.{Refuses, Passes, here, later, none, past, refuses, passes, refused_gives}
use Rattle.error.proofs.Tests.{or_left, or_right, or_none}
use Rattle.reflector_sessions.specs.Judge.{table_causes, table_outcome}
use Rattle.reflector_sessions.specs.Table.{searched_count}

-- 30 and 31 pass
pub record Sound (length used maximum : ℕ) : Type 0 where
  pub above : 0 < maximum
  pub most : maximum ≤ 4096
  pub enough : used ≤ maximum
  pub room : maximum ≤ length

module _ (length used maximum : ℕ) where
  -- which row it is
  pub is_30 : (maximum ≡ 0) ⊎ (4096 < maximum) → Refuses (table_causes length used maximum) invalid_reflector_capacity
  unfolding table_causes
  is_30 (inl e) = here (or_left (eqb maximum 0) (ltb 4096 maximum) (eq-eqb maximum 0 e))
  is_30 (inr l) = here (or_right (eqb maximum 0) (ltb 4096 maximum) (lt-ltb 4096 maximum l))

  first_passes : 0 < maximum → maximum ≤ 4096 → eqb maximum 0 || ltb 4096 maximum ≡ false
  first_passes above most = or_none (eqb maximum 0) (ltb 4096 maximum) (ne_eqb maximum 0 (λ e. omega arith)) (le-ltb 4096 maximum most)

  pub is_31 : 0 < maximum → maximum ≤ 4096 → (maximum < used) ⊎ (length < maximum) → Refuses (table_causes length used maximum) malformed_reflector_table
  unfolding table_causes
  is_31 above most (inl l) = later (first_passes above most) (here (or_left (ltb maximum used) (ltb length maximum) (lt-ltb maximum used l)))
  is_31 above most (inr l) = later (first_passes above most) (here (or_right (ltb maximum used) (ltb length maximum) (lt-ltb length maximum l)))

  pub is_sound : Sound length used maximum → Passes (table_causes length used maximum)
  unfolding table_causes
  is_sound s =
      past (first_passes s.above s.most)
      (past (or_none (ltb maximum used) (ltb length maximum) (le-ltb maximum used s.enough) (le-ltb length maximum s.room)) none)

  -- what is answered
  pub capacity_refused : (maximum ≡ 0) ⊎ (4096 < maximum) → refused invalid_reflector_capacity ≡ table_outcome length used maximum
  unfolding table_outcome
  capacity_refused h = refuses (gives used) (is_30 h)

  pub table_sound : Sound length used maximum → gives used ≡ table_outcome length used maximum
  unfolding table_outcome
  table_sound s = passes (gives used) (is_sound s)

  -- a table is refused, by one of the two, or sound
  pub data Judged : Type 0 where
    unsound : (n : ℕ) → Refuses (table_causes length used maximum) n → Judged
    sound : Sound length used maximum → Judged

  pub judge : Judged
  judge = below (ltb 0 maximum) refl
    where
      rooms : (t : Bool) → ltb length maximum ≡ t → 0 < maximum → maximum ≤ 4096 → used ≤ maximum → Judged
      rooms true e above most enough = unsound malformed_reflector_table (is_31 above most (inr (ltb-true length maximum e)))
      rooms false e above most enough = sound (record { above = above; most = most; enough = enough; room = ltb-false length maximum e })

      useds : (t : Bool) → ltb maximum used ≡ t → 0 < maximum → maximum ≤ 4096 → Judged
      useds true e above most = unsound malformed_reflector_table (is_31 above most (inl (ltb-true maximum used e)))
      useds false e above most = rooms (ltb length maximum) refl above most (ltb-false maximum used e)

      above : (t : Bool) → ltb 4096 maximum ≡ t → 0 < maximum → Judged
      above true e l = unsound invalid_reflector_capacity (is_30 (inr (ltb-true 4096 maximum e)))
      above false e l = useds (ltb maximum used) refl l (ltb-false 4096 maximum e)

      below : (t : Bool) → ltb 0 maximum ≡ t → Judged
      below true e = above (ltb 4096 maximum) refl (ltb-true 0 maximum e)
      below false e = unsound invalid_reflector_capacity (is_30 (inl (let l = ltb-false 0 maximum e in omega arith)))

  -- what the code knows of a judged table
  pub judged_refused : {n : ℕ} → refused n ≡ table_outcome length used maximum → Refuses (table_causes length used maximum) n
  unfolding table_outcome
  judged_refused {n} e = go judge
    where
      go : Judged → Refuses (table_causes length used maximum) n
      go (unsound m r) =
          let h : refused n ≡ refused m = e ∙ sym (refuses (gives used) r) in
          let i : m ≡ n = cc in
          subst (Refuses (table_causes length used maximum)) i r
      go (sound s) = absurd (refused_gives (e ∙ sym (table_sound s)))

  pub judged_sound : {rows : ℕ} → gives rows ≡ table_outcome length used maximum → Sound length used maximum × (rows ≡ used)
  unfolding table_outcome
  judged_sound {rows} e = go judge
    where
      go : Judged → Sound length used maximum × (rows ≡ used)
      go (unsound m r) = absurd (refused_gives (refuses (gives used) r ∙ sym e))
      go (sound s) = (s, (let h : gives rows ≡ gives used = e ∙ sym (table_sound s) in cc))

  -- what a search goes through
  pub searched_none : {n : ℕ} → refused n ≡ table_outcome length used maximum → 0 ≡ searched_count length used maximum
  unfolding searched_count
  searched_none e = rw (sym e, searched_count)

  pub searched_all : {rows : ℕ} → gives rows ≡ table_outcome length used maximum → rows ≡ searched_count length used maximum
  unfolding searched_count
  searched_all e = rw (sym e, searched_count)
