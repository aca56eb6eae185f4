-- One element's rows: for each way out of its judging, which row holds, or that none does.
use Prim.Native.Nat.{ℕ, ◌+◌, ◌<◌, ◌≤◌}
use native.Mathlib.Omega.{arith}
use mathlib.Core.Path.{◌≡◌, refl, sym, ap, ◌∙◌}
use mathlib.Core.List.{List, [], ◌∷◌}
use mathlib.Core.Bool.{Bool, true, false, not, ◌||◌, ◌&&◌}
use lib.Dec.{eqb, ltb}
use lib.ListN.{length}
use borrow.Author.Tests.{lt-ltb, le-ltb, ltb-false, eq-eqb, ne_eqb}
use Rattle.error.specs.Outcome.{Outcome, refused, gives, Cause, ◌⇒◌, first_cause}
use Rattle.error.proofs.Causes.{Passes, from, Left, stops, goes_on, all_passed, passes_from, first_false, refused_gives, passed}
use Rattle.error.proofs.Tests.{and_left, and_right, and_both, differs, equals}
use Rattle.gtpu.specs.Element.{element_type, is_teid_data_i, is_peer_address, value_length, element_size, unsupported_type, other_length, element_causes, element_of}

-- the size, by the type
pub size_16 : (l : List ℕ) → element_type l ≡ 16 → 5 ≡ element_size l
unfolding element_size
size_16 l e = rw (element_size, eq-eqb (element_type l) 16 e)

pub size_other : (l : List ℕ) → (element_type l ≡ 16 → ⊥) → 3 + value_length l ≡ element_size l
unfolding element_size
size_other l h = rw (element_size, ne_eqb (element_type l) 16 h)

-- every element has at least one byte
pub size_positive : (l : List ℕ) → 1 ≤ element_size l
unfolding element_size
size_positive l = by (is_teid_data_i (element_type l))
  where
    by : (t : Bool) → 1 ≤ elim t [ true ↦ 1 + 4 | false ↦ 1 + 2 + value_length l ]
    by true = omega arith
    by false = omega arith

module _ (l : List ℕ) where
  abbrev is16 : Bool
  is16 = is_teid_data_i (element_type l)

  abbrev cut : ℕ → Bool
  cut n = ltb (length l) n

  -- the rows that are left; 25 has two, and the one behind 26 is the last
  abbrev LeftOf : List Cause → Type 0
  LeftOf rows = Left rows (gives (element_size l)) (element_of l)

  abbrev LeftFrom : ℕ → Type 0
  LeftFrom n = LeftOf (from n (element_causes l))

  abbrev LeftLast : Type 0
  LeftLast = LeftOf (from 25 (from 26 (element_causes l)))

  rows : LeftFrom 27
  unfolding element_causes
  rows = record { is = refl }

  past_27 : LeftFrom 27 → unsupported_type (element_type l) ≡ false → LeftFrom 25
  unfolding element_causes
  past_27 left h = goes_on left h

  past_25 : LeftFrom 25 → not is16 && cut 3 ≡ false → LeftFrom 26
  unfolding element_causes
  past_25 left h = goes_on left h

  past_26 : LeftFrom 26 → other_length (element_type l) (value_length l) ≡ false → LeftLast
  unfolding element_causes
  past_26 left h = goes_on left h

  -- the last row, by the size
  module _ {n : ℕ} (en : n ≡ element_size l) where
    row_last : LeftLast → length l < n → refused 25 ≡ element_of l
    unfolding element_causes
    row_last left h = stops left (rw (← en) (lt-ltb (length l) n h))

    past_last : LeftLast → n ≤ length l → gives n ≡ element_of l
    unfolding element_causes
    past_last left h = ap gives en ∙ all_passed (goes_on left (rw (← en) (le-ltb (length l) n h)))

  pub refuses_27 : element_type l < 128 → (element_type l ≡ 16 → ⊥) → refused 27 ≡ element_of l
  unfolding element_causes
  refuses_27 h k = stops rows (and_both (ltb (element_type l) 128) (not is16) (lt-ltb (element_type l) 128 h) (differs (element_type l) 16 k))

  -- Type 16: 4 bytes
  module _ (e : element_type l ≡ 16) where
    teid_last : LeftLast
    teid_last =
        let not_27 = and_right (ltb (element_type l) 128) (not is16) (equals (element_type l) 16 e) in
        let no_length = and_left (not is16) (cut 3) (equals (element_type l) 16 e) in
        let not_26 = and_left (is_peer_address (element_type l)) (not (eqb (value_length l) 4 || eqb (value_length l) 16)) (ne_eqb (element_type l) 133 (λ f. omega arith)) in
        past_26 (past_25 (past_27 rows not_27) no_length) not_26

    pub teid_cut : length l < 5 → refused 25 ≡ element_of l
    teid_cut h = row_last (size_16 l e) teid_last h

    pub teid_sound : 5 ≤ length l → gives 5 ≡ element_of l
    teid_sound h = past_last (size_16 l e) teid_last h

  -- Types 128 to 255: a 2-byte length, then the value
  module _ (high : 128 ≤ element_type l) where
    not_16 : element_type l ≡ 16 → ⊥
    not_16 e = omega arith

    left_25 : LeftFrom 25
    left_25 = past_27 rows (and_left (ltb (element_type l) 128) (not is16) (le-ltb (element_type l) 128 high))

    pub length_cut : length l < 3 → refused 25 ≡ element_of l
    unfolding element_causes
    length_cut h = stops left_25 (and_both (not is16) (cut 3) (differs (element_type l) 16 not_16) (lt-ltb (length l) 3 h))

    module _ (long : 3 ≤ length l) (n : ℕ) (en : n ≡ value_length l) where
      left_26 : LeftFrom 26
      left_26 = past_25 left_25 (and_right (not is16) (cut 3) (le-ltb (length l) 3 long))

      size_is : 3 + n ≡ element_size l
      size_is = ap (λ (k : ℕ). 3 + k) en ∙ size_other l not_16

      pub length_other : other_length (element_type l) n ≡ true → refused 26 ≡ element_of l
      unfolding element_causes
      length_other h = stops left_26 (rw en at h)

      module _ (right : other_length (element_type l) n ≡ false) where
        value_last : LeftLast
        value_last = past_26 left_26 (rw en at right)

        pub value_cut : length l < 3 + n → refused 25 ≡ element_of l
        value_cut h = row_last size_is value_last h

        pub value_sound : 3 + n ≤ length l → gives (3 + n) ≡ element_of l
        value_sound h = past_last size_is value_last h

-- what an element's answer says of the element: its size, which is within the list
pub record Sound (l : List ℕ) (n : ℕ) : Type 0 where
  pub passes : Passes (element_causes l)
  pub size : n ≡ element_size l
  pub fits : n ≤ length l

pub within : (l : List ℕ) → Passes (element_causes l) → element_size l ≤ length l
unfolding element_causes
within l p = ltb-false (length l) (element_size l) (first_false (passes_from 25 (passes_from 26 p)))

pub sound : (l : List ℕ) (n : ℕ) → gives n ≡ element_of l → Sound l n
sound l n e =
    let p = passed (element_causes l) (gives (element_size l)) n (sym e) in
    let s : n ≡ element_size l = cc p.1 in
    record { passes = p.0; size = s; fits = rw s (within l p.0) }

-- rows that refuse one call refuse each that begins with them
pub refused_by : {A B : Type 0} (rows : List Cause) (x : A) (n : ℕ) (o : Outcome B) → refused n ≡ first_cause rows (gives x) → refused n ≡ first_cause rows o
unfolding first_cause
refused_by [] x n o e = absurd (refused_gives e)
refused_by ((true ⇒ m) ∷ rows) x n o e = let s : n ≡ m = cc in ap refused s
refused_by ((false ⇒ m) ∷ rows) x n o e = refused_by rows x n o e
