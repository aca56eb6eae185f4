-- The loops that gather over columns: what is gathered up to i, with what is left, is the whole answer. The law is said once, over what is
-- gathered and how. A loop that looks at several rows in a turn cuts them off the front of what is left.
use Prim.Native.Nat.{ℕ, zero, suc, ◌+◌, ◌-◌, ◌≤◌, ◌<◌, min}
use mathlib.Core.Path.{◌≡◌, refl, sym, ap, ◌∙◌}
use mathlib.Core.List.{List, [], ◌∷◌}
use mathlib.Core.Bool.{Bool, true, false, ◌&&◌, ◌||◌}
use native.Mathlib.Nat.{le_of_suc-le-suc}
use native.Mathlib.Numerals.{add-one}
use native.Mathlib.Omega.{arith}
use lib.Dec.{ltb, eqb}
use lib.ListN.{length, get_or, take, drop, length-take, length-drop}
use lib.Seq.{slice, drop-cons, drop-drop, drop_at, get_or-take, length-take-le, take_all, take-nil, take-take, take-add}
use Rattle.error.proofs.Tests.{true_not_false}
use Rattle.columns.specs.Columns.{rising, all_marked, return_known, returns_known}

pub and_assoc : (a b c : Bool) → (a && b) && c ≡ a && (b && c)
and_assoc true b c = refl
and_assoc false b c = refl

pub and_true : (a : Bool) → a && true ≡ a
and_true true = refl
and_true false = refl

pub or_assoc : (a b c : Bool) → ((a || b) || c) ≡ (a || (b || c))
or_assoc true b c = refl
or_assoc false b c = refl

pub or_false : (a : Bool) → (a || false) ≡ a
or_false true = refl
or_false false = refl

pub drop_past : {A : Type 0} (l : List A) (n : ℕ) → length l ≤ n → drop n l ≡ []
drop_past [] zero h = refl
drop_past (x ∷ l) zero h = absurd (omega arith)
drop_past [] (suc n) h = refl
drop_past (x ∷ l) (suc n) h = drop_past l n (le_of_suc-le-suc h)

-- a list cut past its end
pub take_whole : {A : Type 0} (n m : ℕ) (l : List A) → m ≡ min n (length l) → take m l ≡ take n l
take_whole n m [] e = rw (let z : m ≡ 0 = omega arith in z) (sym (take_all n [] (omega arith)))
take_whole zero m (x ∷ l) e = rw (let z : m ≡ 0 = omega arith in z)
take_whole (suc n) zero (x ∷ l) e = absurd (omega arith)
take_whole (suc n) (suc m) (x ∷ l) e = ap (λ (r : List _). x ∷ r) (take_whole n m l (omega arith))

-- a part in the middle, by its length
pub slice_front : (k i : ℕ) (l : List ℕ) → i + k ≤ length l → slice i (i + k) l ≡ take k (drop i l)
slice_front k i l h = ap (drop i) (take-add i k l) ∙ drop_at (take i l) (take k (drop i l)) i (length-take-le i l (omega arith))

-- what is left of the first n entries of a column
module _ (column : List ℕ) (n : ℕ) (fits : n ≤ length column) where
  -- entry i, and what is left after it
  pub left : (i : ℕ) → i < n → drop i (take n column) ≡ get_or column i 0 ∷ drop (i + 1) (take n column)
  left i h =
      drop-cons (take n column) i 0 (omega (arith, length-take-le n column fits))
      ∙ ap (λ (x : ℕ). x ∷ drop (suc i) (take n column)) (get_or-take n column i 0 h)
      ∙ ap (λ (k : ℕ). get_or column i 0 ∷ drop k (take n column)) (sym (add-one i))

  pub nothing_left : (i : ℕ) → n ≤ i → drop i (take n column) ≡ []
  nothing_left i h = drop_past (take n column) i (omega (arith, length-take-le n column fits))

  -- the front of what is left is that of the column
  pub front_left : (k i : ℕ) → i + k ≤ n → take k (drop i (take n column)) ≡ take k (drop i column)
  front_left k i h =
      sym (slice_front k i (take n column) (omega (arith, length-take-le n column fits)))
      ∙ ap (drop i) (take-take (i + k) n column h)
      ∙ slice_front k i column (omega arith)

-- what is gathered so far, with the rest from i on, is the whole
module _ {A : Type 0} (op : A → A → A) (assoc : (a b c : A) → op (op a b) c ≡ op a (op b c)) (rest : ℕ → A) {whole : A} where
  pub turn : (so_far x : A) (i : ℕ) → rest i ≡ op x (rest (i + 1)) → op so_far (rest i) ≡ whole → op (op so_far x) (rest (i + 1)) ≡ whole
  turn so_far x i step e = assoc so_far x (rest (i + 1)) ∙ ap (op so_far) (sym step) ∙ e

  pub end : (so_far none : A) (i : ℕ) → op so_far none ≡ so_far → rest i ≡ none → op so_far (rest i) ≡ whole → so_far ≡ whole
  end so_far none i unit last e = sym unit ∙ ap (op so_far) (sym last) ∙ e

-- the k entries from i on
abbrev pub entries : ℕ → ℕ → List ℕ → List ℕ
entries zero i l = []
entries (suc k) i l = get_or l i 0 ∷ entries k (suc i) l

pub entries_are : (k i : ℕ) (l : List ℕ) → i + k ≤ length l → take k (drop i l) ≡ entries k i l
entries_are zero i l h = refl
entries_are (suc k) i l h =
    ap (take (suc k)) (drop-cons l i 0 (omega arith)) ∙ ap (λ (r : List ℕ). get_or l i 0 ∷ r) (entries_are k (suc i) l (omega arith))

-- the index k behind i, as `entries` has it
abbrev further : ℕ → ℕ → ℕ
further zero i = i
further (suc k) i = further k (suc i)

pub behind : (k i : ℕ) → i + k ≡ further k i
behind zero i = omega arith
behind (suc k) i = let e : i + suc k ≡ suc i + k = omega arith in e ∙ behind k (suc i)

-- ---- rising

-- what is cut off overlaps with what is left by one
rising_cut : (k : ℕ) (l : List ℕ) → k < length l → rising l ≡ rising (take (suc k) l) && rising (drop k l)
rising_cut k [] h = absurd (omega arith)
rising_cut zero (x ∷ l) h = refl
rising_cut (suc k) (x ∷ []) h = absurd (omega arith)
rising_cut (suc k) (x ∷ y ∷ l) h = ap (λ (b : Bool). ltb x y && b) (rising_cut k (y ∷ l) (omega arith)) ∙ sym (and_assoc (ltb x y) _ _)

pub rising_one : (l : List ℕ) → length l ≤ 1 → rising l ≡ true
rising_one [] h = refl
rising_one (x ∷ []) h = refl
rising_one (x ∷ y ∷ l) h = absurd (omega arith)

module _ (column : List ℕ) (n : ℕ) (fits : n ≤ length column) where
  -- k neighbours in a turn
  pub rising_turn : (k i : ℕ) → i + suc k ≤ n
      → rising (drop i (take n column)) ≡ rising (take (suc k) (drop i column)) && rising (drop (i + k) (take n column))
  rising_turn k i h =
      let long : k < length (drop i (take n column)) = simp (length-drop, length-take) (omega arith) in
      rising_cut k (drop i (take n column)) long
      ∙ ap (λ (l : List ℕ). rising l && rising (drop k (drop i (take n column)))) (front_left column n fits (suc k) i h)
      ∙ ap (λ (l : List ℕ). rising (take (suc k) (drop i column)) && rising l) (drop-drop k i (take n column))

  -- a turn of the loop, by what the entries that it looks at say
  pub rising_turned : (k i : ℕ) {b whole : Bool} → i + suc k ≤ n → rising (take (suc k) (drop i column)) ≡ b → rising (drop i (take n column)) ≡ whole
      → b && rising (drop (i + k) (take n column)) ≡ whole
  rising_turned k i h e w = ap (λ (x : Bool). x && rising (drop (i + k) (take n column))) (sym e) ∙ sym (rising_turn k i h) ∙ w

  -- an entry and the one before it in a turn
  pub rising_next : (i : ℕ) → 0 < i → i < n → {b whole : Bool} → ltb (get_or column (i - 1) 0) (get_or column i 0) ≡ b → rising (drop (i - 1) (take n column)) ≡ whole
      → b && rising (drop i (take n column)) ≡ whole
  rising_next i p h e w =
      let k : ℕ = i - 1 in
      let next : k + 1 ≡ i = omega arith in
      ap (λ (x : Bool). x && rising (drop i (take n column))) (sym e)
      ∙ ap (λ (j : ℕ). ltb (get_or column k 0) (get_or column j 0) && rising (drop j (take n column))) (sym next)
      ∙ sym (rising_turn 1 k (omega arith)
      ∙ ap (λ (x : Bool). x && rising (drop (k + 1) (take n column)))
      (ap rising (entries_are 2 k column (omega arith)) ∙ and_true _ ∙ ap (λ (j : ℕ). ltb (get_or column k 0) (get_or column j 0)) (sym (add-one k))))
      ∙ w

  pub rising_last : (i : ℕ) → n ≤ i + 1 → rising (drop i (take n column)) ≡ true
  rising_last i h = rising_one (drop i (take n column)) (simp (length-drop, length-take) (omega arith))

-- nine entries are twice five, with one in common
pub rising_nine : (l : List ℕ) (i : ℕ) → i + 9 ≤ length l
    → rising (take 5 (drop i l)) && rising (take 5 (drop (i + 4) l)) ≡ rising (take 9 (drop i l))
rising_nine l i h =
    let e : i + 4 + 5 ≡ i + 9 = omega arith in
    ap (λ (x : List ℕ). rising (take 5 (drop i l)) && rising x) (sym (slice_front 5 (i + 4) l (omega arith)) ∙ ap (λ (n : ℕ). drop (i + 4) (take n l)) e)
    ∙ sym (rising_turn l (i + 9) h 4 i (omega arith))
    ∙ ap rising (slice_front 9 i l h)

-- ---- marks and arrival times

known_none : (ms : List ℕ) (k : ℕ) → returns_known ms (take k []) ≡ true
known_none [] k = refl
known_none (m ∷ ms) zero = refl
known_none (m ∷ ms) (suc k) = refl

known_cut : (k : ℕ) (ms ts : List ℕ) → returns_known ms ts ≡ returns_known (take k ms) (take k ts) && returns_known (drop k ms) (drop k ts)
known_cut zero ms ts = refl
known_cut (suc k) [] ts = refl
known_cut (suc k) (m ∷ ms) [] = sym (known_none (drop k ms) 0)
known_cut (suc k) (m ∷ ms) (t ∷ ts) = ap (λ (b : Bool). return_known m t && b) (known_cut k ms ts) ∙ sym (and_assoc (return_known m t) _ _)

-- where all rows are marked, no time is looked at
pub marked_known : (ms ts : List ℕ) → all_marked ms ≡ true → returns_known ms ts ≡ true
marked_known [] ts e = refl
marked_known (m ∷ ms) [] e = refl
marked_known (m ∷ ms) (t ∷ ts) e = go (eqb m 1) _ e (marked_known ms ts)
  where
    go : (b rest : Bool) → b && all_marked ms ≡ true → (all_marked ms ≡ true → returns_known ms ts ≡ true) → (b || rest) && returns_known ms ts ≡ true
    go true rest f known = known f
    go false rest f known = absurd (true_not_false (sym f))

module _ (marks arrivals : List ℕ) (n : ℕ) (marks_fit : n ≤ length marks) (arrivals_fit : n ≤ length arrivals) where
  -- k rows in a turn
  pub known_turn : (k i : ℕ) → i + k ≤ n
      → returns_known (drop i (take n marks)) (drop i (take n arrivals))
      ≡ returns_known (take k (drop i marks)) (take k (drop i arrivals)) && returns_known (drop (i + k) (take n marks)) (drop (i + k) (take n arrivals))
  known_turn k i h =
      known_cut k (drop i (take n marks)) (drop i (take n arrivals))
      ∙ (λ j.
      returns_known (front_left marks n marks_fit k i h j) (front_left arrivals n arrivals_fit k i h j)
      && returns_known (drop-drop k i (take n marks) j) (drop-drop k i (take n arrivals) j))

-- rows past the end of a column are not looked at
pub known_whole : (n m : ℕ) (ms ts : List ℕ) → m ≡ min n (min (length ms) (length ts)) → returns_known (take m ms) (take m ts) ≡ returns_known (take n ms) (take n ts)
known_whole n m [] ts e = ap (λ (l : List ℕ). returns_known l (take m ts)) (take-nil m) ∙ ap (λ (l : List ℕ). returns_known l (take n ts)) (sym (take-nil n))
known_whole n m (x ∷ ms) [] e = known_none (take m (x ∷ ms)) m ∙ sym (known_none (take n (x ∷ ms)) n)
known_whole zero m (x ∷ ms) (t ∷ ts) e = rw (let z : m ≡ 0 = omega arith in z)
known_whole (suc n) zero (x ∷ ms) (t ∷ ts) e = absurd (omega arith)
known_whole (suc n) (suc m) (x ∷ ms) (t ∷ ts) e = ap (λ (b : Bool). return_known x t && b) (known_whole n m ms ts (omega arith))
