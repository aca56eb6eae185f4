-- The laws of big-endian fields: what is written is read back, what is read is written back, and a field of a part is a field of the whole.
use Prim.Native.Nat.{ℕ, zero, suc, ◌+◌, ◌-◌, ◌*◌, ◌/◌, ◌%◌, ◌^◌, ◌<◌, ◌≤◌}
use native.Mathlib.Omega.{arith}
use native.Mathlib.Decide.{dec_lt}
use native.Mathlib.Nat.{div-div-eq-div-mul, div-one, div-eq_of_lt, pow-suc, add-suc, add-zero}
use mathlib.Core.Path.{◌≡◌, refl, sym, ap, ap₂, ◌∙◌}
use mathlib.Core.List.{List, [], ◌∷◌, ◌++◌}
use mathlib.Core.Bool.{true}
use borrow.Author.Tests.{eq-eqb}
use lib.ListN.{length, take, drop, get_or}
use lib.Seq.{drop-cons, get_or-take, get_or-drop, take_at, take_all}
use Rattle.field.specs.Field.{Bytes, same_bytes, big_endian, value_of, bytes_at}

-- bytes
pub bytes_take : (n : ℕ) (l : List ℕ) → Bytes l → Bytes (take n l)
bytes_take zero l p = tt
bytes_take (suc n) [] p = tt
bytes_take (suc n) (b ∷ l) p = (p.0, bytes_take n l p.1)

pub bytes_drop : (n : ℕ) (l : List ℕ) → Bytes l → Bytes (drop n l)
bytes_drop zero l p = p
bytes_drop (suc n) [] p = tt
bytes_drop (suc n) (b ∷ l) p = bytes_drop n l p.1

pub bytes_append : (x y : List ℕ) → Bytes x → Bytes y → Bytes (x ++ y)
bytes_append [] y p q = q
bytes_append (b ∷ x) y p q = (p.0, bytes_append x y p.1 q)

pub byte_of : (l : List ℕ) (i : ℕ) → Bytes l → get_or l i 0 < 256
byte_of [] i h = omega arith
byte_of (b ∷ l) zero h = h.0
byte_of (b ∷ l) (suc i) h = byte_of l i h.1

pub bytes_at_lem : (width at : ℕ) (l : List ℕ) → Bytes l → Bytes (bytes_at width at l)
bytes_at_lem zero at l h = tt
bytes_at_lem (suc width) at l h = (byte_of l at h, bytes_at_lem width (suc at) l h)

pub same_as_itself : (l : List ℕ) → same_bytes l l ≡ true
same_as_itself [] = refl
same_as_itself (x ∷ l) = rw (eq-eqb x x refl) (same_as_itself l)

-- what a slice of bytes tells of its elements
pub bytes_of : (l : List ℕ) → ((i : ℕ) → get_or l i 0 < 256) → Bytes l
bytes_of [] h = tt
bytes_of (b ∷ l) h = (h 0, bytes_of l (λ i. h (suc i)))

pub bytes_big_endian : (width x : ℕ) → Bytes (big_endian width x)
bytes_big_endian zero x = tt
bytes_big_endian (suc width) x = (omega arith, bytes_big_endian width x)

pub length_big_endian : (width x : ℕ) → length (big_endian width x) ≡ width
length_big_endian zero x = refl
length_big_endian (suc width) x = ap suc (length_big_endian width x)

pub length_bytes_at : (width at : ℕ) (l : List ℕ) → length (bytes_at width at l) ≡ width
length_bytes_at zero at l = refl
length_bytes_at (suc width) at l = ap suc (length_bytes_at width (suc at) l)

-- what the field holds, and what lies above it
with_above : (width x : ℕ) → value_of (big_endian width x) + 256 ^ width * (x / 256 ^ width) ≡ x
with_above zero x = rw div-one (omega arith)
with_above (suc width) x =
    let m = 256 ^ width in
    let q = x / m in
    let d : x / 256 ^ suc width ≡ q / 256 = ap (λ (k : ℕ). x / k) (pow-suc 256 width) ∙ sym (div-div-eq-div-mul x m 256) in
    let e : q % 256 + 256 * (q / 256) ≡ q = omega arith in
    step (value_of (big_endian width x)) (q % 256) (q / 256) m (256 ^ length (big_endian width x)) (256 ^ suc width) (x / 256 ^ suc width) q x
    (ap (λ (k : ℕ). 256 ^ k) (length_big_endian width x)) (pow-suc 256 width) d e (with_above width x)
  where
    step : (a r h m l k c q x : ℕ) → l ≡ m → k ≡ m * 256 → c ≡ h → r + 256 * h ≡ q → a + m * q ≡ x → r * l + a + k * c ≡ x
    step a r h m l k c q x el ek ec eq ex =
        ap₂ (λ (l k : ℕ). r * l + a + k * c) el ek ∙ ap (λ (c : ℕ). r * m + a + m * 256 * c) ec
        ∙ omega (arith, ap (λ (n : ℕ). m * n) eq)

-- a number that fits its field is read back
pub value_big_endian : (width x : ℕ) → x < 256 ^ width → value_of (big_endian width x) ≡ x
value_big_endian width x h = omega (arith, with_above width x, ap (λ (k : ℕ). 256 ^ width * k) (div-eq_of_lt h))

-- bytes hold a number that fits
pub value_below : (l : List ℕ) → Bytes l → value_of l < 256 ^ length l
value_below [] h = omega arith
value_below (b ∷ l) h =
    let m = 256 ^ length l in
    let f : 255 ≡ b + (255 - b) = omega (arith, h.0) in
    omega (arith, value_below l h.1, pow-suc 256 (length l), ap (λ (n : ℕ). n * m) f)

apart : (b c m r s : ℕ) → b < c → r < m → b * m + r ≡ c * m + s → ⊥
apart b c m r s h k e =
    let d = c - b - 1 in
    let f : c ≡ b + 1 + d = omega arith in
    omega (arith, ap (λ (n : ℕ). n * m) f)

-- equal numbers, equal bytes, at one width
pub value_injective : (x y : List ℕ) → Bytes x → Bytes y → length x ≡ length y → value_of x ≡ value_of y → x ≡ y
value_injective [] [] p q h e = refl
value_injective [] (b ∷ y) p q h e = absurd (omega arith)
value_injective (a ∷ x) [] p q h e = absurd (omega arith)
value_injective (a ∷ x) (b ∷ y) p q h e =
    let k : length x ≡ length y = omega arith in
    let m = 256 ^ length x in
    let lx = value_below x p.1 in
    let ly : value_of y < m = rw (← k) at (value_below y q.1) in
    let e' : a * m + value_of x ≡ b * m + value_of y = rw (← k) at e in
    let s = same a b m (value_of x) (value_of y) lx ly e' in
    ap₂ (λ (c : ℕ) (z : List ℕ). c ∷ z) s (value_injective x y p.1 q.1 k (omega (arith, ap (λ (n : ℕ). n * m) s)))
  where
    same : (a b m r s : ℕ) → r < m → s < m → a * m + r ≡ b * m + s → a ≡ b
    same a b m r s h k e =
        elim (dec_lt a b) [ yes l ↦ absurd (apart a b m r s l h e) | no l ↦ elim (dec_lt b a) [ yes g ↦ absurd (apart b a m s r g k (sym e)) | no g ↦ omega arith ] ]

-- bytes that were read are written back
pub big_endian_value : (l : List ℕ) → Bytes l → big_endian (length l) (value_of l) ≡ l
big_endian_value l h =
    value_injective (big_endian (length l) (value_of l)) l (bytes_big_endian (length l) (value_of l)) h (length_big_endian (length l) (value_of l))
    (value_big_endian (length l) (value_of l) (value_below l h))

-- a field of what is left behind a place, of what stands in front of one, and of bytes that agree
pub bytes_at_drop : (width at j : ℕ) (l : List ℕ) → bytes_at width (at + j) l ≡ bytes_at width j (drop at l)
bytes_at_drop zero at j l = refl
bytes_at_drop (suc width) at j l =
    ap₂ (λ (b : ℕ) (m : List ℕ). b ∷ m) (sym (get_or-drop at l j 0)) (ap (λ (i : ℕ). bytes_at width i l) (sym (add-suc at j)) ∙ bytes_at_drop width at (suc j) l)

pub bytes_at_take : (width n j : ℕ) (l : List ℕ) → j + width ≤ n → bytes_at width j (take n l) ≡ bytes_at width j l
bytes_at_take zero n j l h = refl
bytes_at_take (suc width) n j l h = ap₂ (λ (b : ℕ) (m : List ℕ). b ∷ m) (get_or-take n l j 0 (omega arith)) (bytes_at_take width n (suc j) l (omega arith))

pub bytes_at_same : (width at : ℕ) (l m : List ℕ) → ((i : ℕ) → at ≤ i → i < at + width → get_or l i 0 ≡ get_or m i 0) → bytes_at width at l ≡ bytes_at width at m
bytes_at_same zero at l m h = refl
bytes_at_same (suc width) at l m h =
    ap₂ (λ (b : ℕ) (n : List ℕ). b ∷ n) (h at (omega arith) (omega arith)) (bytes_at_same width (suc at) l m (λ i a b. h i (omega arith) (omega arith)))

-- a list from a place on is the field there and what stands behind it
pub split_off : (width at : ℕ) (l : List ℕ) → at + width ≤ length l → drop at l ≡ bytes_at width at l ++ drop (at + width) l
split_off zero at l h = ap (λ (n : ℕ). drop n l) (sym (add-zero at))
split_off (suc width) at l h =
    drop-cons l at 0 (omega arith)
    ∙ ap (λ (m : List ℕ). get_or l at 0 ∷ m) (split_off width (suc at) l (omega arith) ∙ ap (λ (n : ℕ). bytes_at width (suc at) l ++ drop n l) (move at width))
  where
    move : (a k : ℕ) → suc a + k ≡ a + suc k
    move a k = omega arith

-- the front of a list is the field at its start
pub front_bytes : (width : ℕ) (l : List ℕ) → width ≤ length l → take width l ≡ bytes_at width 0 l
front_bytes width l h = ap (take width) (split_off width 0 l (omega arith)) ∙ take_at (bytes_at width 0 l) (drop (0 + width) l) width (length_bytes_at width 0 l)

pub whole_bytes_lem : (width : ℕ) (l : List ℕ) → length l ≡ width → l ≡ bytes_at width 0 l
whole_bytes_lem width l h = sym (take_all width l (omega arith)) ∙ front_bytes width l (omega arith)

-- the 8 bytes of a number by shifts, as code has them
abbrev pub shifted : ℕ → List ℕ
shifted x =
    x / 2 ^ 56 % 256 ∷ x / 2 ^ 48 % 256 ∷ x / 2 ^ 40 % 256 ∷ x / 2 ^ 32 % 256 ∷ x / 2 ^ 24 % 256 ∷ x / 2 ^ 16 % 256 ∷ x / 2 ^ 8 % 256 ∷ x % 256 ∷ []

pub shifted_bytes : (x : ℕ) → shifted x ≡ big_endian 8 x
shifted_bytes x =
    ap (λ (n : ℕ). x / 2 ^ 56 % 256 ∷ x / 2 ^ 48 % 256 ∷ x / 2 ^ 40 % 256 ∷ x / 2 ^ 32 % 256 ∷ x / 2 ^ 24 % 256 ∷ x / 2 ^ 16 % 256 ∷ x / 2 ^ 8 % 256 ∷ n % 256 ∷ [])
    (sym (div-one x))
