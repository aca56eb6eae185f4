-- A buffer that is written one part after the other: what stands at its front grows, and what lies past it is as it was.
use Prim.Native.Nat.{ℕ, ◌+◌, ◌-◌, ◌≤◌}
use native.Mathlib.Omega.{arith}
use mathlib.Core.Path.{◌≡◌, refl, sym, ap, ap₂, ◌∙◌}
use mathlib.Core.List.{List, ◌++◌, append_assoc, append-nil}
use lib.ListN.{length, take, drop, length-append, length-drop, drop_of_length-le, take-append-drop}
use lib.Seq.{take_at, drop_at, drop-drop, take_all, length-take-le}

-- `whole` holds `front` and then what `out` had there; its part from `a` on is lent, and comes back with `next` at its front
pub laid : (front next out part whole : List ℕ) (a n : ℕ) → length front ≡ a → length next ≡ n → a + n ≤ length out
    → whole ≡ front ++ drop a out → part ≡ next ++ drop n (take (length whole - a) (drop a whole))
    → take a whole ++ (part ++ drop (length whole - a) (drop a whole)) ≡ (front ++ next) ++ drop (a + n) out
laid front next out part whole a n ef en fits ew ep =
    let d : drop a whole ≡ drop a out = ap (drop a) ew ∙ drop_at front (drop a out) a ef in
    let k : take a whole ≡ front = ap (take a) ew ∙ take_at front (drop a out) a ef in
    let l : length whole ≡ length out = ap length ew ∙ simp (length-append, length-drop) (omega arith) in
    let m : length (drop a out) ≤ length whole - a = simp length-drop (omega arith) in
    ap₂ (λ (x y : List ℕ). x ++ y) k
    (ap₂ (λ (x y : List ℕ). x ++ y) (ep ∙ ap (λ (x : List ℕ). next ++ drop n x) (ap (take (length whole - a)) d ∙ take_all (length whole - a) (drop a out) m))
    (ap (drop (length whole - a)) d ∙ drop_of_length-le (drop a out) m)
    ∙ append-nil (next ++ drop n (drop a out)) ∙ ap (λ (x : List ℕ). next ++ x) (drop-drop n a out))
    ∙ sym (append_assoc front next (drop (a + n) out))

-- the same of any list that was copied into a part of another
pub copied : (next whole part : List ℕ) (a : ℕ) → a + length next ≤ length whole
    → part ≡ take (length next) next ++ drop (length next) (take (length whole - a) (drop a whole))
    → take a whole ++ (part ++ drop (length whole - a) (drop a whole)) ≡ take a whole ++ (next ++ drop (a + length next) whole)
copied next whole part a fits ep =
    laid (take a whole) next whole part whole a (length next) (length-take-le a whole (omega arith)) refl fits (sym (take-append-drop a whole))
    (ep ∙ ap (λ (x : List ℕ). x ++ drop (length next) (take (length whole - a) (drop a whole))) (take_all (length next) next (omega arith)))
    ∙ append_assoc (take a whole) next (drop (a + length next) whole)

-- what was put behind the front of a buffer makes the front longer
pub grown : (front next out whole : List ℕ) (a : ℕ) → length front ≡ a → whole ≡ front ++ drop a out
    → take a whole ++ (next ++ drop (a + length next) whole) ≡ (front ++ next) ++ drop (a + length next) out
grown front next out whole a ef ew =
    let k : take a whole ≡ front = ap (take a) ew ∙ take_at front (drop a out) a ef in
    let d : drop a whole ≡ drop a out = ap (drop a) ew ∙ drop_at front (drop a out) a ef in
    let e : drop (a + length next) whole ≡ drop (a + length next) out =
    sym (drop-drop (length next) a whole) ∙ ap (drop (length next)) d ∙ drop-drop (length next) a out in
    ap₂ (λ (x y : List ℕ). x ++ (next ++ y)) k e ∙ sym (append_assoc front next (drop (a + length next) out))
