-- The sum of words: of a few bytes, of bytes that are taken off the front, and in parts.
use Prim.Native.Nat.{ℕ, min, ◌+◌, ◌-◌, ◌*◌, ◌/◌, ◌%◌, ◌<◌, ◌≤◌}
use native.Mathlib.Omega.{arith}
use mathlib.Core.Path.{◌≡◌, sym, ap, ◌∙◌}
use mathlib.Core.List.{List, [], ◌∷◌, ◌++◌, append-nil}
use mathlib.Core.Logic.{inl, inr}
use lib.ListN.{length, drop, get_or, length-append}
use lib.Seq.{drop_at, drop-drop}
use Rattle.std.proofs.lemmas.Bool.{cases_lt}
use Rattle.std.proofs.lemmas.List.{nil_from_length}
use Rattle.field.proofs.Fields.{split_off, whole_bytes_lem}
use Rattle.checksum.specs.Sum.{sum_of, fold_of, checksum_of}
use Rattle.checksum.proofs.Carries.{fold_add, fold_words, fold_whole}

-- the words of at most three bytes
pub sum_none : (l : List ℕ) → length l < 1 → sum_of l ≡ 0
unfolding sum_of
sum_none l h = ap sum_of (whole_bytes_lem 0 l (omega arith))

pub sum_one : (l : List ℕ) → length l ≡ 1 → sum_of l ≡ get_or l 0 0 * 256
unfolding sum_of
sum_one l h = ap sum_of (whole_bytes_lem 1 l h)

pub sum_two : (l : List ℕ) → length l ≡ 2 → sum_of l ≡ get_or l 0 0 * 256 + get_or l 1 0
unfolding sum_of
sum_two l h = ap sum_of (whole_bytes_lem 2 l h) ∙ omega arith

pub sum_three : (l : List ℕ) → length l ≡ 3 → sum_of l ≡ get_or l 0 0 * 256 + get_or l 1 0 + get_or l 2 0 * 256
unfolding sum_of
sum_three l h = ap sum_of (whole_bytes_lem 3 l h)

pub ruleset few_words = (sum_none, sum_one, sum_two, sum_three)

-- a part of even length, and what stands behind it
pub sum_append : (x y : List ℕ) → length x % 2 ≡ 0 → sum_of (x ++ y) ≡ sum_of x + sum_of y
unfolding sum_of
sum_append [] y h = omega arith
sum_append (a ∷ []) y h = absurd (omega arith)
sum_append (a ∷ b ∷ x) y h = omega (arith, sum_append x y (omega arith))

-- a sum that folds to what a list does, with another added
pub block_added : (l : List ℕ) (sum block : ℕ) {r : ℕ} → fold_of block ≡ fold_of (sum_of l) → r ≡ fold_of (block + sum) → r ≡ fold_of (sum + sum_of l)
block_added l sum block {r} p q =
    let turn : sum_of l + sum ≡ sum + sum_of l = omega arith in
    q ∙ sym (fold_add block sum) ∙ ap (λ (n : ℕ). fold_of (n + sum)) p ∙ fold_add (sum_of l) sum ∙ ap fold_of turn

-- a block of even size, or the last and shorter one, and what is left behind it
sum_chunk : (n : ℕ) (all block rest : List ℕ) → n % 2 ≡ 0 → all ≡ block ++ rest → length block ≡ min n (length all) → sum_of all ≡ sum_of block + sum_of rest
unfolding sum_of
sum_chunk n all block rest even parts size =
    let sizes = ap length parts ∙ length-append block rest in
    elim (cases_lt (length all) n) [
      | inl last ↦
          let none : rest ≡ [] = nil_from_length rest (omega arith) in
          rw (parts, none, append-nil) (omega arith)
      | inr whole ↦ let same : length block ≡ n = omega arith in ap sum_of parts ∙ sum_append block rest (rw same even)
    ]

-- with its carries folded in
pub block_turn : (n : ℕ) (all block rest : List ℕ) (sum words : ℕ) {total r : ℕ} → n % 2 ≡ 0 → fold_of (sum + sum_of all) ≡ total
    → all ≡ block ++ rest → length block ≡ min n (length all)
    → fold_of words ≡ fold_of (sum_of block) → r ≡ fold_of (words + sum) → fold_of (r + sum_of rest) ≡ total
block_turn n all block rest sum words {total} {r} even left parts size p q =
    let both : sum + sum_of block + sum_of rest ≡ sum + sum_of all = omega (arith, sum_chunk n all block rest even parts size) in
    ap (λ (m : ℕ). fold_of (m + sum_of rest)) (block_added block sum words p q) ∙ fold_add (sum + sum_of block) (sum_of rest) ∙ ap fold_of both ∙ left

-- a checksum in its field, at an even place, over a message in which the field was 0: the whole adds up to nothing but ones
pub sealed : (p s : List ℕ) → length p % 2 ≡ 0
    → let c = checksum_of (p ++ (0 ∷ 0 ∷ s)) in fold_of (sum_of (p ++ (c / 256 ∷ c % 256 ∷ s))) ≡ 65535
unfolding sum_of checksum_of
sealed p s h =
    let c = checksum_of (p ++ (0 ∷ 0 ∷ s)) in
    ap fold_of (omega (arith, sum_append p (0 ∷ 0 ∷ s) h, sum_append p (c / 256 ∷ c % 256 ∷ s) h)) ∙ fold_whole (sum_of (p ++ (0 ∷ 0 ∷ s)))

-- the number of four bytes, in the middle of a sum, folds as their two words do
four : (sum rest a b c d : ℕ) → fold_of (sum + (a * 16777216 + b * 65536 + c * 256 + d) + rest) ≡ fold_of (sum + (a * 256 + b + (c * 256 + d + rest)))
four sum rest a b c d =
    let high = a * 256 + b in
    let low = c * 256 + d in
    let joined : sum + (a * 16777216 + b * 65536 + c * 256 + d) + rest ≡ sum + rest + (high * 65536 + low) = omega arith in
    let parted : sum + rest + (high + low) ≡ sum + (a * 256 + b + (c * 256 + d + rest)) = omega arith in
    ap fold_of joined ∙ fold_words (sum + rest) high low ∙ ap fold_of parted

-- four bytes at once, in front of what is left
pub sum_four : (l : List ℕ) (sum : ℕ) {w last : ℕ} → 4 ≤ length l
    → w ≡ get_or l 0 0 * 16777216 + get_or l 1 0 * 65536 + get_or l 2 0 * 256 + get_or l 3 0
    → last ≡ sum_of (drop 4 l) → fold_of (sum + (w + last)) ≡ fold_of (sum + sum_of l)
unfolding sum_of
sum_four l sum {w} {last} h e f =
    let joined : sum + (w + last) ≡ sum + w + sum_of (drop 4 l) = omega arith in
    ap fold_of joined ∙ ap (λ (n : ℕ). fold_of (sum + n + sum_of (drop 4 l))) e
    ∙ four sum (sum_of (drop 4 l)) (get_or l 0 0) (get_or l 1 0) (get_or l 2 0) (get_or l 3 0)
    ∙ sym (ap (λ (x : List ℕ). fold_of (sum + sum_of x)) (split_off 4 0 l h))

-- eight bytes at once, as two numbers
pub sum_eight : (x rest : List ℕ) (sum : ℕ) {v w total : ℕ} → length x ≡ 8 → fold_of (sum + sum_of (x ++ rest)) ≡ total
    → v ≡ get_or x 0 0 * 16777216 + get_or x 1 0 * 65536 + get_or x 2 0 * 256 + get_or x 3 0
    → w ≡ get_or x 4 0 * 16777216 + get_or x 5 0 * 65536 + get_or x 6 0 * 256 + get_or x 7 0
    → fold_of (sum + (v + w) + sum_of rest) ≡ total
unfolding sum_of
sum_eight x rest sum {v} {w} {total} h all e f =
    let byte : ℕ → ℕ = λ i. get_or x i 0 in
    let second = byte 4 * 256 + byte 5 + (byte 6 * 256 + byte 7 + sum_of rest) in
    let joined : sum + (v + w) + sum_of rest ≡ sum + v + w + sum_of rest = omega arith in
    let front : sum + v + second ≡ sum + (byte 0 * 16777216 + byte 1 * 65536 + byte 2 * 256 + byte 3) + second = ap (λ (n : ℕ). sum + n + second) e in
    ap fold_of joined ∙ ap (λ (n : ℕ). fold_of (sum + v + n + sum_of rest)) f
    ∙ four (sum + v) (sum_of rest) (byte 4) (byte 5) (byte 6) (byte 7)
    ∙ ap fold_of front ∙ four sum second (byte 0) (byte 1) (byte 2) (byte 3)
    ∙ sym (ap (λ (y : List ℕ). fold_of (sum + sum_of (y ++ rest))) (whole_bytes_lem 8 x h)) ∙ all

-- what is left of a list when eight more elements came off it
pub left_behind : (all before front after : List ℕ) → before ≡ drop (length all - length before) all → length before ≤ length all
    → before ≡ front ++ after → length front ≡ 8 → (after ≡ drop (length all - length after) all) × (length after + 8 ≡ length before)
left_behind all before front after e h parts size =
    let sizes : length before ≡ 8 + length after = ap length parts ∙ length-append front after ∙ ap (λ (n : ℕ). n + length after) size in
    let place : length all - length before + 8 ≡ length all - length after = omega arith in (
      sym (drop_at front after 8 size) ∙ ap (drop 8) (sym parts ∙ e) ∙ drop-drop 8 (length all - length before) all ∙ ap (λ (n : ℕ). drop n all) place,
      omega arith,
    )
