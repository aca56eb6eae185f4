-- The claims of specs/Claims.antt, proved.
use Prim.Native.Nat.{ℕ, ◌+◌, ◌-◌, ◌*◌, ◌<◌, ◌≤◌}
use native.Mathlib.Omega.{arith}
use native.Mathlib.Nat.{min-le_left}
use mathlib.Core.Path.{◌≡◌, refl, sym, ap, ◌∙◌}
use mathlib.Core.List.{List, [], ◌∷◌, ◌++◌}
use mathlib.Core.Bool.{Bool, true, false, not}
use lib.Dec.{ltb}
use lib.ListN.{length, drop, get_or, replicate, length-append, length-take, length-replicate}
use lib.Seq.{take_at, drop-append-add}
use borrow.Author.Tests.{ltb-true, ltb-false}
use Rattle.field.specs.Field.{Bytes}
use Rattle.checksum.specs.Sum.{sum_of, folding, fold_of, checksum_of, ones_add, ones_sum}
use Rattle.checksum.specs.Damage.{is_one, low_bits, bits, bits_in, Turned, TurnedWithin}
use Rattle.checksum.specs.Claims.{Verifies, FoldedSum, SumInParts, PlacedVerifies, DamageFound, Undamaged, Clipped, DamageIs, Sharp, Examples}
use Rattle.checksum.proofs.Carries.{fold_add, fold_low, fold_is, like_refl}
use Rattle.checksum.proofs.Bits.{bit, length_bits}
use Rattle.checksum.proofs.Sums.{sum_append, sealed}
use Rattle.checksum.proofs.Burst.{burst}
use Rattle.checksum.proofs.Clip.{turned_take, turned_drop, turned_front, turned_behind}
use Rattle.checksum.proofs.Spans.{every_span, only_spans}

-- ones' complement addition folds the carry of a plain sum
ones_add_lem : (a b : ℕ) → a < 65536 → b < 65536 → fold_of (a + b) ≡ ones_add a b
unfolding ones_add
ones_add_lem a b h k = go (ltb (a + b) 65536) refl
  where
    go : (t : Bool) → ltb (a + b) 65536 ≡ t → fold_of (a + b) ≡ elim t [ true ↦ a + b | false ↦ a + b - 65535 ]
    go true e = fold_is (like_refl (a + b)) (ltb-true (a + b) 65536 e)
    go false e =
        let p = ltb-false (a + b) 65536 e in
        fold_is (record { some = λ q. omega arith; times = 1; same = omega arith }) (omega arith)

pub folded_sum : FoldedSum
unfolding sum_of ones_sum
folded_sum [] p = fold_is (like_refl 0) (omega arith)
folded_sum (a ∷ []) p = fold_is (like_refl (a * 256)) (omega arith)
folded_sum (a ∷ b ∷ l) p =
    let w = a * 256 + b in
    let rest = fold_of (sum_of l) in
    let first : w + sum_of l ≡ sum_of l + w = omega arith in
    let last : rest + w ≡ w + rest = omega arith in
    ap fold_of first ∙ sym (fold_add (sum_of l) w) ∙ ap fold_of last
    ∙ ones_add_lem w rest (omega arith) (fold_low (sum_of l)) ∙ ap (ones_add w) (folded_sum l p.1.1)

pub sum_in_parts : SumInParts
sum_in_parts start first rest h =
    let e : start + sum_of first + sum_of rest ≡ start + sum_of (first ++ rest) = omega (arith, sum_append first rest h) in
    fold_add (start + sum_of first) (sum_of rest) ∙ ap fold_of e

pub placed_verifies : PlacedVerifies
placed_verifies before after h = sealed before after h

pub damage_found : DamageFound
damage_found = burst

pub undamaged : (arrived : List ℕ) → Verifies arrived → Undamaged arrived
undamaged arrived v sent b w t = burst sent arrived b t (w ∙ sym v)

pub clipped : Clipped
clipped = record {
  to_front = λ n sent arrived t. turned_take n t;
  to_back = λ n sent arrived t. turned_drop n t;
  behind = λ front sent arrived b t. turned_front front b t;
  ahead = λ back sent arrived b t. turned_behind back b t;
}

pub sharp : Sharp
unfolding checksum_of fold_of folding sum_of
sharp = record { sixteen_equal = refl; sixteen_across = refl; seventeen = refl }

-- a span of fewer than 16 bits is not 16 equal bits
fewer : {C : Type 0} (x : List Bool) (b : Bool) → length x < 16 → x ≡ replicate 16 b → C
fewer x b h e = absurd (omega (arith, ap length e, length-replicate 16 b))

-- equal checksums are equal sums
same_sums : (x y : List ℕ) → checksum_of x ≡ checksum_of y → fold_of (sum_of x) ≡ fold_of (sum_of y)
unfolding checksum_of
same_sums x y e = omega (arith, fold_low (sum_of x), fold_low (sum_of y))

-- what the law would find, were it damage, and does not find
unfound : (sent arrived : List ℕ) → Bytes sent → checksum_of arrived ≡ checksum_of sent → Turned sent arrived → arrived ≡ sent
unfound sent arrived b e t = burst sent arrived b t (sym (same_sums arrived sent e))

-- bits of which the first two differ are not all equal
unlike : (x c : Bool) (l m : List Bool) → x ∷ not x ∷ l ≡ c ∷ c ∷ m → ⊥
unlike true c l m e = omega (arith, ap (λ (x : List Bool). bit (get_or x 0 c)) e, ap (λ (x : List Bool). bit (get_or x 1 c)) e)
unlike false c l m e = omega (arith, ap (λ (x : List Bool). bit (get_or x 0 c)) e, ap (λ (x : List Bool). bit (get_or x 1 c)) e)

-- bits turned in a span of bytes that are written out
in_span : (from width : ℕ) (sent arrived : List ℕ) → TurnedWithin from width sent arrived → width ≤ 16
    → ((b : Bool) → bits_in from width sent ≡ replicate 16 b → bits_in from width arrived ≡ replicate 16 (not b) → ⊥) → Turned sent arrived
in_span from width sent arrived t h n = every_span (record { from = from; width = width; within = t; short = h; not_all = n })

one_bit : (sent arrived : List ℕ) → Bytes arrived → (before after : List Bool) (b : Bool)
    → bits sent ≡ before ++ (b ∷ after) → bits arrived ≡ before ++ (not b ∷ after) → Turned sent arrived
one_bit sent arrived bytes before after b p q =
    let n = length before in
    let behind : (x : Bool) → drop (n + 1) (before ++ (x ∷ after)) ≡ after = λ x. drop-append-add before (x ∷ after) 1 in
    in_span n 1 sent arrived (record {
      same_length = omega (arith, length_bits sent, length_bits arrived, ap length p, ap length q, length-append before (b ∷ after), length-append before (not b ∷ after));
      bytes = bytes;
      kept_before = rw (p, q) (take_at before (not b ∷ after) n refl ∙ sym (take_at before (b ∷ after) n refl));
      kept_behind = rw (p, q) (behind (not b) ∙ sym (behind b));
    }) (omega arith) (λ c e f. fewer (bits_in n 1 sent) c (omega (arith, length-take 1 (drop n (bits sent)), min-le_left 1 (length (drop n (bits sent))))) e)

pub damage_is : DamageIs
unfolding bits low_bits is_one
damage_is = record {
  every_span = λ sent arrived g. every_span g;
  only_spans = λ sent arrived t. only_spans t;
  none = λ sent b. in_span 0 0 sent sent (record { same_length = refl; bytes = b; kept_before = refl; kept_behind = refl }) (omega arith) (λ c e f. fewer [] c (omega arith) e);
  one_bit = one_bit;
  sixteen_unequal = in_span 0 16 _ _ (record { same_length = refl; bytes = omega arith; kept_before = refl; kept_behind = refl }) (omega arith) (λ c e f. unlike false c _ _ e);
  over_three_bytes = in_span 4 16 _ _ (record { same_length = refl; bytes = omega arith; kept_before = refl; kept_behind = refl }) (omega arith) (λ c e f. unlike false c _ _ e);
  fifteen_equal = in_span 1 15 _ _ (record { same_length = refl; bytes = omega arith; kept_before = refl; kept_behind = refl }) (omega arith) (λ c e f. fewer _ c (omega arith) e);
  sixteen_not_all = in_span 0 16 _ _ (record { same_length = refl; bytes = omega arith; kept_before = refl; kept_behind = refl }) (omega arith) (λ c e f. unlike true (not c) _ _ f);
  not_sixteen_equal = λ t. differ 255 0 (ap first (unfound _ _ (omega arith) sharp.sixteen_equal t)) (omega arith);
  not_sixteen_across = λ t. differ 0 255 (ap second (unfound _ _ (omega arith) sharp.sixteen_across t)) (omega arith);
  not_seventeen = λ t. differ 0 1 (ap second (unfound _ _ (omega arith) sharp.seventeen t)) (omega arith);
}
  where
    first : List ℕ → ℕ
    first l = get_or l 0 0

    second : List ℕ → ℕ
    second l = get_or l 1 0

    differ : (a b : ℕ) → a ≡ b → (a ≡ b → ⊥) → ⊥
    differ a b e h = h e

pub examples : Examples
unfolding checksum_of fold_of folding sum_of
examples = record { rfc_1071 = refl; odd_byte = refl }
