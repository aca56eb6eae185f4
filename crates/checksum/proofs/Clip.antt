-- Damage to the whole is damage to each part: `Turned` is kept by `take` and by `drop`, and by equal bytes put in front or behind.
use Prim.Native.Nat.{ℕ, zero, suc, ◌+◌, ◌-◌, ◌*◌, ◌≤◌, min}
use native.Mathlib.Omega.{arith}
use native.Mathlib.Nat.{zero-sub, sub-zero, suc-sub-suc}
use mathlib.Core.Path.{◌≡◌, refl, sym, ap, ◌∙◌}
use mathlib.Core.Bool.{Bool}
use mathlib.Core.List.{List, [], ◌∷◌, ◌++◌, append_assoc}
use lib.ListN.{length, take, drop, replicate, length-append, length-take, length-drop, length-replicate}
use lib.Seq.{take-nil, drop-nil, take_all, take-append-add, drop-append-add}
use Rattle.field.specs.Field.{Bytes}
use Rattle.field.proofs.Fields.{bytes_take, bytes_drop, bytes_append}
use Rattle.checksum.specs.Damage.{low_bits, bits, Turned}
use Rattle.checksum.proofs.Bits.{length_low, bits_append}

module _ {A : Type 0} where
  pub take_append : (m : ℕ) (a b : List A) → take m (a ++ b) ≡ take m a ++ take (m - length a) b
  take_append zero a b = rw zero-sub
  take_append (suc m) [] b = rw sub-zero
  take_append (suc m) (x ∷ a) b = rw suc-sub-suc (ap (λ (l : List A). x ∷ l) (take_append m a b))

  pub drop_append : (m : ℕ) (a b : List A) → drop m (a ++ b) ≡ drop m a ++ drop (m - length a) b
  drop_append zero a b = rw zero-sub
  drop_append (suc m) [] b = rw sub-zero
  drop_append (suc m) (x ∷ a) b = rw suc-sub-suc (drop_append m a b)

eight : (b n : ℕ) → 8 * suc n ≡ length (low_bits 8 b) + 8 * n
eight b n = omega (arith, length_low 8 b)

pub bits_take : (n : ℕ) (l : List ℕ) → bits (take n l) ≡ take (8 * n) (bits l)
unfolding bits
bits_take zero l = refl
bits_take (suc n) [] = sym (take-nil (8 * suc n))
bits_take (suc n) (b ∷ l) = rw (eight b n, take-append-add, bits_take n l)

pub bits_drop : (n : ℕ) (l : List ℕ) → bits (drop n l) ≡ drop (8 * n) (bits l)
unfolding bits
bits_drop zero l = refl
bits_drop (suc n) [] = sym (drop-nil (8 * suc n))
bits_drop (suc n) (b ∷ l) = rw (eight b n, drop-append-add, bits_drop n l)

-- a span of at most 16 bits of which 16 are left is left whole
take_whole : (k : ℕ) (x y : List Bool) (b : Bool) → length x ≤ 16 → take k x ≡ replicate 16 b → length y ≡ length x → take k y ≡ y
take_whole k x y b h e g = take_all k y (omega (arith, sym (length-take k x) ∙ ap length e, length-replicate 16 b))

drop_whole : (k : ℕ) (x y : List Bool) (b : Bool) → length x ≤ 16 → drop k x ≡ replicate 16 b → drop k y ≡ y
drop_whole k x y b h e = ap (λ (n : ℕ). drop n y) (none k x h (sym (length-drop k x) ∙ ap length e))
  where
    none : (k : ℕ) (x : List Bool) → length x ≤ 16 → length x - k ≡ 16 → k ≡ 0
    none k x h e = omega arith

pub turned_take : (n : ℕ) {s a : List ℕ} → Turned s a → Turned (take n s) (take n a)
turned_take n {s} {a} t =
    let m = 8 * n in
    let p = t.before in
    let k = m - length p in
    record {
      same_length = length-take n a ∙ ap (min n) t.same_length ∙ sym (length-take n s);
      bytes = bytes_take n a t.bytes;
      before = take m p;
      span = take k t.span;
      turned = take k t.turned;
      after = take (k - length t.span) t.after;
      sent_bits = bits_take n s ∙ ap (take m) t.sent_bits ∙ rw (take_append m p, take_append k t.span);
      arrived_bits = bits_take n a ∙ ap (take m) t.arrived_bits ∙ rw (take_append m p, take_append k t.turned, t.same_span);
      short = omega (arith, length-take k t.span, t.short);
      same_span = length-take k t.turned ∙ ap (min k) t.same_span ∙ sym (length-take k t.span);
      not_all = λ b e f. t.not_all b
          (sym (take_whole k t.span t.span b (omega (arith, t.short)) e refl) ∙ e)
          (sym (take_whole k t.span t.turned b (omega (arith, t.short)) e t.same_span) ∙ f);
    }

pub turned_drop : (n : ℕ) {s a : List ℕ} → Turned s a → Turned (drop n s) (drop n a)
turned_drop n {s} {a} t =
    let m = 8 * n in
    let p = t.before in
    let k = m - length p in
    record {
      same_length = length-drop n a ∙ ap (λ (x : ℕ). x - n) t.same_length ∙ sym (length-drop n s);
      bytes = bytes_drop n a t.bytes;
      before = drop m p;
      span = drop k t.span;
      turned = drop k t.turned;
      after = drop (k - length t.span) t.after;
      sent_bits = bits_drop n s ∙ ap (drop m) t.sent_bits ∙ rw (drop_append m p, drop_append k t.span);
      arrived_bits = bits_drop n a ∙ ap (drop m) t.arrived_bits ∙ rw (drop_append m p, drop_append k t.turned, t.same_span);
      short = omega (arith, length-drop k t.span, t.short);
      same_span = length-drop k t.turned ∙ ap (λ (x : ℕ). x - k) t.same_span ∙ sym (length-drop k t.span);
      not_all = λ b e f. t.not_all b
          (sym (drop_whole k t.span t.span b (omega (arith, t.short)) e) ∙ e)
          (sym (drop_whole k t.span t.turned b (omega (arith, t.short)) e) ∙ f);
    }

pub turned_front : (x : List ℕ) {s a : List ℕ} → Bytes x → Turned s a → Turned (x ++ s) (x ++ a)
turned_front x {s} {a} p t =
    record {
      same_length = length-append x a ∙ ap (λ (n : ℕ). length x + n) t.same_length ∙ sym (length-append x s);
      bytes = bytes_append x a p t.bytes;
      before = bits x ++ t.before;
      span = t.span;
      turned = t.turned;
      after = t.after;
      sent_bits = bits_append x s ∙ rw (t.sent_bits, append_assoc);
      arrived_bits = bits_append x a ∙ rw (t.arrived_bits, append_assoc);
      short = omega (arith, t.short);
      same_span = t.same_span;
      not_all = t.not_all;
    }

pub turned_behind : (x : List ℕ) {s a : List ℕ} → Bytes x → Turned s a → Turned (s ++ x) (a ++ x)
turned_behind x {s} {a} p t =
    record {
      same_length = length-append a x ∙ ap (λ (n : ℕ). n + length x) t.same_length ∙ sym (length-append s x);
      bytes = bytes_append a x t.bytes p;
      before = t.before;
      span = t.span;
      turned = t.turned;
      after = t.after ++ bits x;
      sent_bits = bits_append s x ∙ ap (λ (l : List Bool). l ++ bits x) t.sent_bits ∙ simp append_assoc;
      arrived_bits = bits_append a x ∙ ap (λ (l : List Bool). l ++ bits x) t.arrived_bits ∙ simp append_assoc;
      short = t.short;
      same_span = t.same_span;
      not_all = t.not_all;
    }
