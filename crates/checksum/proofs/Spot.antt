-- Where bits turned within a span of 16, at most three neighbouring bytes differ.
use Prim.Native.Nat.{ℕ, ◌+◌, ◌-◌, ◌*◌, ◌/◌, ◌<◌, ◌≤◌}
use native.Mathlib.Omega.{arith}
use mathlib.Core.Path.{◌≡◌, refl, sym, ap, ap₂, ◌∙◌}
use mathlib.Core.Bool.{Bool}
use mathlib.Core.List.{List, [], ◌++◌}
use lib.ListN.{length, take, drop, get_or, drop_of_length-le}
use lib.Seq.{take-append-le, get_or-take, get_or-drop}
use Rattle.field.specs.Field.{Bytes}
use Rattle.field.proofs.Fields.{bytes_take, bytes_drop}
use Rattle.checksum.specs.Damage.{bits, Turned}
use Rattle.checksum.proofs.Bits.{bits_inj}
use Rattle.checksum.proofs.Carries.{split}
use Rattle.checksum.proofs.Clip.{drop_append, bits_take, bits_drop}

pub record Spot (sent arrived : List ℕ) : Type 0 where
  pub place : ℕ
  pub ahead : take place arrived ≡ take place sent
  pub behind : drop (place + 3) arrived ≡ drop (place + 3) sent

module _ (p after : List Bool) (l : List ℕ) where
  early : (w : List Bool) (n : ℕ) → 8 * n ≤ length p → bits l ≡ p ++ w → bits (take n l) ≡ take (8 * n) p
  early w n h e = bits_take n l ∙ ap (take (8 * n)) e ∙ take-append-le (8 * n) p w h

  late : (w : List Bool) (n k : ℕ) → length w ≡ k → length p + k ≤ 8 * n → bits l ≡ p ++ (w ++ after)
      → bits (drop n l) ≡ drop (8 * n) p ++ ([] ++ drop (8 * n - length p - k) after)
  late w n k ek h e =
      bits_drop n l ∙ ap (drop (8 * n)) e ∙ drop_append (8 * n) p (w ++ after)
      ∙ ap (λ (x : List Bool). drop (8 * n) p ++ x) (drop_append (8 * n - length p) w after)
      ∙ ap₂ (λ (x : List Bool) (i : ℕ). drop (8 * n) p ++ (x ++ drop (8 * n - length p - i) after)) (drop_of_length-le w {i = 8 * n - length p} (omega arith)) ek

pub spot : {s a : List ℕ} → Bytes s → Turned s a → Spot s a
spot {s} {a} b t =
    let p = t.before in
    let n = length p / 8 in
    record {
      place = n;
      ahead = bits_inj (take n a) (take n s) (bytes_take n a t.bytes) (bytes_take n s b)
          (early p t.after a (t.turned ++ t.after) n (omega arith) t.arrived_bits ∙ sym (early p t.after s (t.span ++ t.after) n (omega arith) t.sent_bits));
      behind = bits_inj (drop (n + 3) a) (drop (n + 3) s) (bytes_drop (n + 3) a t.bytes) (bytes_drop (n + 3) s b)
          (late p t.after a t.turned (n + 3) (length t.span) t.same_span (omega (arith, t.short)) t.arrived_bits
          ∙ sym (late p t.after s t.span (n + 3) (length t.span) refl (omega (arith, t.short)) t.sent_bits));
    }

module _ {s a : List ℕ} (q : Spot s a) (i j : ℕ) (changed : get_or a i 0 ≡ get_or s i 0 → ⊥) where
  front : (k : ℕ) → k < q.place → get_or a k 0 ≡ get_or s k 0
  front k h = sym (get_or-take q.place a k 0 h) ∙ ap (λ (l : List ℕ). get_or l k 0) q.ahead ∙ get_or-take q.place s k 0 h

  back : (k : ℕ) → q.place + 3 ≤ k → get_or a k 0 ≡ get_or s k 0
  back k h =
      let e : q.place + 3 + (k - (q.place + 3)) ≡ k = omega arith in
      ap (λ (n : ℕ). get_or a n 0) (sym e) ∙ sym (get_or-drop (q.place + 3) a (k - (q.place + 3)) 0)
      ∙ ap (λ (l : List ℕ). get_or l (k - (q.place + 3)) 0) q.behind
      ∙ get_or-drop (q.place + 3) s (k - (q.place + 3)) 0 ∙ ap (λ (n : ℕ). get_or s n 0) e

  -- a byte that differs leaves those three places on, and three places back, as they were
  pub kept_behind : i + 3 ≤ j → get_or a j 0 ≡ get_or s j 0
  kept_behind h = split i q.place (λ l. absurd (changed (front i l))) (λ l. back j (omega arith))

  pub kept_ahead : j + 3 ≤ i → get_or a j 0 ≡ get_or s j 0
  kept_ahead h = split i (q.place + 3) (λ l. front j (omega arith)) (λ l. absurd (changed (back i l)))
