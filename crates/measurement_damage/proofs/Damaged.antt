-- The heart of the damage theorem, for both versions: addresses and segment, of which one span was turned, are refused or read the same.
use Prim.Native.Nat.{ℕ, ◌+◌, ◌-◌, ◌%◌, ◌≤◌}
use native.Mathlib.Omega.{arith}
use native.Mathlib.Nat.{zero-add, min-le_left}
use mathlib.Core.Path.{◌≡◌, refl, sym, ap, ap₂, ◌∙◌}
use mathlib.Core.List.{List, ◌++◌}
use mathlib.Core.Bool.{false}
use mathlib.Core.Logic.{◌⊎◌, inl, inr}
use lib.Dec.{eqb}
use lib.ListN.{length, drop, get_or, length-take, length-drop}
use borrow.Author.Tests.{eqb-true, not-false}
use Rattle.field.specs.Field.{Bytes, value_of, bytes_at, field}
use Rattle.field.proofs.Fields.{length_bytes_at, bytes_at_drop, bytes_at_same, split_off}
use Rattle.checksum.specs.Sum.{sum_of, fold_of, checksum_of}
use Rattle.checksum.specs.Damage.{Turned}
use Rattle.checksum.proofs.Carries.{Same, split, fold_same}
use Rattle.checksum.proofs.Sums.{sum_append}
use Rattle.checksum.proofs.Burst.{burst_same}
use Rattle.checksum.proofs.Spot.{spot, kept_ahead, kept_behind}
use Rattle.measurement.specs.Flow.{address_length}
use Rattle.measurement.specs.Pseudo.{pseudo_header}
use Rattle.measurement.specs.declared.DecodedTpdu.{DecodedTpdu}
use Rattle.measurement.specs.declared.IpVersion.{IpVersion}
use Rattle.measurement.specs.declared.IpVersion.TheVariants.{V4, V6}
use Rattle.measurement_reading.specs.Read.{payload, length_wrong, sum_wrong, tpdu_with, tpdu_of}
use Rattle.measurement.proofs.Pseudo.{pseudo_even, pseudo_sum}
use Rattle.measurement_reading.proofs.Rows.{length_right}
use Rattle.measurement_reading.proofs.Accept.{Part, verifies}
use Rattle.measurement_reading.proofs.Padding.{payload_at, filled_sum}

equal_or : {C : Type 0} (x y : ℕ) → (x ≡ y → C) → ((x ≡ y → ⊥) → C) → C
equal_or x y f g = split x y (λ l. g (λ e. omega arith)) (λ l. split y x (λ k. g (λ e. omega arith)) (λ k. f (omega arith)))

-- a T-PDU from its addresses on: source, destination, UDP segment. For both versions these stand side by side.
module _ (v : IpVersion) where
  abbrev pub source_in : List ℕ → List ℕ
  source_in l = bytes_at (address_length v) 0 l

  abbrev pub destination_in : List ℕ → List ℕ
  destination_in l = bytes_at (address_length v) (address_length v) l

  abbrev pub segment_in : List ℕ → List ℕ
  segment_in l = drop (address_length v + address_length v) l

  tail_sum : (l : List ℕ) → length l ≡ address_length v + address_length v + 32 → address_length v % 2 ≡ 0
      → sum_of l ≡ sum_of (source_in l) + sum_of (destination_in l) + sum_of (segment_in l)
  tail_sum l h e =
      let w = address_length v in
      ap sum_of (split_off w 0 l (omega arith) ∙ ap (λ (n : ℕ). source_in l ++ drop n l) (zero-add w))
      ∙ sum_append (source_in l) (drop w l) (ap (λ (n : ℕ). n % 2) (length_bytes_at w 0 l) ∙ e)
      ∙ ap (λ (n : ℕ). sum_of (source_in l) + n)
      (ap sum_of (split_off w w l (omega arith)) ∙ sum_append (destination_in l) (segment_in l) (ap (λ (n : ℕ). n % 2) (length_bytes_at w w l) ∙ e))
      ∙ plus (sum_of (source_in l)) (sum_of (destination_in l)) (sum_of (segment_in l))
    where
      plus : (a b c : ℕ) → a + (b + c) ≡ a + b + c
      plus a b c = omega arith

  -- the sum over pseudo-header and segment is that over the list from the addresses on, and 49: protocol 17 and length 32
  pub segment_sum : (l : List ℕ) → length l ≡ address_length v + address_length v + 32 → address_length v % 2 ≡ 0
      → sum_of (pseudo_header v (source_in l) (destination_in l) 32 ++ segment_in l) ≡ sum_of l + 49
  segment_sum l h e =
      let w = address_length v in
      let s = length_bytes_at w 0 l in
      let d = length_bytes_at w w l in
      sum_append (pseudo_header v (source_in l) (destination_in l) 32) (segment_in l) (pseudo_even v (source_in l) (destination_in l) 32 s d)
      ∙ ap (λ (k : ℕ). k + sum_of (segment_in l)) (pseudo_sum v (source_in l) (destination_in l) 32 s d (omega arith))
      ∙ plus (sum_of (source_in l)) (sum_of (destination_in l)) (sum_of (segment_in l)) ∙ ap (λ (k : ℕ). k + 49) (sym (tail_sum l h e))
    where
      plus : (a b c : ℕ) → a + b + (17 + 32) + c ≡ a + b + c + 49
      plus a b c = omega arith

  right_sum : (l : List ℕ) → length l ≡ address_length v + address_length v + 32 → address_length v % 2 ≡ 0 → field 2 4 (segment_in l) ≡ 32
      → sum_wrong v (source_in l) (destination_in l) (segment_in l) ≡ false → fold_of (sum_of l + 49) ≡ 65535
  right_sum l h e fills s =
      let u = segment_in l in
      let n : length u ≡ 32 = length-drop (address_length v + address_length v) l ∙ omega arith in
      let summed : ℕ → List ℕ = λ k. pseudo_header v (source_in l) (destination_in l) k ++ u in
      let z = not-false (eqb (checksum_of (summed (length u))) 0) (sym (filled_sum v (source_in l) (destination_in l) u (fills ∙ sym n)) ∙ s) in
      ap fold_of (sym (segment_sum l h e) ∙ ap (λ (k : ℕ). sum_of (summed k)) (sym n)) ∙ verifies (summed (length u)) (eqb-true (checksum_of (summed (length u))) 0 z)

  less_49 : (a b : ℕ) → Same (a + 49) (b + 49) → Same a b
  less_49 a b s = record { left = s.left; right = s.right; eq = omega (arith, s.eq) }

  -- both sums right: nothing was turned, by the damage law
  by_sum : (l l' : List ℕ) → Bytes l → Turned l l' → length l ≡ address_length v + address_length v + 32 → address_length v % 2 ≡ 0 → fold_of (sum_of l + 49) ≡ 65535
      → field 2 4 (segment_in l') ≡ 32 → sum_wrong v (source_in l') (destination_in l') (segment_in l') ≡ false → l' ≡ l
  by_sum l l' b t h e s fills s' =
      burst_same l l' b t (less_49 (sum_of l) (sum_of l') (fold_same (sum_of l + 49) (sum_of l' + 49) (s ∙ sym (right_sum l' (t.same_length ∙ h) e fills s'))))

-- IPv4, the checksum field turned to 0: what is read lies out of the span's reach
module _ (l l' : List ℕ) (b : Bytes l) (t : Turned l l') where
  out_of_reach : (field 2 14 l ≡ 0 → ⊥) → field 2 14 l' ≡ 0 → (j : ℕ) → (j ≤ 11) ⊎ (18 ≤ j) → get_or l' j 0 ≡ get_or l j 0
  out_of_reach nz z j far =
      equal_or (get_or l' 14 0) (get_or l 14 0)
      (λ e. equal_or (get_or l' 15 0) (get_or l 15 0) (λ f. absurd (nz (omega arith))) (λ f. side 15 f (omega arith) (omega arith) far))
      (λ f. side 14 f (omega arith) (omega arith) far)
    where
      side : (i : ℕ) → (get_or l' i 0 ≡ get_or l i 0 → ⊥) → 14 ≤ i → i ≤ 15 → (j ≤ 11) ⊎ (18 ≤ j) → get_or l' j 0 ≡ get_or l j 0
      side i c lo hi (inl h) = kept_ahead (spot b t) i j c (omega arith)
      side i c lo hi (inr h) = kept_behind (spot b t) i j c (omega arith)

-- a part of 32 bytes with a whole probe has the UDP length 32
whole_length : (u : List ℕ) → length u ≡ 32 → length_wrong u ≡ false → 24 ≤ length (payload u) → field 2 4 u ≡ 32
unfolding payload
whole_length u h r k =
    let q = length_right u r in
    omega (arith, length-take (field 2 4 u - 8) (drop 8 u), min-le_left (field 2 4 u - 8) (length (drop 8 u)))

abbrev made : List ℕ → List ℕ → List ℕ → List ℕ → List ℕ → List ℕ → DecodedTpdu
made src dst sp dp s t = tpdu_with V4 src dst (value_of sp) (value_of dp) (value_of s) (value_of t)

zero_field : (l l' : List ℕ) → Bytes l → Turned l l' → length (drop 8 l') ≡ 32 → (field 2 6 (drop 8 l) ≡ 0 → ⊥) → field 2 6 (drop 8 l') ≡ 0
    → field 2 4 (drop 8 l) ≡ 32 → length_wrong (drop 8 l') ≡ false → 24 ≤ length (payload (drop 8 l'))
    → tpdu_of V4 (bytes_at 4 0 l') (bytes_at 4 4 l') (drop 8 l') ≡ tpdu_of V4 (bytes_at 4 0 l) (bytes_at 4 4 l) (drop 8 l)
zero_field l l' b t n nz z len right long =
    let u = drop 8 l in
    let u' = drop 8 l' in
    let far = out_of_reach l l' b t (λ e. nz (ap value_of (sym (bytes_at_drop 2 8 6 l)) ∙ e)) (ap value_of (bytes_at_drop 2 8 6 l') ∙ z) in
    let len' = whole_length u' n right long in
    let src = bytes_at_same 4 0 l' l (λ i x y. far i (inl (omega arith))) in
    let dst = bytes_at_same 4 4 l' l (λ i x y. far i (inl (omega arith))) in
    let sp = seg 2 0 (bytes_at_same 2 8 l' l (λ i x y. far i (inl (omega arith)))) in
    let dp = seg 2 2 (bytes_at_same 2 10 l' l (λ i x y. far i (inl (omega arith)))) in
    let s = payload_at u' 8 8 (omega (arith, len')) ∙ seg 8 16 (bytes_at_same 8 24 l' l (λ i x y. far i (inr (omega arith)))) ∙ sym (payload_at u 8 8 (omega (arith, len))) in
    let t = payload_at u' 8 16 (omega (arith, len')) ∙ seg 8 24 (bytes_at_same 8 32 l' l (λ i x y. far i (inr (omega arith)))) ∙ sym (payload_at u 8 16 (omega (arith, len))) in
    ap₂ (λ (a b : List ℕ). made a b (bytes_at 2 0 u') (bytes_at 2 2 u') (bytes_at 8 8 (payload u')) (bytes_at 8 16 (payload u'))) src dst
    ∙ ap₂ (λ (a b : List ℕ). made (bytes_at 4 0 l) (bytes_at 4 4 l) a b (bytes_at 8 8 (payload u')) (bytes_at 8 16 (payload u'))) sp dp
    ∙ ap₂ (λ (a b : List ℕ). made (bytes_at 4 0 l) (bytes_at 4 4 l) (bytes_at 2 0 u) (bytes_at 2 2 u) a b) s t
  where
    seg : (k at : ℕ) → bytes_at k (8 + at) l' ≡ bytes_at k (8 + at) l → bytes_at k at (drop 8 l') ≡ bytes_at k at (drop 8 l)
    seg k at e = sym (bytes_at_drop k 8 at l') ∙ e ∙ bytes_at_drop k 8 at l

-- the sum is right: nothing was turned
summed_same : (v : IpVersion) (l l' : List ℕ) (r : DecodedTpdu) → Bytes l → Turned l l' → length l ≡ address_length v + address_length v + 32 → address_length v % 2 ≡ 0
    → fold_of (sum_of l + 49) ≡ 65535 → Part v (source_in v l') (destination_in v l') (segment_in v l') r → sum_wrong v (source_in v l') (destination_in v l') (segment_in v l') ≡ false
    → r ≡ tpdu_of v (source_in v l) (destination_in v l) (segment_in v l)
summed_same v l l' r b t h even s q e =
    let n : length (segment_in v l') ≡ 32 = length-drop (address_length v + address_length v) l' ∙ omega (arith, t.same_length) in
    q.is
    ∙ ap (λ (m : List ℕ). tpdu_of v (source_in v m) (destination_in v m) (segment_in v m))
    (by_sum v l l' b t h even s (whole_length (segment_in v l') n q.right q.long) e)

pub same_reading : (v : IpVersion) (l l' : List ℕ) (r : DecodedTpdu) → Bytes l → Turned l l' → length l ≡ address_length v + address_length v + 32
    → fold_of (sum_of l + 49) ≡ 65535 → field 2 4 (segment_in v l) ≡ 32 → (field 2 6 (segment_in v l) ≡ 0 → ⊥)
    → Part v (source_in v l') (destination_in v l') (segment_in v l') r → r ≡ tpdu_of v (source_in v l) (destination_in v l) (segment_in v l)
unfolding address_length
same_reading V4 l l' r b t h s len nz q = go q.summed
  where
    go : ((V4 ≡ V4) × (field 2 6 (drop 8 l') ≡ 0)) ⊎ (sum_wrong V4 (source_in V4 l') (destination_in V4 l') (segment_in V4 l') ≡ false)
        → r ≡ tpdu_of V4 (source_in V4 l) (destination_in V4 l) (segment_in V4 l)
    go (inr e) = summed_same V4 l l' r b t h refl s q e
    go (inl z) = q.is ∙ zero_field l l' b t (length-drop 8 l' ∙ omega (arith, t.same_length)) nz z.1 len q.right q.long
same_reading V6 l l' r b t h s len nz q = go q.summed
  where
    go : ((V6 ≡ V4) × (field 2 6 (drop 32 l') ≡ 0)) ⊎ (sum_wrong V6 (source_in V6 l') (destination_in V6 l') (segment_in V6 l') ≡ false)
        → r ≡ tpdu_of V6 (source_in V6 l) (destination_in V6 l) (segment_in V6 l)
    go (inr e) = summed_same V6 l l' r b t h refl s q e
    go (inl z) = absurd (let e = z.0 in let n : ◌≡◌ {A = ℕ} 0 1 = cc in omega arith)
