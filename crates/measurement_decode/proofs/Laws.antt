-- What the code of the reader computes, in the definitions' terms.
use Prim.Native.Nat.{ℕ, suc, ◌+◌, ◌-◌, ◌*◌, ◌/◌, ◌<◌, ◌≤◌}
use native.Mathlib.Omega.{arith}
use native.Mathlib.Nat.{min-le_left, add-zero}
use mathlib.Core.Path.{◌≡◌, refl, sym, ap, ap₂, ◌∙◌}
use mathlib.Core.List.{List, ◌++◌}
use mathlib.Core.Bool.{Bool, true, false, not}
use mathlib.Core.Logic.{◌⊎◌, inl, inr}
use lib.Dec.{eqb}
use lib.ListN.{length, take, drop, get_or, replicate, length-take, length-drop}
use Rattle.std.proofs.lemmas.List.{drop-replicate}
use Rattle.std.proofs.lemmas.Result.{err_from_is_err_and}
use borrow.Author.Tests.{eq-eqb, ne_eqb, eqb-true, eqb-false}
use Rattle.error.specs.Outcome.{Outcome, refused, gives}
use Rattle.error.proofs.Causes.{refused_gives}
use Rattle.field.specs.Field.{bytes_at, field}
use Rattle.field.proofs.Fields.{front_bytes, length_bytes_at, bytes_at_drop, bytes_at_take}
use Rattle.checksum.specs.Sum.{sum_of, fold_of, checksum_of}
use Rattle.checksum.proofs.Carries.{fold_low}
use Rattle.checksum.proofs.Sums.{sum_append}
use Rattle.measurement.specs.Flow.{address_length, address, padded}
use Rattle.measurement.specs.Pseudo.{pseudo_header}
use Rattle.measurement.specs.declared.DecodedTpdu.{DecodedTpdu}
use Rattle.measurement.specs.declared.IpVersion.{IpVersion}
use Rattle.measurement.specs.declared.IpVersion.TheVariants.{V4, V6}
use Rattle.measurement_reading.specs.Read.{covered, payload, length_wrong, sum_wrong, tpdu_of, read_udp, ihl, read_of}
use Rattle.measurement.proofs.Pseudo.{pseudo_even, pseudo_sum, Folds, folds_both}
use Rattle.measurement_reading.proofs.Rows.{tpdu_rows, row_1, past_1, row_2, past_2_ipv4, past_2_ipv6, ipv4_rows, row_3, past_3, row_4, past_4, row_39, past_39, row_5_low, row_5_past, past_5, row_6_ipv4, past_6_ipv4, row_7, past_7, row_38, past_38, ipv6_rows, row_8, past_8, row_6_ipv6, past_6_ipv6, row_9_low, row_9_past, past_9, udp_rows, row_10, past_10, row_11, past_11, past_11_unsummed, row_12, past_12, past_12_unsummed, probe_rows, row_13, past_13, row_14, past_14}
use Rattle.measurement_reading.proofs.Accept.{part_accepted, accepted, Given}
use Rattle.measurement_decode.specs.Part.{Addresses, HasProbe}
use Rattle.measurement_decode.specs.Numbers.{verdict, values_of, tpdu_numbers, source_left, destination_left}
use Rattle.measurement_decode.specs.declared.TpduNumbers.{TpduNumbers}

-- 2 bytes, and 8, one by one
pub two : (s : List ℕ) (at : ℕ) {n : ℕ} → n ≡ get_or s at 0 * 256 + get_or s (at + 1) 0 → n ≡ field 2 at s
two s at e =
    let low : get_or s (at + 1) 0 ≡ get_or s (suc at) 0 = ap (λ (k : ℕ). get_or s k 0) (omega arith) in
    omega arith

pub eight : (s : List ℕ) (at : ℕ) {a b c d e f g h : ℕ}
    → a ≡ get_or s at 0 → b ≡ get_or s (at + 1) 0 → c ≡ get_or s (at + 2) 0 → d ≡ get_or s (at + 3) 0
    → e ≡ get_or s (at + 4) 0 → f ≡ get_or s (at + 5) 0 → g ≡ get_or s (at + 6) 0 → h ≡ get_or s (at + 7) 0
    → a * 72057594037927936 + b * 281474976710656 + c * 1099511627776 + d * 4294967296 + (e * 16777216 + f * 65536 + g * 256 + h) ≡ field 8 at s
eight s at p0 p1 p2 p3 p4 p5 p6 p7 =
    let x1 = p1 ∙ ap (λ (n : ℕ). get_or s n 0) (place 1 (suc at) (omega arith)) in
    let x2 = p2 ∙ ap (λ (n : ℕ). get_or s n 0) (place 2 (suc (suc at)) (omega arith)) in
    let x3 = p3 ∙ ap (λ (n : ℕ). get_or s n 0) (place 3 (suc (suc (suc at))) (omega arith)) in
    let x4 = p4 ∙ ap (λ (n : ℕ). get_or s n 0) (place 4 (suc (suc (suc (suc at)))) (omega arith)) in
    let x5 = p5 ∙ ap (λ (n : ℕ). get_or s n 0) (place 5 (suc (suc (suc (suc (suc at))))) (omega arith)) in
    let x6 = p6 ∙ ap (λ (n : ℕ). get_or s n 0) (place 6 (suc (suc (suc (suc (suc (suc at)))))) (omega arith)) in
    let x7 = p7 ∙ ap (λ (n : ℕ). get_or s n 0) (place 7 (suc (suc (suc (suc (suc (suc (suc at))))))) (omega arith)) in
    omega arith
  where
    place : (k m : ℕ) → at + k ≡ m → at + k ≡ m
    place k m e = e

-- the sum that is tested: of the addresses, the rest of the pseudo-header, and the segment, whose length is the UDP length n
pub sum_tested : (v : IpVersion) (src dst u : List ℕ) {n addresses s : ℕ} → Addresses v src dst addresses → n ≡ field 2 4 u → n < 65536
    → s ≡ fold_of (addresses + 17 + n + sum_of (take n u)) → not (eqb s 65535) ≡ sum_wrong v src dst u
unfolding sum_wrong covered checksum_of
sum_tested v src dst u {n} {addresses} {s} a en fits es =
    let ph = pseudo_header v src dst n in
    let segment = take n u in
    let even = pseudo_even v src dst n a.source a.destination in
    let rest = 17 + n + sum_of segment in
    let last : addresses + 17 + n + sum_of segment ≡ rest + addresses = omega arith in
    let whole : rest + (sum_of src + sum_of dst) ≡ sum_of (ph ++ segment) = omega (arith, pseudo_sum v src dst n a.source a.destination fits, sum_append ph segment even) in
    let e : s ≡ fold_of (sum_of (ph ++ segment)) = es ∙ ap fold_of last ∙ a.folds rest ∙ ap fold_of whole in
    ap (λ (n : ℕ). not (eqb n 65535)) e ∙ ap not (complement (fold_of (sum_of (ph ++ segment))) (fold_low (sum_of (ph ++ segment))))
    ∙ ap (λ (n : ℕ). not (eqb (65535 - fold_of (sum_of (pseudo_header v src dst n ++ take n u))) 0)) en
  where
    complement : (n : ℕ) → n < 65536 → eqb n 65535 ≡ eqb (65535 - n) 0
    complement n h = go (eqb n 65535) refl
      where
        go : (b : Bool) → eqb n 65535 ≡ b → eqb n 65535 ≡ eqb (65535 - n) 0
        go true e = let q = eqb-true n 65535 e in e ∙ sym (eq-eqb (65535 - n) 0 (omega arith))
        go false e = e ∙ sym (ne_eqb (65535 - n) 0 (λ z. eqb-false n 65535 e (omega arith)))

-- what a judge says of an outcome
pub refuses : {A : Type 0} {o : Outcome A} {n : ℕ} → refused n ≡ o → refused n ≡ verdict o
refuses e = ap verdict e

pub judged_refused : {A : Type 0} (o : Outcome A) {n : ℕ} → refused n ≡ verdict o → refused n ≡ o
judged_refused (refused m) e = ap refused cc
judged_refused (gives x) e = absurd (refused_gives e)

pub judged_given : (p : List ℕ) → gives tt ≡ verdict (read_of p) → Given p
judged_given p = go (read_of p) refl
  where
    go : (o : Outcome DecodedTpdu) → read_of p ≡ o → gives tt ≡ verdict o → Given p
    go (refused n) e j = absurd (refused_gives (sym j))
    go (gives t) e j = record { tpdu = t; is = e }

pub ipv4_width : address_length V4 ≡ 4
unfolding address_length
ipv4_width = refl

pub ipv6_width : address_length V6 ≡ 16
unfolding address_length
ipv6_width = refl

-- the rows of every judge: a `search` goes by them from a way out back to the first test
pub ruleset judging = (refuses, ipv4_width, ipv6_width, tpdu_rows, row_1, past_1, row_2, past_2_ipv4, past_2_ipv6, ipv4_rows, row_3, past_3, row_4, past_4, row_39, past_39, row_5_low, row_5_past, past_5, row_6_ipv4, past_6_ipv4, row_7, past_7, row_38, past_38, ipv6_rows, row_8, past_8, row_6_ipv6, past_6_ipv6, row_9_low, row_9_past, past_9, udp_rows, row_10, past_10, row_11, past_11, past_11_unsummed, row_12, past_12, past_12_unsummed, probe_rows, row_13, past_13, row_14, past_14)

-- a part of at most this many bytes
pub part_short : (m : ℕ) (l : List ℕ) → m < 65536 → length (take m l) < 65536
part_short m l h = simp length-take (omega (arith, min-le_left m (length l)))

-- the front of a part of a packet
pub part_front : (width at end : ℕ) (l : List ℕ) → at + width ≤ end → bytes_at width 0 (take (end - at) (drop at l)) ≡ bytes_at width at l
part_front width at end l h =
    bytes_at_take width (end - at) 0 (drop at l) (omega arith) ∙ sym (bytes_at_drop width at 0 l) ∙ ap (λ (n : ℕ). bytes_at width n l) (add-zero at)

-- an address, copied to the front of 16 zeros
pub address_copied : (l : List ℕ) (at width : ℕ) → at + width ≤ length l
    → take (at + width - at) (drop at l) ++ drop width (replicate 16 0) ≡ padded (bytes_at width at l)
unfolding padded
address_copied l at width h =
    let k : at + width - at ≡ width = omega arith in
    let front : take (at + width - at) (drop at l) ≡ bytes_at width at l =
    ap (λ (n : ℕ). take n (drop at l)) k ∙ front_bytes width (drop at l) (simp length-drop (omega arith))
    ∙ sym (bytes_at_drop width at 0 l) ∙ ap (λ (n : ℕ). bytes_at width n l) (add-zero at) in
    let rest : drop width (replicate 16 0) ≡ replicate (16 - length (bytes_at width at l)) 0 = rw (length_bytes_at width at l) (drop-replicate width 16 0) in
    ap₂ (λ (x y : List ℕ). x ++ y) front rest

-- where an address ends
pub four_at_least : (v : IpVersion) → 4 ≤ address_length v
unfolding address_length
four_at_least V4 = omega arith
four_at_least V6 = omega arith

pub sixteen : (v : IpVersion) → v ≡ V6 → address_length v ≡ 16
unfolding address_length
sixteen v e = ap address_length e

-- the two addresses of a packet, which stand one behind the other
pub addresses : (v : IpVersion) (p : List ℕ) (a b c x y : ℕ) → a + address_length v ≤ b → b + address_length v ≤ c
    → Folds x (sum_of (address v (take (b - a) (drop a p)))) → Folds y (sum_of (address v (take (c - b) (drop b p))))
    → Addresses v (bytes_at (address_length v) a p) (bytes_at (address_length v) b p) (x + y)
unfolding address
addresses v p a b c x y h k ex ey =
    let width = address_length v in
    let at : ℕ → ℕ = λ i. sum_of (bytes_at width i p) in
    record {
      source = length_bytes_at width a p;
      destination = length_bytes_at width b p;
      folds = folds_both x (at a) y (at b) (λ n. ex n ∙ ap (λ (l : List ℕ). fold_of (n + sum_of l)) (part_front width a b p h)) (λ n. ey n ∙ ap (λ (l : List ℕ). fold_of (n + sum_of l)) (part_front width b c p k));
    }

-- a part that was accepted, under another name; and its payload as the code cuts it
pub has_probe : {u v : List ℕ} → u ≡ v → HasProbe v → HasProbe u
has_probe e h = record { right = ap length_wrong e ∙ h.right; long = omega (arith, ap (λ (l : List ℕ). length (payload l)) e, h.long) }

pub payload_long : (u : List ℕ) {n : ℕ} → n ≡ field 2 4 u → HasProbe u → 24 ≤ length (take (n - 8) (drop 8 u))
unfolding payload
payload_long u e h = omega (arith, ap (λ (k : ℕ). length (take (k - 8) (drop 8 u))) e, h.long)

-- the values of a part, as the code reads them
pub values_are : (v : IpVersion) (src dst u : List ℕ) {n a b s t : ℕ} → n ≡ field 2 4 u → a ≡ field 2 0 u → b ≡ field 2 2 u
    → s ≡ field 8 8 (take (n - 8) (drop 8 u)) → t ≡ field 8 16 (take (n - 8) (drop 8 u))
    → record { sequence = s; src_port = a; send_timestamp_ns = t; version = v; dst_port = b } ≡ values_of (tpdu_of v src dst u)
unfolding payload
values_are v src dst u {n} {a} {b} {s} {t} en ea eb es et =
    let body : ℕ → List ℕ = λ k. take (k - 8) (drop 8 u) in
    let es' = es ∙ ap (λ (k : ℕ). field 8 8 (body k)) en in
    let et' = et ∙ ap (λ (k : ℕ). field 8 16 (body k)) en in
    ap₂ (λ (a b : ℕ). made s a t b) ea eb ∙ ap₂ (λ (s t : ℕ). made s (field 2 0 u) t (field 2 2 u)) es' et'
  where
    made : ℕ → ℕ → ℕ → ℕ → TpduNumbers
    made s a t b = record { sequence = s; src_port = a; send_timestamp_ns = t; version = v; dst_port = b }

-- an IPv4 packet that was not refused, and an IPv6 packet: where its part lies, and what it reads as
pub record Ipv4 (p : List ℕ) : Type 0 where
  pub low : 5 ≤ ihl p
  pub fits : ihl p * 4 + 8 ≤ field 2 2 p
  pub within : field 2 2 p ≤ length p
  pub part : HasProbe (take (field 2 2 p - ihl p * 4) (drop (ihl p * 4) p))
  pub is : read_of p ≡ gives (tpdu_of V4 (bytes_at 4 12 p) (bytes_at 4 16 p) (take (field 2 2 p - ihl p * 4) (drop (ihl p * 4) p)))

pub record Ipv6 (p : List ℕ) : Type 0 where
  pub within : field 2 4 p + 40 ≤ length p
  pub part : HasProbe (take (field 2 4 p) (drop 40 p))
  pub is : read_of p ≡ gives (tpdu_of V6 (bytes_at 16 8 p) (bytes_at 16 24 p) (take (field 2 4 p) (drop 40 p)))

module _ (p : List ℕ) (judged : gives tt ≡ verdict (read_of p)) where
  read : Given p
  read = judged_given p judged

  has : (v : IpVersion) (src dst u : List ℕ) → read_udp v src dst u ≡ gives read.tpdu → HasProbe u
  has v src dst u e = let a = part_accepted src dst u read.tpdu v e in record { right = a.right; long = a.long }

  either : ((get_or p 0 0 / 16 ≡ 4) × Ipv4 p) ⊎ ((get_or p 0 0 / 16 ≡ 6) × Ipv6 p)
  either = elim (accepted p read.tpdu read.is) [
    | inl q ↦ inl (
      q.0,
      record {
        low = q.1.low;
        fits = q.1.fits;
        within = q.1.within;
        part = has V4 _ _ _ q.1.part;
        is = read.is ∙ ap gives (part_accepted _ _ _ read.tpdu V4 q.1.part).is;
      },
    )
    | inr q ↦ inr (q.0, record { within = q.1.within; part = has V6 _ _ _ q.1.part; is = read.is ∙ ap gives (part_accepted _ _ _ read.tpdu V6 q.1.part).is })
  ]

  pub some_bytes : 0 < length p
  some_bytes = elim either [ inl q ↦ omega (arith, q.1.fits, q.1.within) | inr q ↦ omega (arith, q.1.within) ]

  pub as_ipv4 : get_or p 0 0 / 16 ≡ 4 → Ipv4 p
  as_ipv4 h = elim either [ inl q ↦ q.1 | inr q ↦ absurd (omega (arith, q.0)) ]

  pub as_ipv6 : (get_or p 0 0 / 16 ≡ 4 → ⊥) → Ipv6 p
  as_ipv6 h = elim either [ inl q ↦ absurd (h q.0) | inr q ↦ q.1 ]

  -- where the part lies
  pub ipv4_within : get_or p 0 0 / 16 ≡ 4 → (20 ≤ length p) × (ihl p * 4 ≤ field 2 2 p) × (field 2 2 p ≤ length p)
  ipv4_within h = let r = as_ipv4 h in (omega (arith, r.low, r.fits, r.within), omega (arith, r.fits), r.within)

  pub ipv6_within : (get_or p 0 0 / 16 ≡ 4 → ⊥) → (40 ≤ length p) × (field 2 4 p + 40 ≤ length p)
  ipv6_within h = let r = as_ipv6 h in (omega (arith, r.within), r.within)

-- the part of an IPv4 packet, and of an IPv6 packet, as the code cuts it
pub ipv4_part : (p : List ℕ) {n k : ℕ} → n ≡ field 2 2 p → k ≡ ihl p → take (n - k * 4) (drop (k * 4) p) ≡ take (field 2 2 p - ihl p * 4) (drop (ihl p * 4) p)
ipv4_part p en ek = ap₂ (λ (n k : ℕ). take (n - k * 4) (drop (k * 4) p)) en ek

pub ipv6_part : (p : List ℕ) {n : ℕ} → n ≡ field 2 4 p → take (n + 40 - 40) (drop 40 p) ≡ take (field 2 4 p) (drop 40 p)
ipv6_part p {n} en = let e : n + 40 - 40 ≡ field 2 4 p = omega arith in ap (λ (n : ℕ). take n (drop 40 p)) e

pub padded_whole : (l : List ℕ) (at : ℕ) → bytes_at 16 at l ≡ padded (bytes_at 16 at l)
unfolding padded
padded_whole l at = refl

pub answers_refused : (p : List ℕ) {n : ℕ} → refused n ≡ verdict (read_of p) → refused n ≡ tpdu_numbers (read_of p)
unfolding tpdu_numbers
answers_refused p j = ap tpdu_numbers (judged_refused (read_of p) j)

-- the lent addresses, where reading refuses
pub source_kept : (p lent : List ℕ) {n : ℕ} → refused n ≡ verdict (read_of p) → lent ≡ source_left (read_of p) lent
unfolding source_left
source_kept p lent j = ap (λ (o : Outcome DecodedTpdu). source_left o lent) (judged_refused (read_of p) j)

pub destination_kept : (p lent : List ℕ) {n : ℕ} → refused n ≡ verdict (read_of p) → lent ≡ destination_left (read_of p) lent
unfolding destination_left
destination_kept p lent j = ap (λ (o : Outcome DecodedTpdu). destination_left o lent) (judged_refused (read_of p) j)

pub ruleset reading = (some_bytes, ipv4_within, ipv6_within, answers_refused, source_kept, destination_kept, err_from_is_err_and)
