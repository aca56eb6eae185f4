-- What is known of a T-PDU that is not refused, and of an IPv4 header that no row before 38 refuses.
use Prim.Native.Nat.{ℕ, ◌+◌, ◌-◌, ◌*◌, ◌/◌, ◌≤◌}
use native.Mathlib.Omega.{arith}
use mathlib.Core.Path.{◌≡◌, refl, sym, ap, ◌∙◌}
use mathlib.Core.List.{List}
use mathlib.Core.Bool.{Bool, true, false, not, ◌&&◌}
use mathlib.Core.Logic.{◌⊎◌, inl, inr}
use lib.Dec.{ltb, eqb}
use lib.ListN.{length, take, drop, get_or}
use borrow.Author.Tests.{ltb-false, eqb-true, not-false}
use Rattle.error.specs.Outcome.{Outcome, refused, gives, outcome_number}
use Rattle.error.proofs.Causes.{Passes, passed, passes_from, before, passes_before, first_false}
use Rattle.error.proofs.Tests.{or_neither, true_not_false}
use Rattle.field.specs.Field.{bytes_at, field}
use Rattle.checksum.specs.Sum.{sum_of, checksum_of}
use Rattle.checksum.specs.Claims.{Verifies}
use Rattle.checksum.proofs.Carries.{fold_low}
use Rattle.measurement.specs.declared.DecodedTpdu.{DecodedTpdu}
use Rattle.measurement.specs.declared.IpVersion.{IpVersion}
use Rattle.measurement.specs.declared.IpVersion.TheVariants.{V4, V6}
use Rattle.measurement_reading.specs.Read.{payload, length_wrong, sum_wrong, probe_causes, unsummed, must_be_summed, udp_causes, tpdu_of, read_probe, read_udp, ihl, is_fragment, ipv4_causes, read_ipv4, ipv6_causes, read_ipv6, tpdu_causes, read_of}
use Rattle.measurement_reading.specs.Fragments.{HeaderRight}
use Rattle.measurement_reading.proofs.Numbers.{read_by}

-- a UDP part that was accepted
pub record Part (v : IpVersion) (src dst u : List ℕ) (r : DecodedTpdu) : Type 0 where
  pub right : length_wrong u ≡ false
  pub long : 24 ≤ length (payload u)
  pub summed : ((v ≡ V4) × (field 2 6 u ≡ 0)) ⊎ (sum_wrong v src dst u ≡ false)
  pub is : r ≡ tpdu_of v src dst u

module _ (src dst u : List ℕ) (r : DecodedTpdu) where
  probe_accepted : (v : IpVersion) → read_probe v src dst u ≡ gives r → (24 ≤ length (payload u)) × (r ≡ tpdu_of v src dst u)
  unfolding read_probe probe_causes
  probe_accepted v e =
      let q = passed _ _ r e in
      (ltb-false (length (payload u)) 24 (first_false (passes_from 13 q.0)), cc q.1)

  pub part_accepted : (v : IpVersion) → read_udp v src dst u ≡ gives r → Part v src dst u r
  unfolding read_udp udp_causes
  part_accepted v e =
      let q = passed _ _ r e in
      let p = probe_accepted v q.1 in
      record {
        right = first_false (passes_from 10 q.0);
        long = p.0;
        summed = either v (unsummed u) refl (first_false (passes_from 11 q.0)) (first_false (passes_from 12 q.0));
        is = p.1;
      }
    where
      either : (v : IpVersion) (b : Bool) → unsummed u ≡ b → b && must_be_summed v ≡ false → not b && sum_wrong v src dst u ≡ false
          → ((v ≡ V4) × (field 2 6 u ≡ 0)) ⊎ (sum_wrong v src dst u ≡ false)
      either V4 true z m e = inl (refl, eqb-true (field 2 6 u) 0 z)
      either V6 true z m e = absurd (true_not_false m)
      either v false z m e = inr e

-- an IPv4 packet that was accepted, and an IPv6 packet
pub record Accepted4 (p : List ℕ) (r : DecodedTpdu) : Type 0 where
  pub low : 5 ≤ ihl p
  pub fits : ihl p * 4 + 8 ≤ field 2 2 p
  pub within : field 2 2 p ≤ length p
  pub whole : is_fragment p ≡ false
  pub part : read_udp V4 (bytes_at 4 12 p) (bytes_at 4 16 p) (take (field 2 2 p - ihl p * 4) (drop (ihl p * 4) p)) ≡ gives r

pub record Accepted6 (p : List ℕ) (r : DecodedTpdu) : Type 0 where
  pub udp : get_or p 6 0 ≡ 17
  pub within : field 2 4 p + 40 ≤ length p
  pub part : read_udp V6 (bytes_at 16 8 p) (bytes_at 16 24 p) (take (field 2 4 p) (drop 40 p)) ≡ gives r

-- a list whose checksum is 0 verifies, and no other does
pub verifies : (l : List ℕ) → checksum_of l ≡ 0 → Verifies l
unfolding checksum_of
verifies l e = omega (arith, fold_low (sum_of l))

pub checksum_0 : (l : List ℕ) → Verifies l → 0 ≡ checksum_of l
unfolding checksum_of
checksum_0 l e = omega arith

pub header_right : (p : List ℕ) → Passes (before 38 (ipv4_causes p)) → HeaderRight (ihl p) (field 2 2 p) p
unfolding ipv4_causes
header_right p q =
    let length_5 = or_neither (ltb (field 2 2 p) (ihl p * 4 + 8)) (ltb (length p) (field 2 2 p)) (first_false (passes_from 5 q)) in
    record {
      not_3 = ltb-false _ _ (first_false (passes_from 3 q));
      not_4 = ltb-false _ _ (first_false (passes_from 4 q));
      not_39 = ltb-false _ _ (first_false (passes_from 39 q));
      not_5 = (ltb-false _ _ length_5.0, ltb-false _ _ length_5.1);
      not_6 = eqb-true _ _ (not-false (eqb (get_or p 9 0) 17) (first_false (passes_from 6 q)));
      not_7 = verifies (take (ihl p * 4) p) (eqb-true _ _ (not-false (eqb (checksum_of (take (ihl p * 4) p)) 0) (first_false (passes_from 7 q))));
    }

module _ (p : List ℕ) (r : DecodedTpdu) where
  ipv4_accepted : read_ipv4 p ≡ gives r → Accepted4 p r
  unfolding read_ipv4 ipv4_causes
  ipv4_accepted e =
      let q = passed _ _ r e in
      let h = header_right p (passes_before 38 q.0) in
      record { low = h.not_4; fits = h.not_5.0; within = h.not_5.1; whole = first_false (passes_from 38 q.0); part = q.1 }

  ipv6_accepted : read_ipv6 p ≡ gives r → Accepted6 p r
  unfolding read_ipv6 ipv6_causes
  ipv6_accepted e =
      let q = passed _ _ r e in
      let b = or_neither (ltb (field 2 4 p) 8) (ltb (length p) (field 2 4 p + 40)) (first_false (passes_from 9 q.0)) in
      record { udp = eqb-true _ _ (not-false (eqb (get_or p 6 0) 17) (first_false (passes_from 6 q.0))); within = ltb-false _ _ b.1; part = q.1 }

  pub accepted : read_of p ≡ gives r → ((get_or p 0 0 / 16 ≡ 4) × Accepted4 p r) ⊎ ((get_or p 0 0 / 16 ≡ 6) × Accepted6 p r)
  unfolding read_of tpdu_causes
  accepted e =
      let q = passed _ _ r e in
      go (eqb (get_or p 0 0 / 16) 4) (eqb (get_or p 0 0 / 16) 6) refl refl (first_false (passes_from 2 q.0)) q.1
    where
      go : (a b : Bool) → eqb (get_or p 0 0 / 16) 4 ≡ a → eqb (get_or p 0 0 / 16) 6 ≡ b → not a && not b ≡ false
          → (elim a [ true ↦ read_ipv4 p | false ↦ read_ipv6 p ]) ≡ gives r
          → ((get_or p 0 0 / 16 ≡ 4) × Accepted4 p r) ⊎ ((get_or p 0 0 / 16 ≡ 6) × Accepted6 p r)
      go true b ea eb n f = inl (eqb-true _ _ ea, ipv4_accepted f)
      go false true ea eb n f = inr (eqb-true _ _ eb, ipv6_accepted f)
      go false false ea eb n f = absurd (true_not_false n)

-- no T-PDU is refused by 0, so one whose number is 0 was read
pub read_by_zero : (p : List ℕ) → read_of p ≡ refused 0 → ⊥
read_by_zero p e = true_not_false (sym (read_by p 0 e))

pub record Given (p : List ℕ) : Type 0 where
  pub tpdu : DecodedTpdu
  pub is : read_of p ≡ gives tpdu

pub given : (p : List ℕ) → outcome_number (read_of p) ≡ 0 → Given p
given p = go (read_of p) refl
  where
    go : (o : Outcome DecodedTpdu) → read_of p ≡ o → outcome_number o ≡ 0 → Given p
    go (refused n) e z = absurd (read_by_zero p (e ∙ ap refused z))
    go (gives t) e z = record { tpdu = t; is = e }
