-- The reader's rows: which facts lead to which answer. Each law is of one row of a table in specs/Read.antt and says nothing of the rows before it:
-- that they were passed is `Left`, of the rows from this one's number on. A row that is passed leaves those from the next one's number on.
use Prim.Native.Nat.{ℕ, ◌+◌, ◌-◌, ◌*◌, ◌/◌, ◌%◌, ◌<◌, ◌≤◌}
use native.Mathlib.Omega.{arith}
use mathlib.Core.Path.{◌≡◌, refl, sym, ap, ap₂, ◌∙◌}
use mathlib.Core.List.{List, [], ◌∷◌}
use mathlib.Core.Bool.{Bool, true, false, not, ◌||◌}
use lib.Dec.{ltb, eqb}
use lib.ListN.{length, take, drop, get_or}
use borrow.Author.Tests.{lt-ltb, le-ltb, ltb-false, eq-eqb, ne_eqb, eqb-true, eqb-false}
use Rattle.error.specs.Outcome.{Outcome, refused, gives}
use Rattle.error.proofs.Causes.{from, Left, stops, goes_on, all_passed}
use Rattle.error.proofs.Tests.{or_left, or_right, or_none, or_neither, and_left, and_right, and_both, differs, equals}
use Rattle.field.specs.Field.{bytes_at, field}
use Rattle.checksum.specs.Sum.{checksum_of}
use Rattle.checksum.proofs.Carries.{split}
use Rattle.measurement.specs.Probe.{measurement_magic}
use Rattle.measurement.specs.declared.DecodedTpdu.{DecodedTpdu}
use Rattle.measurement.specs.declared.IpVersion.{IpVersion}
use Rattle.measurement.specs.declared.IpVersion.TheVariants.{V4, V6}
use Rattle.measurement_reading.specs.Read.{payload, length_wrong, sum_wrong, probe_causes, unsummed, must_be_summed, udp_causes, tpdu_of, read_probe, read_udp}
use Rattle.measurement_reading.specs.Read.{ihl, more_fragments, fragment_offset, is_fragment, ipv4_causes, read_ipv4, ipv6_causes, read_ipv6, tpdu_causes, read_of}

-- the UDP length
pub length_right : (u : List ℕ) → length_wrong u ≡ false → (8 ≤ field 2 4 u) × (field 2 4 u ≤ length u)
unfolding length_wrong
length_right u e =
    let p = or_neither (ltb (field 2 4 u) 8) (ltb (length u) (field 2 4 u)) e in
    (ltb-false (field 2 4 u) 8 p.0, ltb-false (length u) (field 2 4 u) p.1)

pub length_short : (u : List ℕ) {n : ℕ} → n ≡ field 2 4 u → n < 8 → true ≡ length_wrong u
unfolding length_wrong
length_short u e h = sym (or_left (ltb (field 2 4 u) 8) (ltb (length u) (field 2 4 u)) (lt-ltb (field 2 4 u) 8 (omega (arith, e))))

pub length_past : (u : List ℕ) {n : ℕ} → n ≡ field 2 4 u → 8 ≤ n → ltb (length u) n ≡ length_wrong u
unfolding length_wrong
length_past u e h = rw (e, le-ltb (field 2 4 u) 8 (omega arith))

-- the more-fragments flag and the fragment offset, as one number of the 16 bits n
abbrev pub fragment_bits : ℕ → ℕ
fragment_bits n = n % 16384

-- code tests a number t that is 0 where these are, and nowhere else
pub fragment_tested : (p : List ℕ) {n t : ℕ} → n ≡ field 2 6 p → (t ≡ 0 → fragment_bits n ≡ 0) → (fragment_bits n ≡ 0 → t ≡ 0) → not (eqb t 0) ≡ is_fragment p
unfolding is_fragment
fragment_tested p {n} {t} e only where_0 = by (eqb (more_fragments p) 1) refl (eqb (fragment_offset p) 0) refl
  where
    by : (a : Bool) → eqb (more_fragments p) 1 ≡ a → (b : Bool) → eqb (fragment_offset p) 0 ≡ b → not (eqb t 0) ≡ a || not b
    by true more b offset = let is = eqb-true (more_fragments p) 1 more in differs t 0 (λ z. let bits = rw e at (only z) in omega arith)
    by false more true offset =
        let is = eqb-true (fragment_offset p) 0 offset in
        split (more_fragments p) 1 (λ h. equals t 0 (where_0 (rw e (omega arith)))) (λ h. absurd (eqb-false (more_fragments p) 1 more (omega arith)))
    by false more false offset = differs t 0 (λ z. let bits = rw e at (only z) in eqb-false (fragment_offset p) 0 offset (omega arith))

-- the probe: 13, 14, or what it gives
module _ (v : IpVersion) (src dst u : List ℕ) where
  abbrev pub LeftProbe : ℕ → Type 0
  LeftProbe n = Left (from n (probe_causes (payload u))) (gives (tpdu_of v src dst u)) (read_probe v src dst u)

  pub probe_rows : LeftProbe 13
  unfolding read_probe probe_causes
  probe_rows = record { is = refl }

  module _ {n : ℕ} (en : n ≡ field 2 4 u) where
    abbrev body : List ℕ
    body = take (n - 8) (drop 8 u)

    body_is : body ≡ payload u
    unfolding payload
    body_is = ap (λ (k : ℕ). take (k - 8) (drop 8 u)) en

    pub row_13 : LeftProbe 13 → length body < 24 → refused 13 ≡ read_probe v src dst u
    unfolding probe_causes
    row_13 left h = stops left (lt-ltb (length (payload u)) 24 (rw body_is at h))

    pub past_13 : LeftProbe 13 → 24 ≤ length body → LeftProbe 14
    unfolding probe_causes
    past_13 left h = goes_on left (le-ltb (length (payload u)) 24 (rw body_is at h))

    module _ {x : ℕ} (ex : x ≡ field 8 0 body) where
      first : x ≡ field 8 0 (payload u)
      first = ex ∙ ap (λ (l : List ℕ). field 8 0 l) body_is

      pub row_14 : LeftProbe 14 → (x ≡ 0x4f50434450544b31 → ⊥) → refused 14 ≡ read_probe v src dst u
      unfolding probe_causes measurement_magic
      row_14 left h = stops left (differs (field 8 0 (payload u)) 0x4f50434450544b31 (λ e. h (first ∙ e)))

      pub past_14 : LeftProbe 14 → x ≡ 0x4f50434450544b31 → gives (tpdu_of v src dst u) ≡ read_probe v src dst u
      unfolding probe_causes measurement_magic
      past_14 left h = all_passed (goes_on left (equals (field 8 0 (payload u)) 0x4f50434450544b31 (sym first ∙ h)))

-- the UDP part: 10, then 11 in IPv6, then 12 unless the field is 0
module _ (src dst u : List ℕ) where
  abbrev pub LeftUdp : IpVersion → ℕ → Type 0
  LeftUdp v n = Left (from n (udp_causes v src dst u)) (read_probe v src dst u) (read_udp v src dst u)

  module _ (v : IpVersion) where
    pub udp_rows : LeftUdp v 10
    unfolding read_udp udp_causes
    udp_rows = record { is = refl }

    pub row_10 : LeftUdp v 10 → length_wrong u ≡ true → refused 10 ≡ read_udp v src dst u
    unfolding udp_causes
    row_10 left h = stops left h

    pub past_10 : LeftUdp v 10 → length_wrong u ≡ false → LeftUdp v 11
    unfolding udp_causes
    past_10 left h = goes_on left h

    pub row_11 : LeftUdp v 11 → must_be_summed v ≡ true → field 2 6 u ≡ 0 → refused 11 ≡ read_udp v src dst u
    unfolding udp_causes
    row_11 left m h = stops left (and_both (unsummed u) (must_be_summed v) (eq-eqb (field 2 6 u) 0 h) m)

    pub past_11 : LeftUdp v 11 → (field 2 6 u ≡ 0 → ⊥) → LeftUdp v 12
    unfolding udp_causes
    past_11 left h = goes_on left (and_left (unsummed u) (must_be_summed v) (ne_eqb (field 2 6 u) 0 h))

    pub past_11_unsummed : LeftUdp v 11 → must_be_summed v ≡ false → LeftUdp v 12
    unfolding udp_causes
    past_11_unsummed left m = goes_on left (and_right (unsummed u) (must_be_summed v) m)

    pub row_12 : LeftUdp v 12 → (field 2 6 u ≡ 0 → ⊥) → sum_wrong v src dst u ≡ true → refused 12 ≡ read_udp v src dst u
    unfolding udp_causes
    row_12 left h l = stops left (and_both (not (unsummed u)) (sum_wrong v src dst u) (differs (field 2 6 u) 0 h) l)

    pub past_12 : LeftUdp v 12 → sum_wrong v src dst u ≡ false → read_probe v src dst u ≡ read_udp v src dst u
    unfolding udp_causes
    past_12 left l = all_passed (goes_on left (and_right (not (unsummed u)) (sum_wrong v src dst u) l))

    pub past_12_unsummed : LeftUdp v 12 → field 2 6 u ≡ 0 → read_probe v src dst u ≡ read_udp v src dst u
    unfolding udp_causes
    past_12_unsummed left h = all_passed (goes_on left (and_left (not (unsummed u)) (sum_wrong v src dst u) (equals (field 2 6 u) 0 h)))

module _ (p : List ℕ) where
  -- IPv4: 3, 4, 39, 5, 6, 7, 38
  abbrev pub onward4 : Outcome DecodedTpdu
  onward4 = read_udp V4 (bytes_at 4 12 p) (bytes_at 4 16 p) (take (field 2 2 p - ihl p * 4) (drop (ihl p * 4) p))

  abbrev pub LeftIpv4 : ℕ → Type 0
  LeftIpv4 n = Left (from n (ipv4_causes p)) onward4 (read_ipv4 p)

  pub ipv4_rows : LeftIpv4 3
  unfolding read_ipv4 ipv4_causes
  ipv4_rows = record { is = refl }

  pub row_3 : LeftIpv4 3 → length p < 20 → refused 3 ≡ read_ipv4 p
  unfolding ipv4_causes
  row_3 left h = stops left (lt-ltb (length p) 20 h)

  pub past_3 : LeftIpv4 3 → 20 ≤ length p → LeftIpv4 4
  unfolding ipv4_causes
  past_3 left h = goes_on left (le-ltb (length p) 20 h)

  -- k is the IHL, and n the total length, as code has read them
  module _ {k : ℕ} (ek : k ≡ ihl p) where
    pub row_4 : LeftIpv4 4 → k < 5 → refused 4 ≡ read_ipv4 p
    unfolding ipv4_causes
    row_4 left h = stops left (lt-ltb (ihl p) 5 (omega arith))

    pub past_4 : LeftIpv4 4 → 5 ≤ k → LeftIpv4 39
    unfolding ipv4_causes
    past_4 left h = goes_on left (le-ltb (ihl p) 5 (omega arith))

    pub row_39 : LeftIpv4 39 → length p < k * 4 + 8 → refused 39 ≡ read_ipv4 p
    unfolding ipv4_causes
    row_39 left h = stops left (lt-ltb (length p) (ihl p * 4 + 8) (omega arith))

    pub past_39 : LeftIpv4 39 → k * 4 + 8 ≤ length p → LeftIpv4 5
    unfolding ipv4_causes
    past_39 left h = goes_on left (le-ltb (length p) (ihl p * 4 + 8) (omega arith))

    module _ {n : ℕ} (en : n ≡ field 2 2 p) where
      abbrev low : Bool
      low = ltb (field 2 2 p) (ihl p * 4 + 8)

      abbrev high : Bool
      high = ltb (length p) (field 2 2 p)

      pub row_5_low : LeftIpv4 5 → n < k * 4 + 8 → refused 5 ≡ read_ipv4 p
      unfolding ipv4_causes
      row_5_low left h = stops left (or_left low high (lt-ltb (field 2 2 p) (ihl p * 4 + 8) (omega arith)))

      pub row_5_past : LeftIpv4 5 → length p < n → refused 5 ≡ read_ipv4 p
      unfolding ipv4_causes
      row_5_past left h = stops left (or_right low high (lt-ltb (length p) (field 2 2 p) (omega arith)))

      pub past_5 : LeftIpv4 5 → k * 4 + 8 ≤ n → n ≤ length p → LeftIpv4 6
      unfolding ipv4_causes
      past_5 left h l = goes_on left (or_none low high (le-ltb (field 2 2 p) (ihl p * 4 + 8) (omega arith)) (le-ltb (length p) (field 2 2 p) (omega arith)))

      -- what is left behind the last row, by the numbers that code has
      pub rest_ipv4 : LeftIpv4 0 → read_udp V4 (bytes_at 4 12 p) (bytes_at 4 16 p) (take (n - k * 4) (drop (k * 4) p)) ≡ read_ipv4 p
      unfolding ipv4_causes
      rest_ipv4 left = ap₂ (λ (n k : ℕ). read_udp V4 (bytes_at 4 12 p) (bytes_at 4 16 p) (take (n - k * 4) (drop (k * 4) p))) en ek ∙ all_passed left

    module _ {s : ℕ} (es : s ≡ checksum_of (take (k * 4) p)) where
      sum_at : s ≡ checksum_of (take (ihl p * 4) p)
      sum_at = es ∙ ap (λ (i : ℕ). checksum_of (take (i * 4) p)) ek

      pub row_7 : LeftIpv4 7 → (s ≡ 0 → ⊥) → refused 7 ≡ read_ipv4 p
      unfolding ipv4_causes
      row_7 left h = stops left (differs (checksum_of (take (ihl p * 4) p)) 0 (λ e. h (sum_at ∙ e)))

      pub past_7 : LeftIpv4 7 → s ≡ 0 → LeftIpv4 38
      unfolding ipv4_causes
      past_7 left h = goes_on left (equals (checksum_of (take (ihl p * 4) p)) 0 (sym sum_at ∙ h))

  pub row_6_ipv4 : LeftIpv4 6 → (get_or p 9 0 ≡ 17 → ⊥) → refused 6 ≡ read_ipv4 p
  unfolding ipv4_causes
  row_6_ipv4 left h = stops left (differs (get_or p 9 0) 17 h)

  pub past_6_ipv4 : LeftIpv4 6 → get_or p 9 0 ≡ 17 → LeftIpv4 7
  unfolding ipv4_causes
  past_6_ipv4 left h = goes_on left (equals (get_or p 9 0) 17 h)

  pub row_38 : LeftIpv4 38 → is_fragment p ≡ true → refused 38 ≡ read_ipv4 p
  unfolding ipv4_causes
  row_38 left h = stops left h

  pub past_38 : LeftIpv4 38 → is_fragment p ≡ false → LeftIpv4 0
  unfolding ipv4_causes
  past_38 left h = goes_on left h

  -- IPv6: 8, 6, 9
  abbrev pub onward6 : Outcome DecodedTpdu
  onward6 = read_udp V6 (bytes_at 16 8 p) (bytes_at 16 24 p) (take (field 2 4 p) (drop 40 p))

  abbrev pub LeftIpv6 : ℕ → Type 0
  LeftIpv6 n = Left (from n (ipv6_causes p)) onward6 (read_ipv6 p)

  pub ipv6_rows : LeftIpv6 8
  unfolding read_ipv6 ipv6_causes
  ipv6_rows = record { is = refl }

  pub row_8 : LeftIpv6 8 → length p < 48 → refused 8 ≡ read_ipv6 p
  unfolding ipv6_causes
  row_8 left h = stops left (lt-ltb (length p) 48 h)

  pub past_8 : LeftIpv6 8 → 48 ≤ length p → LeftIpv6 6
  unfolding ipv6_causes
  past_8 left h = goes_on left (le-ltb (length p) 48 h)

  pub row_6_ipv6 : LeftIpv6 6 → (get_or p 6 0 ≡ 17 → ⊥) → refused 6 ≡ read_ipv6 p
  unfolding ipv6_causes
  row_6_ipv6 left h = stops left (differs (get_or p 6 0) 17 h)

  pub past_6_ipv6 : LeftIpv6 6 → get_or p 6 0 ≡ 17 → LeftIpv6 9
  unfolding ipv6_causes
  past_6_ipv6 left h = goes_on left (equals (get_or p 6 0) 17 h)

  module _ {n : ℕ} (en : n ≡ field 2 4 p) where
    abbrev under : Bool
    under = ltb (field 2 4 p) 8

    abbrev over : Bool
    over = ltb (length p) (field 2 4 p + 40)

    pub row_9_low : LeftIpv6 9 → n < 8 → refused 9 ≡ read_ipv6 p
    unfolding ipv6_causes
    row_9_low left h = stops left (or_left under over (lt-ltb (field 2 4 p) 8 (omega arith)))

    pub row_9_past : LeftIpv6 9 → length p < n + 40 → refused 9 ≡ read_ipv6 p
    unfolding ipv6_causes
    row_9_past left h = stops left (or_right under over (lt-ltb (length p) (field 2 4 p + 40) (omega arith)))

    pub past_9 : LeftIpv6 9 → 8 ≤ n → n + 40 ≤ length p → LeftIpv6 0
    unfolding ipv6_causes
    past_9 left h l = goes_on left (or_none under over (le-ltb (field 2 4 p) 8 (omega arith)) (le-ltb (length p) (field 2 4 p + 40) (omega arith)))

    pub rest_ipv6 : LeftIpv6 0 → read_udp V6 (bytes_at 16 8 p) (bytes_at 16 24 p) (take (n + 40 - 40) (drop 40 p)) ≡ read_ipv6 p
    unfolding ipv6_causes
    rest_ipv6 left =
        let e : n + 40 - 40 ≡ field 2 4 p = omega arith in
        ap (λ (n : ℕ). read_udp V6 (bytes_at 16 8 p) (bytes_at 16 24 p) (take n (drop 40 p))) e ∙ all_passed left

  -- a whole T-PDU: 1, 2
  abbrev by_version : Bool → Outcome DecodedTpdu
  by_version is_4 = elim is_4 [ true ↦ read_ipv4 p | false ↦ read_ipv6 p ]

  abbrev pub LeftTpdu : ℕ → Type 0
  LeftTpdu n = Left (from n (tpdu_causes p)) (by_version (eqb (get_or p 0 0 / 16) 4)) (read_of p)

  pub tpdu_rows : LeftTpdu 1
  unfolding read_of tpdu_causes
  tpdu_rows = record { is = refl }

  pub row_1 : LeftTpdu 1 → length p ≡ 0 → refused 1 ≡ read_of p
  unfolding tpdu_causes
  row_1 left h = stops left (eq-eqb (length p) 0 h)

  pub past_1 : LeftTpdu 1 → (length p ≡ 0 → ⊥) → LeftTpdu 2
  unfolding tpdu_causes
  past_1 left h = goes_on left (ne_eqb (length p) 0 h)

  module _ {v : ℕ} (ev : v ≡ get_or p 0 0 / 16) where
    abbrev not_4 : Bool
    not_4 = not (eqb (get_or p 0 0 / 16) 4)

    abbrev not_6 : Bool
    not_6 = not (eqb (get_or p 0 0 / 16) 6)

    pub row_2 : LeftTpdu 2 → (v ≡ 4 → ⊥) → (v ≡ 6 → ⊥) → refused 2 ≡ read_of p
    unfolding tpdu_causes
    row_2 left h k = stops left (and_both not_4 not_6 (differs (get_or p 0 0 / 16) 4 (λ e. h (ev ∙ e))) (differs (get_or p 0 0 / 16) 6 (λ e. k (ev ∙ e))))

    pub past_2_ipv4 : LeftTpdu 2 → v ≡ 4 → read_ipv4 p ≡ read_of p
    unfolding tpdu_causes
    past_2_ipv4 left h =
        ap by_version (sym (eq-eqb (get_or p 0 0 / 16) 4 (sym ev ∙ h)))
        ∙ all_passed (goes_on left (and_left not_4 not_6 (equals (get_or p 0 0 / 16) 4 (sym ev ∙ h))))

    pub past_2_ipv6 : LeftTpdu 2 → v ≡ 6 → read_ipv6 p ≡ read_of p
    unfolding tpdu_causes
    past_2_ipv6 left h =
        ap by_version (sym (ne_eqb (get_or p 0 0 / 16) 4 (λ e. omega arith)))
        ∙ all_passed (goes_on left (and_right not_4 not_6 (equals (get_or p 0 0 / 16) 6 (sym ev ∙ h))))

-- a packet of version 4, which is not empty, is read as such
pub ipv4_not_empty : (p : List ℕ) → get_or p 0 0 / 16 ≡ 4 → length p ≡ 0 → ⊥
ipv4_not_empty [] v e = omega arith
ipv4_not_empty (x ∷ p) v e = omega arith

pub read_as_ipv4 : (p : List ℕ) → get_or p 0 0 / 16 ≡ 4 → read_ipv4 p ≡ read_of p
read_as_ipv4 p v = past_2_ipv4 p refl (past_1 p (tpdu_rows p) (ipv4_not_empty p v)) v
