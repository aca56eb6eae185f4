-- Decoding: the Rust's tests are document 01's rows, one by one.
use Rattle.std.proofs.Common.{◌≡◌, ℕ, suc, ◌+◌, ◌-◌, ◌*◌, ◌/◌, ◌%◌, ◌<◌, ◌≤◌, Bool, true, false, not, ◌&&◌, ◌||◌, eqb, ltb, List, [], ◌∷◌, ◌++◌, length, get_or, take, drop, sym, refl, ap, ◌∙◌, ap₂, append_assoc, append-nil, add-zero, arith, length-append, length-drop, length-take, ltb-false, le-ltb, lt-ltb, eq-eqb, ne_eqb, eqb-true}
use borrow.Author.Tests.{eqb-false, not-false}
use Rattle.error.specs.Outcome.{Outcome, refused, Cause, ◌⇒◌, first_cause}
use Rattle.error.proofs.Causes.{none, passes}
use Rattle.error.proofs.Tests.{true_not_false, or_neither, and_right}
use Rattle.field.specs.Field.{Bytes, big_endian, value_of, bytes_at, field}
use Rattle.field.proofs.Fields.{bytes_take, bytes_drop, bytes_append, bytes_at_lem, byte_of, value_injective, bytes_at_drop, front_bytes, same_as_itself}
use Rattle.checksum.specs.Sum.{sum_of, folding, fold_of, checksum_of}
use Rattle.checksum.proofs.Carries.{split}
use Rattle.measurement.specs.Flow.{padded}
use Rattle.measurement.specs.Pseudo.{pseudo_header}
use Rattle.measurement.specs.Probe.{measurement_magic}
use Rattle.measurement.specs.declared.DecodedTpdu.{DecodedTpdu}
use Rattle.measurement.specs.declared.MeasurementHeader.{MeasurementHeader}
use Rattle.measurement.specs.declared.IpVersion.{IpVersion}
use Rattle.measurement.specs.declared.IpVersion.TheVariants.{V4, V6}
use Rattle.measurement_reading.specs.Fragments.{HeaderRight}
use Rattle.measurement_reading.specs.Padding.{Ipv6Right, ReachesUdp, part_in}
use Rattle.measurement_reading.specs.Read.{payload, length_wrong, covered, sum_wrong, probe_causes, unsummed, udp_causes, read_probe, read_udp, ihl, is_fragment, ipv4_causes, read_ipv4, ipv6_causes, read_ipv6, tpdu_causes, read_of}
use Rattle.measurement_reading.proofs.Rows.{length_right, onward4, onward6, tpdu_rows, row_1, past_1, row_2, past_2_ipv6, ipv4_not_empty, read_as_ipv4}
use Rattle.measurement_reading.proofs.Accept.{verifies}
use Rattle.measurement_reading.proofs.Fragments.{is_fragment_lem, no_earlier_cause}
use Rattle.measurement_reading.proofs.Padding.{no_fragment, length_fits, filled_sum, all_padding_ignored}
use Rattle.rust_reference.specs.Claims.{NoFragment, DecodeMeasurementTpdu, DecodeFragment, DecodePadded, DecodeWrongLength, DecodeDiffers}
use Rattle.rust_reference.specs.Compared.{due_of_a_fragment, told}
use Rattle.rust_reference.specs.Error as error
use Rattle.rust_reference.specs.Error.{Result, Ok, Err, UnsupportedIpVersion, InvalidPacket, return_if, ◌>>=◌, ◌>>◌}
use Rattle.rust_reference.specs.Number.{outcome_by}
use Rattle.rust_reference.specs.Values.{index, range, same, u16_at, wrapping_add}
use Rattle.rust_reference.specs.Answers.{tpdu_of}
use Rattle.rust_reference.specs.Measurement as rust
use Rattle.rust_reference.proofs.Branches.{unless, row, two_rows, no_row, late, as_it_is}
use Rattle.rust_reference.proofs.Checksums.{of_one, of_two}
use Rattle.rust_reference.proofs.Compared.{version_is, filled_as, compare_whole}
use Rattle.rust_reference.proofs.Told.{compared_bytes, compared_whole, compared_filled}

-- a u16 is the field of two bytes
u16_is : (l : List ℕ) (at : ℕ) → u16_at l at ≡ field 2 at l
u16_is l at = let e : get_or l (at + 1) 0 ≡ get_or l (suc at) 0 = ap (λ (k : ℕ). get_or l k 0) (omega arith) in omega (arith, e)

u16_below : (l : List ℕ) (at : ℕ) → Bytes l → u16_at l at < 65536
u16_below l at b = omega (arith, byte_of l at b, byte_of l (at + 1) b)

-- a range is the bytes there
range_is : (l : List ℕ) (from width : ℕ) → from + width ≤ length l → take width (drop from l) ≡ bytes_at width from l
range_is l from width h =
    front_bytes width (drop from l) (omega (arith, length-drop from l)) ∙ sym (bytes_at_drop width from 0 l) ∙ ap (λ (k : ℕ). bytes_at width k l) (add-zero from)

-- slices are equal where their numbers are
same_true : (x y : List ℕ) → same x y ≡ true → x ≡ y
same_true [] [] e = refl
same_true [] (y ∷ ys) e = absurd (true_not_false (sym e))
same_true (x ∷ xs) [] e = absurd (true_not_false (sym e))
same_true (x ∷ xs) (y ∷ ys) e = by (eqb x y) refl e (same_true xs ys)
  where
    by : (t : Bool) → eqb x y ≡ t → t && same xs ys ≡ true → (same xs ys ≡ true → xs ≡ ys) → x ∷ xs ≡ y ∷ ys
    by true f e g = ap₂ (λ (a : ℕ) (l : List ℕ). a ∷ l) (eqb-true x y f) (g e)
    by false f e g = absurd (true_not_false (sym e))

same_number : (x y : List ℕ) → Bytes x → Bytes y → length x ≡ length y → same x y ≡ eqb (value_of x) (value_of y)
same_number x y b c h = by (eqb (value_of x) (value_of y)) refl (same x y) refl
  where
    by : (t : Bool) → eqb (value_of x) (value_of y) ≡ t → (s : Bool) → same x y ≡ s → s ≡ t
    by true e true f = refl
    by false e false f = refl
    by true e false f =
        let q : x ≡ y = value_injective x y b c h (eqb-true (value_of x) (value_of y) e) in
        sym f ∙ ap (λ (l : List ℕ). same x l) (sym q) ∙ same_as_itself x
    by false e true f = absurd (eqb-false (value_of x) (value_of y) e (ap value_of (same_true x y f)))

-- the probe: 13, 14, and its two numbers
module _ {A B : Type 0} (value : A → B) (k : MeasurementHeader → Result A) (body : List ℕ) (b : Bytes body) (onward : Outcome B) where
  magic_is : 24 ≤ length body → not (same (range body 0 8) rust.MEASUREMENT_MAGIC) ≡ not (eqb (field 8 0 body) (value_of measurement_magic))
  unfolding measurement_magic
  magic_is long =
      let e : take 8 body ≡ bytes_at 8 0 body = front_bytes 8 body (omega arith) in
      ap (λ (l : List ℕ). not (same l rust.MEASUREMENT_MAGIC)) e
      ∙ ap not (same_number (bytes_at 8 0 body) rust.MEASUREMENT_MAGIC (bytes_at_lem 8 0 body b) (omega arith) refl)

  probed : (24 ≤ length body → outcome_by value (k (record { sequence = field 8 8 body; send_timestamp_ns = field 8 16 body })) ≡ told onward)
      → outcome_by value (◌>>=◌ (rust.decode body) k) ≡ told (first_cause (probe_causes body) onward)
  unfolding rust.decode probe_causes first_cause
  probed g = by (ltb (length body) 24) refl (not (eqb (field 8 0 body) (value_of measurement_magic))) refl
    where
      by : (t : Bool) → ltb (length body) 24 ≡ t → (u : Bool) → not (eqb (field 8 0 body) (value_of measurement_magic)) ≡ u
          → outcome_by value (◌>>=◌ (rust.decode body) k) ≡ told (first_cause (probe_causes body) onward)
      by true e u f = rw (e, rust.decode, first_cause)
      by false e true f =
          let long : 24 ≤ length body = ltb-false (length body) 24 e in
          rw (e, magic_is long, f, rust.decode, first_cause)
      by false e false f =
          let long : 24 ≤ length body = ltb-false (length body) 24 e in
          rw (e, magic_is long, f, rust.decode, first_cause) (rw (range_is body 8 8 (omega arith), range_is body 16 8 (omega arith)) (g long))

-- the UDP part: 10, and what the segment is
abbrev segment_of : List ℕ → rust.UdpSegment
segment_of u = record { src_port = field 2 0 u; dst_port = field 2 2 u; payload = payload u }

module _ {A B : Type 0} (value : A → B) (k : rust.UdpSegment → Result A) (u : List ℕ) (rows : List Cause) (onward : Outcome B) where
  length_is : ltb (u16_at u 4) 8 || ltb (length u) (u16_at u 4) ≡ length_wrong u
  unfolding length_wrong
  length_is = rw (u16_is u 4)

  payload_is : range u 8 (u16_at u 4) ≡ payload u
  unfolding payload
  payload_is = rw (u16_is u 4)

  parsed : 8 ≤ length u → (length_wrong u ≡ false → outcome_by value (k (segment_of u)) ≡ told (first_cause rows onward))
      → outcome_by value (◌>>=◌ (rust.parse_udp_segment u) k) ≡ told (first_cause ((length_wrong u ⇒ 10) ∷ rows) onward)
  unfolding rust.parse_udp_segment first_cause
  parsed h g = by (length_wrong u) refl
    where
      by : (t : Bool) → length_wrong u ≡ t → outcome_by value (◌>>=◌ (rust.parse_udp_segment u) k) ≡ told (first_cause ((t ⇒ 10) ∷ rows) onward)
      by true e = rw (le-ltb (length u) 8 h, length_is, e, rust.parse_udp_segment)
      by false e = rw (le-ltb (length u) 8 h, length_is, e, rust.parse_udp_segment) (rw (u16_is u 0, u16_is u 2, payload_is) (g e))

-- the sums of the UDP part
module _ (src dst u : List ℕ) (p : Bytes src) (q : Bytes dst) (b : Bytes u) (short : length u < 65536) (fills : field 2 4 u ≡ length u) where
  pseudo4_is : rust.ipv4_pseudo src dst u ≡ pseudo_header V4 src dst (length u)
  unfolding rust.ipv4_pseudo pseudo_header
  pseudo4_is =
      let e : length u % 65536 ≡ length u = omega arith in
      rw e (append_assoc (src ++ dst ++ (0 ∷ [])) (17 ∷ []) (big_endian 2 (length u)) ∙ append_assoc (src ++ dst) (0 ∷ []) (17 ∷ big_endian 2 (length u)))

  pseudo6_is : rust.ipv6_pseudo src dst u ≡ pseudo_header V6 src dst (length u)
  unfolding rust.ipv6_pseudo pseudo_header
  pseudo6_is =
      let e : length u % 4294967296 ≡ length u = omega arith in
      rw e (append_assoc (src ++ dst ++ big_endian 4 (length u)) (0 ∷ 0 ∷ 0 ∷ []) (17 ∷ []) ∙ append_assoc (src ++ dst) (big_endian 4 (length u)) (0 ∷ 0 ∷ 0 ∷ 17 ∷ []))

  sum4_is : length src ≡ 4 → length dst ≡ 4 → not (eqb (rust.checksum_udp_ipv4_including_checksum src dst u) 0) ≡ sum_wrong V4 src dst u
  unfolding rust.checksum_udp_ipv4_including_checksum pseudo_header
  sum4_is h k =
      let l : length (pseudo_header V4 src dst (length u)) ≡ 12 = simp length-append (omega arith) in
      rw (pseudo4_is, filled_sum V4 src dst u fills)
      (ap (λ (n : ℕ). not (eqb n 0))
      (of_two (pseudo_header V4 src dst (length u)) u
      (bytes_append (src ++ dst) (0 ∷ 17 ∷ big_endian 2 (length u)) (bytes_append src dst p q) (omega arith)) b (omega arith) (omega arith)))

  sum6_is : length src ≡ 16 → length dst ≡ 16 → not (eqb (rust.checksum_udp_ipv6_including_checksum src dst u) 0) ≡ sum_wrong V6 src dst u
  unfolding rust.checksum_udp_ipv6_including_checksum pseudo_header
  sum6_is h k =
      let l : length (pseudo_header V6 src dst (length u)) ≡ 40 = simp length-append (omega arith) in
      rw (pseudo6_is, filled_sum V6 src dst u fills)
      (ap (λ (n : ℕ). not (eqb n 0))
      (of_two (pseudo_header V6 src dst (length u)) u
      (bytes_append (src ++ dst) (big_endian 4 (length u) ++ (0 ∷ 0 ∷ 0 ∷ 17 ∷ [])) (bytes_append src dst p q) (omega arith)) b (omega arith) (omega arith)))

payload_bytes_lem : (u : List ℕ) → Bytes u → Bytes (payload u)
unfolding payload
payload_bytes_lem u b = bytes_take (field 2 4 u - 8) (drop 8 u) (bytes_drop 8 u b)

-- the UDP reader, in the order of each version
rest4 : List ℕ → List ℕ → List ℕ → Result rust.DecodedTpdu
rest4 src dst u = do
  segment ← rust.parse_udp_segment u
  return_if (not (eqb (u16_at u 6) 0) && not (eqb (rust.checksum_udp_ipv4_including_checksum src dst u) 0)) (InvalidPacket error.invalid_IPv4_UDP_checksum)
  measurement ← rust.decode segment.payload
  Ok (record { flow = rust.Ipv4 src dst segment.src_port segment.dst_port; measurement = measurement })

rest6 : List ℕ → List ℕ → List ℕ → Result rust.DecodedTpdu
rest6 src dst u = do
  return_if (eqb (u16_at u 6) 0) (InvalidPacket error.IPv6_UDP_checksum_is_zero)
  return_if (not (eqb (rust.checksum_udp_ipv6_including_checksum src dst u) 0)) (InvalidPacket error.invalid_IPv6_UDP_checksum)
  segment ← rust.parse_udp_segment u
  measurement ← rust.decode segment.payload
  Ok (record { flow = rust.Ipv6 src dst segment.src_port segment.dst_port; measurement = measurement })

module _ (src dst u : List ℕ) (p : Bytes src) (q : Bytes dst) (b : Bytes u) (short : length u < 65536) (long : 8 ≤ length u) (fills : length_wrong u ≡ false → field 2 4 u ≡ length u) where
  udp4 : length src ≡ 4 → length dst ≡ 4 → outcome_by tpdu_of (rest4 src dst u) ≡ told (read_udp V4 src dst u)
  unfolding rest4 read_udp udp_causes read_probe
  udp4 h k =
      parsed tpdu_of _ u _ _ long
      (λ right. row as_it_is tpdu_of (not (eqb (u16_at u 6) 0) && not (eqb (rust.checksum_udp_ipv4_including_checksum src dst u) 0)) _ 12 _ [] (read_probe V4 src dst u) refl
      (ap₂ (λ (x : ℕ) (y : Bool). not (eqb x 0) && y) (u16_is u 6) (sum4_is src dst u p q b short (fills right) h k))
      (λ c. probed tpdu_of _ (payload u) (payload_bytes_lem u b) _ (λ w. refl) ∙ ap told (passes (read_probe V4 src dst u) none))
      ∙ ap told (no_row 11 ((not (unsummed u) && sum_wrong V4 src dst u ⇒ 12) ∷ []) (read_probe V4 src dst u) (and_right (unsummed u) false refl)))

  -- the Rust judges 10 last, but a length that fills its part is right
  udp6 : field 2 4 u ≡ length u → length src ≡ 16 → length dst ≡ 16 → outcome_by tpdu_of (rest6 src dst u) ≡ told (read_udp V6 src dst u)
  unfolding rest6 read_udp udp_causes read_probe
  udp6 filled h k =
      let right = length_fits u (omega (arith, filled), omega (arith, filled)) in
      row as_it_is tpdu_of (eqb (u16_at u 6) 0) _ 11 _ _ _ refl (ap (λ (x : ℕ). eqb x 0) (u16_is u 6) ∙ sym (and_true (unsummed u)))
      (λ z. row as_it_is tpdu_of (not (eqb (rust.checksum_udp_ipv6_including_checksum src dst u) 0)) _ 12 _ [] (read_probe V6 src dst u) refl
      (sum6_is src dst u p q b short filled h k ∙ ap (λ (t : Bool). not t && sum_wrong V6 src dst u) (sym z ∙ and_true (unsummed u)))
      (λ c. parsed tpdu_of _ u [] (read_probe V6 src dst u) long
      (λ right. probed tpdu_of _ (payload u) (payload_bytes_lem u b) _ (λ w. refl) ∙ ap told (passes (read_probe V6 src dst u) none))
      ∙ ap told (sym (no_row 10 [] (read_probe V6 src dst u) right))))
      ∙ ap told (no_row 10 _ (read_probe V6 src dst u) right)
    where
      and_true : (t : Bool) → t && true ≡ t
      and_true true = refl
      and_true false = refl

-- every refusal of the Rust's UDP reader comes after 38
module _ {A : Type 0} (value : A → DecodedTpdu) where
  parse_late : (k : rust.UdpSegment → Result A) (u : List ℕ) → 8 ≤ length u
      → ((segment : rust.UdpSegment) → due_of_a_fragment (outcome_by value (k segment)) ≡ refused 38) → due_of_a_fragment (outcome_by value (◌>>=◌ (rust.parse_udp_segment u) k)) ≡ refused 38
  unfolding rust.parse_udp_segment
  parse_late k u h g = by (ltb (u16_at u 4) 8 || ltb (length u) (u16_at u 4)) refl
    where
      by : (t : Bool) → ltb (u16_at u 4) 8 || ltb (length u) (u16_at u 4) ≡ t → due_of_a_fragment (outcome_by value (◌>>=◌ (rust.parse_udp_segment u) k)) ≡ refused 38
      by true e = rw (le-ltb (length u) 8 h, e, rust.parse_udp_segment)
      by false e = rw (le-ltb (length u) 8 h, e, rust.parse_udp_segment) (g _)

  decode_late : (k : MeasurementHeader → Result A) (body : List ℕ)
      → ((header : MeasurementHeader) → due_of_a_fragment (outcome_by value (k header)) ≡ refused 38) → due_of_a_fragment (outcome_by value (◌>>=◌ (rust.decode body) k)) ≡ refused 38
  unfolding rust.decode
  decode_late k body g = by (ltb (length body) 24) refl (not (same (range body 0 8) rust.MEASUREMENT_MAGIC)) refl
    where
      by : (t : Bool) → ltb (length body) 24 ≡ t → (s : Bool) → not (same (range body 0 8) rust.MEASUREMENT_MAGIC) ≡ s
          → due_of_a_fragment (outcome_by value (◌>>=◌ (rust.decode body) k)) ≡ refused 38
      by true e s f = rw (e, rust.decode)
      by false e true f = rw (e, f, rust.decode)
      by false e false f = rw (e, f, rust.decode) (g _)

part_late : (src dst u : List ℕ) → 8 ≤ length u → due_of_a_fragment (outcome_by tpdu_of (rest4 src dst u)) ≡ refused 38
unfolding rest4
part_late src dst u h =
    parse_late tpdu_of _ u h
    (λ segment. late due_of_a_fragment tpdu_of (not (eqb (u16_at u 6) 0) && not (eqb (rust.checksum_udp_ipv4_including_checksum src dst u) 0)) _ _ refl
    (decode_late tpdu_of _ segment.payload (λ header. refl)))

-- tests that are written in two ways
quarter : (k : ℕ) → ltb (k * 4) 20 ≡ ltb k 5
quarter k = split k 5 (λ h. lt-ltb (k * 4) 20 (omega arith) ∙ sym (lt-ltb k 5 h)) (λ h. le-ltb (k * 4) 20 (omega arith) ∙ sym (le-ltb k 5 h))

or_turned : (a b : Bool) → a || b ≡ b || a
or_turned true true = refl
or_turned true false = refl
or_turned false true = refl
or_turned false false = refl

module _ (p : List ℕ) (b : Bytes p) where
  abbrev header : ℕ
  header = index p 0 % 16 * 4

  abbrev part4 : List ℕ
  part4 = range p header (u16_at p 2)

  header_sum : not (eqb (rust.checksum (range p 0 header ∷ [])) 0) ≡ not (eqb (checksum_of (take (ihl p * 4) p)) 0)
  unfolding ihl
  header_sum =
      let e : header - 0 ≡ header = omega arith in
      rw e (ap (λ (n : ℕ). not (eqb n 0)) (of_one (take header p) (bytes_take header p b) (omega (arith, length-take header p))))

  read4 : HeaderRight (ihl p) (field 2 2 p) p → (length_wrong (part_in V4 p) ≡ false → field 2 4 (part_in V4 p) ≡ length (part_in V4 p))
      → outcome_by tpdu_of (rest4 (bytes_at 4 12 p) (bytes_at 4 16 p) part4) ≡ told (onward4 p)
  unfolding ihl
  read4 h fills =
      let n = length-take (field 2 2 p - header) (drop header p) in
      let m = length-drop header p in
      rw (u16_is p 2)
      (udp4 (bytes_at 4 12 p) (bytes_at 4 16 p) (part_in V4 p) (bytes_at_lem 4 12 p b) (bytes_at_lem 4 16 p b)
      (bytes_take (field 2 2 p - header) (drop header p) (bytes_drop header p b)) (omega (arith, u16_is p 2, u16_below p 2 b, h.not_5)) (omega (arith, h.not_5)) fills refl refl)

  -- 3 to 7 beside the rows of these numbers, and then 38 and the UDP part beside the Rust's UDP part
  ipv4_read : (due : Outcome DecodedTpdu → Outcome DecodedTpdu) → ((n : ℕ) → ltb n 8 ≡ true → due (refused n) ≡ refused n)
      → (HeaderRight (ihl p) (field 2 2 p) p
      → due (outcome_by tpdu_of (rest4 (bytes_at 4 12 p) (bytes_at 4 16 p) part4)) ≡ told (first_cause ((is_fragment p ⇒ 38) ∷ []) (onward4 p)))
      → due (outcome_by tpdu_of (rust.decode_ipv4_measurement p)) ≡ told (read_ipv4 p)
  unfolding rust.decode_ipv4_measurement read_ipv4 ipv4_causes rest4
  ipv4_read due early onward =
      row due tpdu_of (ltb (length p) 20) _ 3 _ _ _ (early 3 refl) refl
      (λ c3. two_rows due tpdu_of (ltb header 20 || ltb (length p) (header + 8)) (ltb (ihl p) 5) (ltb (length p) (ihl p * 4 + 8)) _ 4 39 _ _ _ (early 4 refl) (early 4 refl) test4
      (λ c4 c39. row due tpdu_of (ltb (u16_at p 2) (header + 8) || ltb (length p) (u16_at p 2)) _ 5 _ _ _ (early 5 refl) test5
      (λ c5. row due tpdu_of (not (eqb (index p 9) 17)) _ 6 _ _ _ (early 6 refl) refl
      (λ c6. row due tpdu_of (not (eqb (rust.checksum (range p 0 header ∷ [])) 0)) _ 7 _ ((is_fragment p ⇒ 38) ∷ []) (onward4 p) (early 7 refl) header_sum
      (λ c7.
      let low = or_neither (ltb (field 2 2 p) (ihl p * 4 + 8)) (ltb (length p) (field 2 2 p)) c5 in
      let sum = checksum_of (take (ihl p * 4) p) in
      onward
      (record {
        not_3 = ltb-false (length p) 20 c3;
        not_4 = ltb-false (ihl p) 5 c4;
        not_39 = ltb-false (length p) (ihl p * 4 + 8) c39;
        not_5 = (ltb-false (field 2 2 p) (ihl p * 4 + 8) low.0, ltb-false (length p) (field 2 2 p) low.1);
        not_6 = eqb-true (index p 9) 17 (not-false (eqb (index p 9) 17) c6);
        not_7 = verifies (take (ihl p * 4) p) (eqb-true sum 0 (not-false (eqb sum 0) c7));
      }))))))
    where
      test4 : ltb header 20 || ltb (length p) (header + 8) ≡ ltb (ihl p) 5 || ltb (length p) (ihl p * 4 + 8)
      test4 = unfold ihl in rw (quarter (index p 0 % 16))

      test5 : ltb (u16_at p 2) (header + 8) || ltb (length p) (u16_at p 2) ≡ ltb (field 2 2 p) (ihl p * 4 + 8) || ltb (length p) (field 2 2 p)
      test5 = unfold ihl in rw (u16_is p 2)

  of_whole : is_fragment p ≡ false → (HeaderRight (ihl p) (field 2 2 p) p → length_wrong (part_in V4 p) ≡ false → field 2 4 (part_in V4 p) ≡ length (part_in V4 p))
      → outcome_by tpdu_of (rust.decode_ipv4_measurement p) ≡ told (read_ipv4 p)
  unfolding first_cause
  of_whole h fills = ipv4_read as_it_is (λ n l. refl) (λ right. read4 right (fills right) ∙ rw (h, first_cause))

  -- of a fragment, whatever the UDP part is, 38 comes before it
  of_fragment : is_fragment p ≡ true → due_of_a_fragment (outcome_by tpdu_of (rust.decode_ipv4_measurement p)) ≡ told (read_ipv4 p)
  unfolding first_cause ihl
  of_fragment h =
      ipv4_read due_of_a_fragment (λ n l. rw (l, due_of_a_fragment))
      (λ right.
      let n = length-take (u16_at p 2 - header) (drop header p) in
      let m = length-drop header p in
      part_late (bytes_at 4 12 p) (bytes_at 4 16 p) part4 (omega (arith, u16_is p 2, right.not_5)) ∙ rw (h, first_cause))

  abbrev part6 : List ℕ
  part6 = range p 40 (40 + u16_at p 4)

  read6 : 48 ≤ length p → 8 ≤ u16_at p 4 → 40 + u16_at p 4 ≤ length p → field 2 4 (part_in V6 p) ≡ length (part_in V6 p)
      → outcome_by tpdu_of (rest6 (range p 8 24) (range p 24 40) part6) ≡ told (onward6 p)
  read6 h k l fills =
      let e : 40 + u16_at p 4 - 40 ≡ field 2 4 p = omega (arith, u16_is p 4) in
      let n = length-take (field 2 4 p) (drop 40 p) in
      let m = length-drop 40 p in
      rw (range_is p 8 16 (omega arith), range_is p 24 16 (omega arith), e)
      (udp6 (bytes_at 16 8 p) (bytes_at 16 24 p) (part_in V6 p) (bytes_at_lem 16 8 p b) (bytes_at_lem 16 24 p b)
      (bytes_take (field 2 4 p) (drop 40 p) (bytes_drop 40 p b)) (omega (arith, u16_is p 4, u16_below p 4 b)) (omega (arith, u16_is p 4)) (λ right. fills) fills refl refl)

  ipv6_read : (Ipv6Right p → field 2 4 (part_in V6 p) ≡ length (part_in V6 p)) → get_or p 0 0 / 16 ≡ 6
      → outcome_by tpdu_of (rust.decode_ipv6_measurement p) ≡ told (read_ipv6 p)
  unfolding rust.decode_ipv6_measurement read_ipv6 ipv6_causes rest6
  ipv6_read fills six =
      row as_it_is tpdu_of (ltb (length p) 48) _ 8 _ _ _ refl refl
      (λ c8. row as_it_is tpdu_of (not (eqb (index p 6) 17)) _ 6 _ _ _ refl refl
      (λ c6. row as_it_is tpdu_of (ltb (length p) (40 + u16_at p 4) || ltb (u16_at p 4) 8) _ 9 _ [] (onward6 p) refl test9
      (λ c9.
      let low = or_neither (ltb (field 2 4 p) 8) (ltb (length p) (field 2 4 p + 40)) c9 in
      let least = ltb-false (field 2 4 p) 8 low.0 in
      let most = ltb-false (length p) (field 2 4 p + 40) low.1 in
      read6 (ltb-false (length p) 48 c8) (omega (arith, u16_is p 4, least)) (omega (arith, u16_is p 4, most))
      (fills
      (record {
        is_ipv6 = six;
        not_8 = ltb-false (length p) 48 c8;
        not_6 = eqb-true (index p 6) 17 (not-false (eqb (index p 6) 17) c6);
        not_9 = (least, most);
      }))
      ∙ ap told (passes (onward6 p) none))))
    where
      test9 : ltb (length p) (40 + u16_at p 4) || ltb (u16_at p 4) 8 ≡ ltb (field 2 4 p) 8 || ltb (length p) (field 2 4 p + 40)
      test9 =
          let e : 40 + field 2 4 p ≡ field 2 4 p + 40 = omega arith in
          rw (u16_is p 4, e) (or_turned (ltb (length p) (field 2 4 p + 40)) (ltb (field 2 4 p) 8))

-- the whole
pub decoded : DecodeMeasurementTpdu
unfolding rust.decode_measurement_tpdu
decoded p c =
    unless tpdu_of (eqb (length p) 0) _ _ _ (λ e. ap told (row_1 p (tpdu_rows p) (eqb-true (length p) 0 e)))
    (λ e. by (eqb-false (length p) 0 e) (eqb (index p 0 / 16) 4) refl (eqb (index p 0 / 16) 6) refl)
  where
    by : (length p ≡ 0 → ⊥) → (t : Bool) → eqb (index p 0 / 16) 4 ≡ t → (u : Bool) → eqb (index p 0 / 16) 6 ≡ u
        → outcome_by tpdu_of (elim t [
          | true ↦ rust.decode_ipv4_measurement p
          | false ↦ elim u [ true ↦ rust.decode_ipv6_measurement p | false ↦ Err (UnsupportedIpVersion (index p 0 / 16)) ]
        ]) ≡ told (read_of p)
    by h true e u f =
        let four = eqb-true (index p 0 / 16) 4 e in
        let whole = compared_whole p c four in
        of_whole p (compared_bytes p c) whole (λ right l. compared_filled p c V4 (four, no_earlier_cause p right, λ f. true_not_false (sym (is_fragment_lem p (compared_bytes p c) f) ∙ whole)))
        ∙ ap told (read_as_ipv4 p four)
    by h false e true f =
        let six = eqb-true (index p 0 / 16) 6 f in
        ipv6_read p (compared_bytes p c) (compared_filled p c V6) six ∙ ap told (past_2_ipv6 p refl (past_1 p (tpdu_rows p) h) six)
    by h false e false f = ap told (row_2 p refl (past_1 p (tpdu_rows p) h) (eqb-false (index p 0 / 16) 4 e) (eqb-false (index p 0 / 16) 6 f))

pub decoded_fragment : DecodeFragment
unfolding rust.decode_measurement_tpdu
decoded_fragment p b v f =
    rw (ne_eqb (length p) 0 (ipv4_not_empty p v), eq-eqb (index p 0 / 16) 4 v, rust.decode_measurement_tpdu)
    (of_fragment p b (is_fragment_lem p b f) ∙ ap told (read_as_ipv4 p v))

-- a packet without padding is compared
pub decoded_padded : DecodePadded
decoded_padded v source destination segment padding p whole c d =
    let fills : field 2 4 (part_in v whole) ≡ length (part_in v whole) = rw (d.part_is, append-nil segment) d.udp_length in
    let compared = compare_whole whole d.bytes (not_a_fragment v d.reaches) (filled_as whole v (version_is whole v d.reaches) fills) in
    (compared, decoded whole compared ∙ ap told (all_padding_ignored v source destination segment [] padding whole p d c))
  where
    not_a_fragment : (v : IpVersion) → ReachesUdp v whole → NoFragment whole
    not_a_fragment V4 r e = r.2
    not_a_fragment V6 r e = absurd (omega (arith, r.is_ipv6, e))

pub decoded_wrong_length : DecodeWrongLength
unfolding rust.decode_measurement_tpdu
decoded_wrong_length p b (v, right, whole) bad =
    rw (ne_eqb (length p) 0 (ipv4_not_empty p v), eq-eqb (index p 0 / 16) 4 v, rust.decode_measurement_tpdu)
    (of_whole p b (no_fragment p b whole) (λ h fits. absurd (bad (length_right (part_in V4 p) fits))) ∙ ap told (read_as_ipv4 p v))

pub decoded_differs : DecodeDiffers
unfolding rust.decode_measurement_tpdu rust.decode_ipv4_measurement rust.parse_udp_segment rust.decode rust.checksum_udp_ipv4_including_checksum rust.ipv4_pseudo rust.checksum rust.add_parts rust.add_part wrapping_add rust.while_carries sum_of folding fold_of checksum_of pseudo_header measurement_magic padded read_of tpdu_causes ihl is_fragment ipv4_causes read_ipv4 read_udp read_probe udp_causes probe_causes sum_wrong covered length_wrong payload first_cause
decoded_differs = record { refused_by_the_rust = refl; read_by_the_rust = refl }
