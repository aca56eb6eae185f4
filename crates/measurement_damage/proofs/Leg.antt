-- One leg: a built T-PDU of which one span was turned is refused, or read as it was built. The proof goes by the UDP length first, so the same
-- steps serve both versions; the IPv4 header checksum is not needed.
use Prim.Native.Nat.{ℕ, ◌+◌, ◌-◌, ◌*◌, ◌/◌, ◌%◌, ◌^◌, ◌<◌, ◌≤◌}
use native.Mathlib.Omega.{arith}
use native.Mathlib.Nat.{min-le_left, min-le_right}
use mathlib.Core.Path.{◌≡◌, refl, sym, ap, ap₂, ◌∙◌}
use mathlib.Core.List.{List}
use mathlib.Core.Logic.{◌⊎◌, inl, inr}
use lib.ListN.{length, take, drop, get_or, length-take, length-drop}
use lib.Seq.{take_all, drop-drop}
use Rattle.error.specs.Outcome.{gives}
use Rattle.field.specs.Field.{Bytes, bytes_at, field}
use Rattle.field.proofs.Fields.{bytes_drop, bytes_at_drop}
use Rattle.checksum.specs.Sum.{sum_of, fold_of}
use Rattle.checksum.specs.Damage.{Turned}
use Rattle.checksum.proofs.Clip.{turned_drop}
use Rattle.checksum.proofs.Spot.{spot, kept_behind}
use Rattle.measurement.specs.Flow.{address_length}
use Rattle.measurement.specs.Probe.{probe, measurement_magic}
use Rattle.measurement.specs.declared.DecodedTpdu.{DecodedTpdu}
use Rattle.measurement.specs.declared.IpVersion.{IpVersion}
use Rattle.measurement.specs.declared.IpVersion.TheVariants.{V4, V6}
use Rattle.measurement_packet.specs.Packet.{ipv4, ipv4_header, ipv6, ip_header, udp, udp_segment}
use Rattle.measurement_reading.specs.Read.{payload, read_udp, ihl, read_of}
use Rattle.measurement_packet.proofs.Built.{packet, pseudo, packet_even, packet_bytes, segment_verifies, segment_checksum_not_0, segment_udp_length}
use Rattle.measurement_reading.proofs.Accept.{part_accepted, Accepted4, Accepted6, accepted}
use Rattle.measurement_damage.proofs.ReadBack.{tpdu, tpdu_is}
use Rattle.measurement_damage.proofs.Damaged.{segment_sum, same_reading}

-- a part that gives something has room for a header of 8 bytes and a probe of 24
part_long : (v : IpVersion) (src dst u : List ℕ) (r : DecodedTpdu) → read_udp v src dst u ≡ gives r → 32 ≤ length u
unfolding payload
part_long v src dst u r e =
    let q = part_accepted src dst u r v e in
    omega (arith, q.long, length-take (field 2 4 u - 8) (drop 8 u), min-le_right (field 2 4 u - 8) (length (drop 8 u)), length-drop 8 u)

at_most : (m : ℕ) (l : List ℕ) → length (take m l) ≤ m
at_most m l = omega (arith, length-take m l, min-le_left m (length l))

-- an accepted packet of a built packet's length: its part starts where the built one's does, and is the whole rest
module _ (a : List ℕ) (r : DecodedTpdu) where
  whole_part_4 : length a ≡ 52 → Accepted4 a r → read_udp V4 (bytes_at 4 0 (drop 12 a)) (bytes_at 4 4 (drop 12 a)) (drop 8 (drop 12 a)) ≡ gives r
  whole_part_4 h q =
      let m = field 2 2 a - ihl a * 4 in
      let long = part_long V4 (bytes_at 4 12 a) (bytes_at 4 16 a) (take m (drop (ihl a * 4) a)) r q.part in
      let most = at_most m (drop (ihl a * 4) a) in
      let k : ihl a ≡ 5 = omega (arith, q.low, q.within) in
      let n : field 2 2 a ≡ 52 = omega (arith, q.low, q.within) in
      let u : drop 8 (drop 12 a) ≡ take (field 2 2 a - ihl a * 4) (drop (ihl a * 4) a) =
      drop-drop 8 12 a ∙ sym (take_all 32 (drop 20 a) (omega (arith, length-drop 20 a))) ∙ ap₂ (λ (n k : ℕ). take (n - k * 4) (drop (k * 4) a)) (sym n) (sym k) in
      ap₂ (λ (x y : List ℕ). read_udp V4 x y (drop 8 (drop 12 a))) (sym (bytes_at_drop 4 12 0 a)) (sym (bytes_at_drop 4 12 4 a))
      ∙ ap (λ (x : List ℕ). read_udp V4 (bytes_at 4 12 a) (bytes_at 4 16 a) x) u ∙ q.part

  whole_part_6 : length a ≡ 72 → Accepted6 a r → read_udp V6 (bytes_at 16 0 (drop 8 a)) (bytes_at 16 16 (drop 8 a)) (drop 32 (drop 8 a)) ≡ gives r
  whole_part_6 h q =
      let long = part_long V6 (bytes_at 16 8 a) (bytes_at 16 24 a) (take (field 2 4 a) (drop 40 a)) r q.part in
      let most = at_most (field 2 4 a) (drop 40 a) in
      let n : field 2 4 a ≡ 32 = omega (arith, q.within) in
      let u : drop 32 (drop 8 a) ≡ take (field 2 4 a) (drop 40 a) =
      drop-drop 32 8 a ∙ sym (take_all 32 (drop 40 a) (omega (arith, length-drop 40 a))) ∙ ap (λ (n : ℕ). take n (drop 40 a)) (sym n) in
      ap₂ (λ (x y : List ℕ). read_udp V6 x y (drop 32 (drop 8 a))) (sym (bytes_at_drop 16 8 0 a)) (sym (bytes_at_drop 16 8 16 a))
      ∙ ap (λ (x : List ℕ). read_udp V6 (bytes_at 16 8 a) (bytes_at 16 24 a) x) u ∙ q.part

module _ (S D : List ℕ) (sport dport s t : ℕ) (b_s : Bytes S) (b_d : Bytes D) (hs : sport < 65536) (hd : dport < 65536) (ss : s < 2 ^ 64) (st : t < 2 ^ 64) (a : List ℕ) (r : DecodedTpdu) where
  abbrev sent4 : List ℕ
  sent4 = packet V4 S D sport dport s t

  abbrev sent6 : List ℕ
  sent6 = packet V6 S D sport dport s t

  fold4 : fold_of (sum_of (drop 12 sent4) + 49) ≡ 65535
  unfolding ip_header ipv4 ipv4_header udp udp_segment probe measurement_magic address_length
  fold4 =
      ap fold_of (sym (segment_sum V4 (drop 12 sent4) refl refl))
      ∙ segment_verifies (pseudo V4 S D sport dport s t) (packet_even V4 S D sport dport s t) sport dport s t

  fold6 : fold_of (sum_of (drop 8 sent6) + 49) ≡ 65535
  unfolding ip_header ipv6 udp udp_segment probe measurement_magic address_length
  fold6 =
      ap fold_of (sym (segment_sum V6 (drop 8 sent6) refl refl))
      ∙ segment_verifies (pseudo V6 S D sport dport s t) (packet_even V6 S D sport dport s t) sport dport s t

  leg4 : Turned sent4 a → read_of a ≡ gives r → r ≡ tpdu V4 S D sport dport s t
  unfolding ip_header ipv4 ipv4_header udp udp_segment probe measurement_magic address_length
  leg4 q e = go (accepted a r e)
    where
      b : Bytes sent4
      b = packet_bytes V4 S D sport dport s t b_s b_d

      ph : List ℕ
      ph = pseudo V4 S D sport dport s t

      ev : length (pseudo V4 S D sport dport s t) % 2 ≡ 0
      ev = packet_even V4 S D sport dport s t

      go : ((get_or a 0 0 / 16 ≡ 4) × Accepted4 a r) ⊎ ((get_or a 0 0 / 16 ≡ 6) × Accepted6 a r) → r ≡ tpdu V4 S D sport dport s t
      go (inl x) =
          same_reading V4 (drop 12 sent4) (drop 12 a) r (bytes_drop 12 sent4 b) (turned_drop 12 q) refl fold4
          (segment_udp_length (pseudo V4 S D sport dport s t) ev sport dport s t) (segment_checksum_not_0 (pseudo V4 S D sport dport s t) ev sport dport s t)
          (part_accepted (bytes_at 4 0 (drop 12 a)) (bytes_at 4 4 (drop 12 a)) (drop 8 (drop 12 a)) r V4 (whole_part_4 a r q.same_length x.1))
          ∙ tpdu_is V4 S D sport dport s t hs hd ss st
      go (inr x) =
          let six : get_or a 6 0 ≡ 0 = kept_behind (spot b q) 0 6 (λ c. omega (arith, x.0, c)) (omega arith) in
          absurd (omega (arith, x.1.udp))

  leg6 : Turned sent6 a → read_of a ≡ gives r → r ≡ tpdu V6 S D sport dport s t
  unfolding ip_header ipv6 udp udp_segment probe measurement_magic address_length
  leg6 q e = go (accepted a r e)
    where
      b : Bytes sent6
      b = packet_bytes V6 S D sport dport s t b_s b_d

      ev : length (pseudo V6 S D sport dport s t) % 2 ≡ 0
      ev = packet_even V6 S D sport dport s t

      go : ((get_or a 0 0 / 16 ≡ 4) × Accepted4 a r) ⊎ ((get_or a 0 0 / 16 ≡ 6) × Accepted6 a r) → r ≡ tpdu V6 S D sport dport s t
      go (inr x) =
          same_reading V6 (drop 8 sent6) (drop 8 a) r (bytes_drop 8 sent6 b) (turned_drop 8 q) refl fold6
          (segment_udp_length (pseudo V6 S D sport dport s t) ev sport dport s t) (segment_checksum_not_0 (pseudo V6 S D sport dport s t) ev sport dport s t)
          (part_accepted (bytes_at 16 0 (drop 8 a)) (bytes_at 16 16 (drop 8 a)) (drop 32 (drop 8 a)) r V6 (whole_part_6 a r q.same_length x.1))
          ∙ tpdu_is V6 S D sport dport s t hs hd ss st
      go (inl x) =
          let three : get_or a 3 0 ≡ 0 = kept_behind (spot b q) 0 3 (λ c. omega (arith, x.0, c)) (omega arith) in
          let len : length a ≡ 72 = q.same_length in
          absurd (omega (arith, x.1.low, x.1.fits, x.1.within))

  pub leg : (v : IpVersion) → Turned (packet v S D sport dport s t) a → read_of a ≡ gives r → r ≡ tpdu v S D sport dport s t
  leg V4 = leg4
  leg V6 = leg6
