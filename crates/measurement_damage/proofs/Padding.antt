-- The claims of specs/Padding.antt.
use Prim.Native.Nat.{ℕ, ◌+◌, ◌-◌, ◌/◌, ◌%◌, ◌^◌, ◌<◌, ◌≤◌}
use native.Mathlib.Omega.{arith}
use mathlib.Core.Path.{◌≡◌, refl, sym, ap, ◌∙◌}
use mathlib.Core.List.{List, [], ◌∷◌, ◌++◌}
use lib.ListN.{length, take, length-append}
use lib.Seq.{take-append_seam, take-append-add}
use Rattle.error.specs.Outcome.{gives}
use Rattle.field.specs.Field.{bytes_at, field}
use Rattle.field.proofs.Fields.{value_big_endian}
use Rattle.measurement.specs.Flow.{address_length, address}
use Rattle.measurement.specs.Probe.{probe, measurement_magic}
use Rattle.measurement.specs.declared.IpVersion.{IpVersion}
use Rattle.measurement.specs.declared.IpVersion.TheVariants.{V4, V6}
use Rattle.measurement_packet.specs.Packet.{ipv4, ipv4_header, ipv6, ip_header, udp, udp_segment, build_of}
use Rattle.measurement_reading.specs.Read.{read_udp, ihl, read_of}
use Rattle.measurement_packet.proofs.Built.{packet, source, destination, pseudo, packet_even, segment_length, segment_udp_length}
use Rattle.measurement_reading.proofs.Rows.{past_38, fragment_tested, rest_ipv4, read_as_ipv4, ipv6_rows, past_8, past_6_ipv6, past_9, rest_ipv6, tpdu_rows, past_1, past_2_ipv6}
use Rattle.measurement_reading.proofs.Fragments.{left_38}
use Rattle.measurement_reading.proofs.Padding.{padding_ignored, all_padding_ignored}
use Rattle.measurement_damage.specs.Echo.{echo_of}
use Rattle.measurement_damage.specs.Padding.{with_padding, most_padding, BuiltWithPadding, PaddingNotEchoed}
use Rattle.measurement_damage.proofs.ReadBack.{tpdu, part_of_packet, placed}
use Rattle.measurement_damage.proofs.Claims.{echo_of_read}

module _ (S D : List ℕ) (sport dport s t : ℕ) (hs : sport < 65536) (hd : dport < 65536) (ss : s < 2 ^ 64) (st : t < 2 ^ 64) (padding behind : List ℕ) where
  abbrev segment : IpVersion → List ℕ
  segment v = udp (pseudo v S D sport dport s t) sport dport s t

  has_32 : (v : IpVersion) → length (segment v) ≡ 32
  has_32 v = segment_length (pseudo v S D sport dport s t) (packet_even v S D sport dport s t) sport dport s t

  says_32 : (v : IpVersion) → field 2 4 (segment v) ≡ 32
  says_32 v = segment_udp_length (pseudo v S D sport dport s t) (packet_even v S D sport dport s t) sport dport s t

  -- the part that the IP header's length cuts out, and what it gives
  part_gives : (v : IpVersion) (n : ℕ) → n ≡ 32 + length padding
      → gives (tpdu v S D sport dport s t) ≡ read_udp v (source v S D sport dport s t) (destination v S D sport dport s t) (take n (segment v ++ (padding ++ behind)))
  part_gives v n e =
      let u = segment v in
      let most : n ≡ length u + length padding = omega (arith, has_32 v, e) in
      let cut : take n (u ++ (padding ++ behind)) ≡ u ++ padding =
      ap (λ (k : ℕ). take k (u ++ (padding ++ behind))) most
      ∙ take-append-add u (padding ++ behind) (length padding) ∙ ap (λ (l : List ℕ). u ++ l) (take-append_seam padding behind) in
      part_of_packet v S D sport dport s t hs hd ss st
      ∙ sym (padding_ignored u padding (omega (arith, has_32 v)) (says_32 v ∙ sym (has_32 v)) v (source v S D sport dport s t) (destination v S D sport dport s t))
      ∙ ap (λ (l : List ℕ). read_udp v (source v S D sport dport s t) (destination v S D sport dport s t) l) (sym cut)

  -- an IPv4 packet whose total length counts the padding, and an IPv6 packet whose payload length does
  abbrev padded4 : List ℕ
  padded4 = with_padding V4 padding (packet V4 S D sport dport s t) ++ behind

  abbrev padded6 : List ℕ
  padded6 = with_padding V6 padding (packet V6 S D sport dport s t) ++ behind

  read_4 : length padding ≤ most_padding V4 → gives (tpdu V4 S D sport dport s t) ≡ read_of padded4
  unfolding ip_header ipv4 ipv4_header udp udp_segment probe measurement_magic address_length ihl
  read_4 fits =
      let w = 52 + length padding in
      let n = length-append padding behind in
      let total : w ≡ field 2 2 padded4 = sym (value_big_endian 2 w (omega arith)) in
      let left = left_38 padded4 {k = 5} refl total
      (record {
        not_3 = omega arith;
        not_4 = omega arith;
        not_39 = omega arith;
        not_5 = (omega arith, omega (arith, n));
        not_6 = refl;
        not_7 = placed (69 ∷ 0 ∷ w / 256 % 256 ∷ w / 1 % 256 ∷ 0 ∷ 0 ∷ 0 ∷ 0 ∷ 64 ∷ 17 ∷ []) (bytes_at 4 0 S ++ bytes_at 4 0 D) refl;
      }) in
      part_gives V4 (w - 20) (omega arith)
      ∙ rest_ipv4 padded4 {k = 5} refl total (past_38 padded4 left (sym (fragment_tested padded4 {n = 0} {t = 0} refl (λ z. refl) (λ z. refl))))
      ∙ read_as_ipv4 padded4 refl

  read_6 : length padding ≤ most_padding V6 → gives (tpdu V6 S D sport dport s t) ≡ read_of padded6
  unfolding ip_header ipv6 udp udp_segment probe measurement_magic address_length
  read_6 fits =
      let w = 32 + length padding in
      let n = length-append padding behind in
      let total : w ≡ field 2 4 padded6 = sym (value_big_endian 2 w (omega arith)) in
      let left_9 = past_6_ipv6 padded6 (past_8 padded6 (ipv6_rows padded6) (omega arith)) refl in
      let left_0 = past_9 padded6 total left_9 (omega arith) (omega (arith, n)) in
      part_gives V6 (w + 40 - 40) (omega arith)
      ∙ rest_ipv6 padded6 total left_0
      ∙ past_2_ipv6 padded6 {v = 6} refl (past_1 padded6 (tpdu_rows padded6) (λ e. omega arith)) refl

  pub padded_read : (v : IpVersion) → length padding ≤ most_padding v → gives (tpdu v S D sport dport s t) ≡ read_of (with_padding v padding (packet v S D sport dport s t) ++ behind)
  padded_read V4 = read_4
  padded_read V6 = read_6

pub built_with_padding : BuiltWithPadding
unfolding build_of address
built_with_padding f s t g padding fits behind =
    let p = with_padding f.version padding (build_of f s t) ++ behind in
    let read = sym (padded_read f.src f.dst f.src_port f.dst_port s t g.source_port g.destination_port g.sequence g.time padding behind f.version fits) in
    record { reading = read; echoing = echo_of_read f s t p read }

pub padding_not_echoed : PaddingNotEchoed
unfolding echo_of
padding_not_echoed v source destination segment padding other p q c d = rw (all_padding_ignored v source destination segment padding other p q c d, echo_of)
