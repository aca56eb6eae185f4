-- Every T-PDU that is not a fragment and whose UDP length fills its part is compared, 39 as 4, and each other number as itself; and what is added is ours.
use Rattle.std.proofs.Common.{◌≡◌, ℕ, ◌-◌, ◌*◌, ◌%◌, Bool, true, false, List, [], ◌∷◌, ◌++◌, length, get_or, drop, sym, refl, ap, ◌∙◌, inl, inr, arith, length-append, length-drop, length-take, ne_eqb}
use Rattle.error.proofs.Tests.{true_not_false}
use Rattle.field.specs.Field.{Bytes, field}
use Rattle.field.proofs.Fields.{bytes_append}
use Rattle.measurement.specs.Flow.{version_number, address_length, address, InRange}
use Rattle.measurement.specs.Probe.{probe, measurement_magic}
use Rattle.measurement.specs.declared.InnerIpFlow.{InnerIpFlow}
use Rattle.measurement.specs.declared.IpVersion.{IpVersion}
use Rattle.measurement.specs.declared.IpVersion.TheVariants.{V4, V6}
use Rattle.measurement_packet.specs.Packet.{ipv4, ipv4_header, ipv6, ip_header, udp, udp_segment, build_of}
use Rattle.measurement_packet.proofs.Built.{packet, packet_bytes}
use Rattle.measurement_reading.specs.Padding.{ReachesUdp, part_in, LengthRight, Carries}
use Rattle.measurement_reading.specs.Read.{version_of, is_fragment}
use Rattle.measurement_reading.proofs.Rows.{fragment_tested}
use Rattle.measurement_reading.proofs.Fragments.{is_fragment_lem, length_is}
use Rattle.measurement_reading.proofs.Padding.{no_fragment, udp_length}
use Rattle.reflector_answer.specs.declared.ReflectorPolicy.{ReflectorPolicy}
use Rattle.reflector_answer.specs.declared.ReflectorPolicy.TheVariants.{Echo, SinkAndCount, Route}
use Rattle.rust_reference.specs.Compared.{Filled, Compared, as_the_rust_tells}
use Rattle.rust_reference.specs.Claims.{AddedIsOurs, NoFragment, WhatIsCompared}
use Rattle.rust_reference.proofs.Told.{no_error}

abbrev sunk : ReflectorPolicy → Bool
sunk policy = elim policy [ Echo ↦ false | SinkAndCount ↦ true | Route target ↦ false ]

abbrev echoed : ReflectorPolicy → Bool
echoed policy = elim policy [ Echo ↦ true | SinkAndCount ↦ false | Route target ↦ false ]

-- a packet is of one version, so a part of the other is not judged
module _ (tpdu : List ℕ) where
  pub version_is : (v : IpVersion) → ReachesUdp v tpdu → version_of tpdu ≡ version_number v
  version_is V4 r = r.0
  version_is V6 r = r.is_ipv6

  pub filled_as : (v : IpVersion) → version_of tpdu ≡ version_number v → field 2 4 (part_in v tpdu) ≡ length (part_in v tpdu) → Filled tpdu
  filled_as V4 e fills V4 r = fills
  filled_as V4 e fills V6 r = absurd (omega (arith, r.is_ipv6))
  filled_as V6 e fills V6 r = fills
  filled_as V6 e fills V4 r = absurd (omega (arith, r.0))

pub compare_whole : (tpdu : List ℕ) → Bytes tpdu → NoFragment tpdu → Filled tpdu → Compared tpdu
compare_whole tpdu b n filled = (b, λ v. no_fragment tpdu b (n v), filled)

-- a built packet: its flags are 0, and its UDP length is 32, as its part's
module _ (S D : List ℕ) (sport dport s t : ℕ) (behind : List ℕ) where
  built_whole : (v : IpVersion) → version_of (packet v S D sport dport s t ++ behind) ≡ 4 → is_fragment (packet v S D sport dport s t ++ behind) ≡ false
  unfolding ip_header ipv4 ipv4_header ipv6
  built_whole V4 e = sym (fragment_tested (packet V4 S D sport dport s t ++ behind) {n = 0} {t = 0} refl (λ z. refl) (λ z. refl))
  built_whole V6 e = absurd (omega arith)

  built_filled : (v : IpVersion) → Filled (packet v S D sport dport s t ++ behind)
  unfolding ip_header ipv4 ipv4_header ipv6 udp udp_segment probe measurement_magic address_length
  built_filled V4 = filled_as (packet V4 S D sport dport s t ++ behind) V4 refl refl
  built_filled V6 = filled_as (packet V6 S D sport dport s t ++ behind) V6 refl refl

every_built : (f : InnerIpFlow) (s t : ℕ) → InRange f s t → (behind : List ℕ) → Bytes behind → Compared (build_of f s t ++ behind)
unfolding build_of address
every_built f s t g behind b = (
  bytes_append (build_of f s t) behind (packet_bytes f.version f.src f.dst f.src_port f.dst_port s t g.source g.destination) b,
  built_whole f.src f.dst f.src_port f.dst_port s t behind f.version,
  built_filled f.src f.dst f.src_port f.dst_port s t behind f.version,
)

no_padding : (v : IpVersion) (source destination segment padding tpdu : List ℕ) → Carries v source destination segment padding tpdu → Compared tpdu → padding ≡ []
no_padding v source destination segment padding tpdu c compared = empty padding (omega (arith, same, length-append segment padding))
  where
    same : length segment ≡ length (segment ++ padding)
    same = sym (udp_length segment padding c.has_header c.udp_length) ∙ rw c.part_is at (compared.2 v c.reaches)

    empty : (l : List ℕ) → length l ≡ 0 → l ≡ []
    empty [] e = refl
    empty (x ∷ l) e = absurd (omega arith)

-- a part has 8 bytes or more
length_right : (v : IpVersion) (tpdu : List ℕ) → ReachesUdp v tpdu → field 2 4 (part_in v tpdu) ≡ length (part_in v tpdu) → LengthRight (part_in v tpdu)
length_right V4 tpdu (is_4, right, whole) fills =
    let header = get_or tpdu 0 0 % 16 * 4 in
    let n = length-take (field 2 2 tpdu - header) (drop header tpdu) in
    let m = length-drop header tpdu in
    (omega (arith, fills, right.not_5, length_is tpdu, n, m), omega (arith, fills))
length_right V6 tpdu right fills =
    let n = length-take (field 2 4 tpdu) (drop 40 tpdu) in
    let m = length-drop 40 tpdu in
    (omega (arith, fills, right.not_9, n, m), omega (arith, fills))

pub all_compared : WhatIsCompared
all_compared = record {
  every_tpdu = compare_whole;
  no_fragment = λ tpdu c v f. true_not_false (sym (is_fragment_lem tpdu c.0 f) ∙ c.1 v);
  no_padding = no_padding;
  no_wrong_length = λ v tpdu r bad c. bad (length_right v tpdu r (c.2 v r));
  every_built = every_built;
  every_unjudged = λ tpdu b n unjudged. compare_whole tpdu b n (λ v r. absurd (unjudged v r));
  every_return = λ message_type payload b n f is. compare_whole payload b n f;
  every_echoed = λ message payload b n f is. (λ echoes. compare_whole payload b n f, λ target routes. absurd (true_not_false (ap echoed routes)));
  every_routed = λ target message payload l is. (λ echoes. absurd (true_not_false (sym (ap echoed echoes))), λ other routes. l);
  every_other_return = λ message_type payload other is. absurd (other is);
  every_other_message = λ policy message payload other is. absurd (other is);
  every_sunk_message = λ message payload is. (λ echoes. absurd (true_not_false (ap sunk echoes)), λ target routes. absurd (true_not_false (ap sunk routes)));
  cut_as_ihl = refl;
  every_other_refusal = λ n other. rw (ne_eqb n 39 other, as_the_rust_tells);
}

pub added_is_ours : AddedIsOurs
added_is_ours error (inl e) = no_error error e refl
added_is_ours error (inr (inl e)) = no_error error e refl
added_is_ours error (inr (inr (inl e))) = no_error error e refl
added_is_ours error (inr (inr (inr (inl e)))) = no_error error e refl
added_is_ours error (inr (inr (inr (inr e)))) = no_error error e refl
