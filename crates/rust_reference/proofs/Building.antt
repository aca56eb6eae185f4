-- Building: the Rust's packet, written into a vector of zeros, is the RFCs' fields in the order of their diagrams.
use Rattle.std.proofs.Common.{◌≡◌, ℕ, Bool, true, false, ltb, List, [], ◌∷◌, ◌++◌, length, refl, ap, ◌∙◌, ap₂, inl, arith}
use Rattle.error.specs.Outcome.{refused}
use Rattle.field.specs.Field.{Bytes, bytes_at}
use Rattle.field.proofs.Fields.{bytes_append, bytes_at_lem}
use Rattle.checksum.specs.Sum.{checksum_of}
use Rattle.measurement.specs.Flow.{address_length, address}
use Rattle.measurement.specs.Pseudo.{pseudo_header}
use Rattle.measurement.specs.Probe.{measurement_magic, probe}
use Rattle.measurement.specs.Answer.{writing}
use Rattle.measurement.specs.declared.InnerIpFlow.{InnerIpFlow}
use Rattle.measurement.specs.declared.IpVersion.{IpVersion}
use Rattle.measurement.specs.declared.IpVersion.TheVariants.{V4, V6}
use Rattle.measurement_packet.specs.Packet.{ipv4_header, ipv4, ipv6, ip_header, udp_segment, nonzero, udp, build_of}
use Rattle.rust_reference.specs.Error.{Result, Ok, Err}
use Rattle.rust_reference.specs.Answers.{rust_flow_of, rust_flow, in_buffer, told_writing}
use Rattle.rust_reference.specs.Claims.{NoneAdded, Encode, BuildMeasurementTpdu}
use Rattle.rust_reference.specs.Measurement as rust
use Rattle.rust_reference.proofs.Checksums.{of_one, nonzero_of_two}
use Rattle.rust_reference.proofs.Told.{error_told}

module _ (S D : List ℕ) (sport dport s t : ℕ) where
  abbrev src4 : List ℕ
  src4 = bytes_at 4 0 S

  abbrev dst4 : List ℕ
  dst4 = bytes_at 4 0 D

  abbrev blank : List ℕ
  blank = udp_segment 0 sport dport s t

  abbrev pseudo4 : List ℕ
  pseudo4 = pseudo_header V4 src4 dst4 32

  -- the bytes, but for the two checksums
  ipv4_shape : rust.build_ipv4_udp src4 dst4 sport dport (rust.encode (record { sequence = s; send_timestamp_ns = t }))
      ≡ Ok (ipv4_header (rust.checksum (ipv4_header 0 src4 dst4 ∷ [])) src4 dst4 ++ udp_segment (rust.nonzero_checksum (pseudo4 ∷ blank ∷ [])) sport dport s t)
  unfolding rust.build_ipv4_udp rust.ipv4_packet rust.ipv4_header rust.write_udp_segment rust.udp_checksum_ipv4 rust.ipv4_pseudo rust.encode ipv4_header udp_segment probe measurement_magic pseudo_header
  ipv4_shape = refl

  abbrev src6 : List ℕ
  src6 = bytes_at 16 0 S

  abbrev dst6 : List ℕ
  dst6 = bytes_at 16 0 D

  abbrev pseudo6 : List ℕ
  pseudo6 = pseudo_header V6 src6 dst6 32

  ipv6_shape : rust.build_ipv6_udp src6 dst6 sport dport (rust.encode (record { sequence = s; send_timestamp_ns = t }))
      ≡ Ok (ipv6 src6 dst6 ++ udp_segment (rust.nonzero_checksum (pseudo6 ∷ blank ∷ [])) sport dport s t)
  unfolding rust.build_ipv6_udp rust.ipv6_packet rust.ipv6_header rust.write_udp_segment rust.udp_checksum_ipv6 rust.ipv6_pseudo rust.encode ipv6 udp_segment probe measurement_magic pseudo_header
  ipv6_shape = refl

  module _ (p : Bytes S) (q : Bytes D) where
    header_bytes_lem : Bytes (ipv4_header 0 src4 dst4)
    unfolding ipv4_header
    header_bytes_lem =
        let h : List ℕ = 69 ∷ 0 ∷ 0 ∷ 52 ∷ 0 ∷ 0 ∷ 0 ∷ 0 ∷ 64 ∷ 17 ∷ 0 ∷ 0 ∷ [] in
        bytes_append (h ++ src4) dst4 (bytes_append h src4 (omega arith) (bytes_at_lem 4 0 S p)) (bytes_at_lem 4 0 D q)

    blank_bytes : Bytes blank
    unfolding udp_segment probe measurement_magic
    blank_bytes = omega arith

    pseudo4_bytes : Bytes pseudo4
    unfolding pseudo_header
    pseudo4_bytes = bytes_append (src4 ++ dst4) (0 ∷ 17 ∷ 0 ∷ 32 ∷ []) (bytes_append src4 dst4 (bytes_at_lem 4 0 S p) (bytes_at_lem 4 0 D q)) (omega arith)

    pseudo6_bytes : Bytes pseudo6
    unfolding pseudo_header
    pseudo6_bytes =
        bytes_append (src6 ++ dst6) (0 ∷ 0 ∷ 0 ∷ 32 ∷ 0 ∷ 0 ∷ 0 ∷ 17 ∷ [])
        (bytes_append src6 dst6 (bytes_at_lem 16 0 S p) (bytes_at_lem 16 0 D q)) (omega arith)

    header_checksum : rust.checksum (ipv4_header 0 src4 dst4 ∷ []) ≡ checksum_of (ipv4_header 0 src4 dst4)
    header_checksum = of_one (ipv4_header 0 src4 dst4) header_bytes_lem (unfold ipv4_header in omega arith)

    udp4_checksum : rust.nonzero_checksum (pseudo4 ∷ blank ∷ []) ≡ nonzero (checksum_of (pseudo4 ++ blank))
    unfolding pseudo_header udp_segment probe measurement_magic
    udp4_checksum = nonzero_of_two pseudo4 blank pseudo4_bytes blank_bytes refl (omega arith)

    udp6_checksum : rust.nonzero_checksum (pseudo6 ∷ blank ∷ []) ≡ nonzero (checksum_of (pseudo6 ++ blank))
    unfolding pseudo_header udp_segment probe measurement_magic
    udp6_checksum = nonzero_of_two pseudo6 blank pseudo6_bytes blank_bytes refl (omega arith)

    pub built4 : rust.build_ipv4_udp src4 dst4 sport dport (rust.encode (record { sequence = s; send_timestamp_ns = t }))
        ≡ Ok (ip_header V4 src4 dst4 ++ udp pseudo4 sport dport s t)
    unfolding ip_header ipv4 udp
    built4 =
        ipv4_shape
        ∙ ap₂ (λ (c d : ℕ). Ok (ipv4_header c src4 dst4 ++ udp_segment d sport dport s t)) header_checksum udp4_checksum

    pub built6 : rust.build_ipv6_udp src6 dst6 sport dport (rust.encode (record { sequence = s; send_timestamp_ns = t }))
        ≡ Ok (ip_header V6 src6 dst6 ++ udp pseudo6 sport dport s t)
    unfolding ip_header udp
    built6 = ipv6_shape ∙ ap (λ (d : ℕ). Ok (ipv6 src6 dst6 ++ udp_segment d sport dport s t)) udp6_checksum

-- the probe
pub encoded : Encode
unfolding rust.encode probe measurement_magic
encoded header = refl

-- what the Rust builds
pub vec_is : (flow : InnerIpFlow) (sequence time : ℕ) → Bytes flow.src → Bytes flow.dst
    → rust.build_measurement_tpdu (rust_flow flow) sequence time ≡ Ok (build_of flow sequence time)
unfolding rust.build_measurement_tpdu rust.build_udp_tpdu build_of address address_length
vec_is flow s t p q = of flow.version
  where
    of : (v : IpVersion)
        → rust.build_measurement_tpdu (rust_flow_of v flow.src flow.dst flow.src_port flow.dst_port) s t
        ≡ Ok (ip_header v (address v flow.src) (address v flow.dst)
        ++ udp (pseudo_header v (address v flow.src) (address v flow.dst) 32) flow.src_port flow.dst_port s t)
    of V4 = built4 flow.src flow.dst flow.src_port flow.dst_port s t p q
    of V6 = built6 flow.src flow.dst flow.src_port flow.dst_port s t p q

-- bytes that fit are laid into the buffer; where 15 is not due, they fit
pub laid : (r : Result (List ℕ)) (bytes buffer : List ℕ) → r ≡ Ok bytes → NoneAdded (writing bytes buffer).outcome → in_buffer r buffer ≡ writing bytes buffer
unfolding writing
laid r bytes buffer e added = rw e (by (ltb (length buffer) (length bytes)) refl)
  where
    by : (t : Bool) → ltb (length buffer) (length bytes) ≡ t → in_buffer (Ok bytes) buffer ≡ writing bytes buffer
    by true f = absurd (added 15 (inl refl) (rw (f, writing)))
    by false f = rw (f, writing)

-- what the Rust leaves in a buffer is told as it is
in_buffer_told : (r : Result (List ℕ)) (buffer : List ℕ) → in_buffer r buffer ≡ told_writing (in_buffer r buffer)
in_buffer_told (Ok vec) buffer = refl
in_buffer_told (Err x) buffer = ap (λ (n : ℕ). record { outcome = refused n; buffer = buffer }) (error_told x)

pub build : BuildMeasurementTpdu
build flow s t range buffer added =
    let vec = rust.build_measurement_tpdu (rust_flow flow) s t in
    in_buffer_told vec buffer ∙ ap told_writing (laid vec (build_of flow s t) buffer (vec_is flow s t range.source range.destination) added)
