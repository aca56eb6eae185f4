-- The echo: what the Rust decoded has whole addresses, so it builds what document 01 builds.
use Rattle.std.proofs.Common.{◌≡◌, ℕ, ◌+◌, ◌*◌, ◌/◌, ◌%◌, ◌≤◌, Bool, true, false, not, ◌&&◌, ◌||◌, eqb, ltb, List, [], ◌∷◌, ◌++◌, length, take, drop, sym, refl, ap, ◌∙◌, arith, length-drop, length-take, ltb-false}
use Rattle.error.specs.Outcome.{Outcome, refused, gives}
use Rattle.error.proofs.Causes.{refused_gives}
use Rattle.field.specs.Field.{Bytes, bytes_at}
use Rattle.field.proofs.Fields.{bytes_take, bytes_drop, bytes_at_lem, whole_bytes_lem}
use Rattle.measurement.specs.Answer.{writing_of}
use Rattle.measurement.specs.Flow.{reversed_of, address_length, address, padded}
use Rattle.measurement.specs.Pseudo.{pseudo_header}
use Rattle.measurement.specs.Probe.{measurement_magic, probe}
use Rattle.measurement.specs.declared.DecodedTpdu.{DecodedTpdu}
use Rattle.measurement.specs.declared.MeasurementHeader.{MeasurementHeader}
use Rattle.measurement.specs.declared.InnerIpFlow.{InnerIpFlow}
use Rattle.measurement.specs.declared.IpVersion.{IpVersion}
use Rattle.measurement.specs.declared.IpVersion.TheVariants.{V4, V6}
use Rattle.measurement_packet.specs.Packet.{ipv4_header, ipv4, ipv6, ip_header, udp_segment, udp, build_of}
use Rattle.measurement_reading.specs.Read.{read_of}
use Rattle.measurement_damage.specs.Echo.{echo_of_tpdu, echo_of}
use Rattle.rust_reference.specs.Claims.{NoneAdded, Reversed, EchoTpdu}
use Rattle.rust_reference.specs.Compared.{Compared, told}
use Rattle.rust_reference.specs.Error.{DataplaneTestkitError, Result, Ok, Err, UnsupportedIpVersion, return_if, ◌>>=◌, ◌>>◌}
use Rattle.rust_reference.specs.Number.{outcome_of}
use Rattle.rust_reference.specs.Values.{index, range, u16_at}
use Rattle.rust_reference.specs.Answers.{rust_flow_of, flow_of, tpdu_of, in_buffer}
use Rattle.rust_reference.specs.Measurement as rust
use Rattle.rust_reference.proofs.Branches.{AllOk, all, none}
use Rattle.rust_reference.proofs.Building.{built4, built6, laid}
use Rattle.rust_reference.proofs.Decoding.{decoded}
use Rattle.rust_reference.proofs.Told.{Alike, both_give, both_refuse, alike, compared_bytes}

pub turned_round : Reversed
turned_round flow = of flow.version
  where
    of : (v : IpVersion)
        → rust.reversed (rust_flow_of v flow.src flow.dst flow.src_port flow.dst_port)
        ≡ rust_flow_of v flow.dst flow.src flow.dst_port flow.src_port
    of V4 = refl
    of V6 = refl

-- what holds of a value behind a test, and behind another result
after_test : {A : Type 0} (P : A → Type 0) (test : Bool) (error : DataplaneTestkitError) (rest : Result A) → (test ≡ false → AllOk P rest)
    → AllOk P (◌>>◌ (return_if test error) rest)
after_test P true error rest f = none
after_test P false error rest f = f refl

after : {A B : Type 0} (P : B → Type 0) (r : Result A) (k : A → Result B) → ((x : A) → AllOk P (k x)) → AllOk P (◌>>=◌ r k)
after P (Ok x) k f = f x
after P (Err e) k f = none

-- addresses of the right length
Whole : ℕ → List ℕ → List ℕ → Type 0
Whole n src dst = Bytes src × Bytes dst × (length src ≡ n) × (length dst ≡ n)

WholeFlow : rust.InnerIpFlow → Type 0
WholeFlow (rust.Ipv4 src dst src_port dst_port) = Whole 4 src dst
WholeFlow (rust.Ipv6 src dst src_port dst_port) = Whole 16 src dst

WholeTpdu : rust.DecodedTpdu → Type 0
WholeTpdu d = WholeFlow d.flow

module _ (p : List ℕ) (b : Bytes p) where
  whole4 : AllOk WholeTpdu (rust.decode_ipv4_measurement p)
  unfolding rust.decode_ipv4_measurement WholeTpdu WholeFlow Whole
  whole4 =
      after_test WholeTpdu (ltb (length p) 20) _ _
      (λ c3. after_test WholeTpdu (ltb (index p 0 % 16 * 4) 20 || ltb (length p) (index p 0 % 16 * 4 + 8)) _ _
      (λ c4. after_test WholeTpdu (ltb (u16_at p 2) (index p 0 % 16 * 4 + 8) || ltb (length p) (u16_at p 2)) _ _
      (λ c5. after_test WholeTpdu (not (eqb (index p 9) 17)) _ _
      (λ c6. after_test WholeTpdu (not (eqb (rust.checksum (range p 0 (index p 0 % 16 * 4) ∷ [])) 0)) _ _
      (λ c7. after WholeTpdu (rust.parse_udp_segment (range p (index p 0 % 16 * 4) (u16_at p 2))) _
      (λ segment. after_test WholeTpdu (not (eqb (u16_at (range p (index p 0 % 16 * 4) (u16_at p 2)) 6) 0) && not (eqb (rust.checksum_udp_ipv4_including_checksum (bytes_at 4 12 p) (bytes_at 4 16 p) (range p (index p 0 % 16 * 4) (u16_at p 2))) 0)) _ _
      (λ c12. after WholeTpdu (rust.decode segment.payload) _ (λ m. all fine))))))))
    where
      fine : Whole 4 (bytes_at 4 12 p) (bytes_at 4 16 p)
      fine = (bytes_at_lem 4 12 p b, bytes_at_lem 4 16 p b, refl, refl)

  whole6 : AllOk WholeTpdu (rust.decode_ipv6_measurement p)
  unfolding rust.decode_ipv6_measurement WholeTpdu WholeFlow Whole
  whole6 =
      after_test WholeTpdu (ltb (length p) 48) _ _
      (λ c8. after_test WholeTpdu (not (eqb (index p 6) 17)) _ _
      (λ c6. after_test WholeTpdu (ltb (length p) (40 + u16_at p 4) || ltb (u16_at p 4) 8) _ _
      (λ c9. after_test WholeTpdu (eqb (u16_at (range p 40 (40 + u16_at p 4)) 6) 0) _ _
      (λ c11. after_test WholeTpdu (not (eqb (rust.checksum_udp_ipv6_including_checksum (range p 8 24) (range p 24 40) (range p 40 (40 + u16_at p 4))) 0)) _ _
      (λ c12. after WholeTpdu (rust.parse_udp_segment (range p 40 (40 + u16_at p 4))) _
      (λ segment. after WholeTpdu (rust.decode segment.payload) _ (λ m. all (fine (ltb-false (length p) 48 c8)))))))))
    where
      sixteen : (at : ℕ) → at + 16 ≤ length p → length (take 16 (drop at p)) ≡ 16
      sixteen at h = omega (arith, length-take 16 (drop at p), length-drop at p)

      fine : 48 ≤ length p → Whole 16 (take 16 (drop 8 p)) (take 16 (drop 24 p))
      fine h = (bytes_take 16 (drop 8 p) (bytes_drop 8 p b), bytes_take 16 (drop 24 p) (bytes_drop 24 p b), sixteen 8 (omega arith), sixteen 24 (omega arith))

  whole : AllOk WholeTpdu (rust.decode_measurement_tpdu p)
  unfolding rust.decode_measurement_tpdu
  whole = after_test WholeTpdu (eqb (length p) 0) _ _ (λ c1. by (eqb (index p 0 / 16) 4) (eqb (index p 0 / 16) 6))
    where
      by : (t u : Bool) → AllOk WholeTpdu (elim t [
        | true ↦ rust.decode_ipv4_measurement p
        | false ↦ elim u [ true ↦ rust.decode_ipv6_measurement p | false ↦ Err (UnsupportedIpVersion (index p 0 / 16)) ]
      ])
      by true u = whole4
      by false true = whole6
      by false false = none

-- a whole address is read back from 16 bytes, and is the bytes of a flow
again4 : (l : List ℕ) → length l ≡ 4 → address V4 (padded l) ≡ l
unfolding address address_length padded
again4 l h = let e = whole_bytes_lem 4 l h in ap (λ (x : List ℕ). address V4 (padded x)) e ∙ sym e

again6 : (l : List ℕ) → length l ≡ 16 → address V6 (padded l) ≡ l
unfolding address address_length padded
again6 l h = let e = whole_bytes_lem 16 l h in ap (λ (x : List ℕ). address V6 (padded x)) e ∙ sym e

module _ (src dst : List ℕ) (sport dport : ℕ) (m : MeasurementHeader) where
  made4 : Whole 4 src dst → rust.build_ipv4_udp src dst sport dport (rust.encode m)
      ≡ Ok (ip_header V4 src dst ++ udp (pseudo_header V4 src dst 32) sport dport m.sequence m.send_timestamp_ns)
  unfolding Whole
  made4 w =
      let e = whole_bytes_lem 4 src w.2 in
      let f = whole_bytes_lem 4 dst w.3 in
      rw (e, f) (built4 src dst sport dport m.sequence m.send_timestamp_ns w.0 w.1)

  made6 : Whole 16 src dst → rust.build_ipv6_udp src dst sport dport (rust.encode m)
      ≡ Ok (ip_header V6 src dst ++ udp (pseudo_header V6 src dst 32) sport dport m.sequence m.send_timestamp_ns)
  unfolding Whole
  made6 w =
      let e = whole_bytes_lem 16 src w.2 in
      let f = whole_bytes_lem 16 dst w.3 in
      rw (e, f) (built6 src dst sport dport m.sequence m.send_timestamp_ns w.0 w.1)

turned : (n : ℕ) (src dst : List ℕ) → Whole n src dst → Whole n dst src
unfolding Whole
turned n src dst w = (w.1, w.0, w.3, w.2)

-- the echo of what was decoded
built : (d : rust.DecodedTpdu) → WholeTpdu d → rust.build_udp_tpdu (rust.reversed d.flow) (rust.encode d.measurement) ≡ Ok (echo_of_tpdu (tpdu_of d))
unfolding rust.build_udp_tpdu WholeTpdu WholeFlow build_of
built d w = of d.flow w
  where
    of : (f : rust.InnerIpFlow) → WholeFlow f
        → rust.build_udp_tpdu (rust.reversed f) (rust.encode d.measurement)
        ≡ Ok (build_of (reversed_of (flow_of f)) d.measurement.sequence d.measurement.send_timestamp_ns)
    of (rust.Ipv4 src dst sport dport) w =
        rw (again4 src (unfold Whole in w.2), again4 dst (unfold Whole in w.3)) (made4 dst src dport sport d.measurement (turned 4 src dst w))
    of (rust.Ipv6 src dst sport dport) w =
        rw (again6 src (unfold Whole in w.2), again6 dst (unfold Whole in w.3)) (made6 dst src dport sport d.measurement (turned 16 src dst w))

-- the outcome of the Rust's echo
pub echo_outcome : (p : List ℕ) → Compared p → outcome_of (rust.echo_tpdu p) ≡ told (echo_of p)
unfolding rust.echo_tpdu echo_of
echo_outcome p c = of (rust.decode_measurement_tpdu p) (whole p (compared_bytes p c)) (read_of p) (alike tpdu_of (rust.decode_measurement_tpdu p) (read_of p) (decoded p c))
  where
    of : (r : Result rust.DecodedTpdu) → AllOk WholeTpdu r → (o : Outcome DecodedTpdu) → Alike tpdu_of r o
        → outcome_of (◌>>=◌ r (λ d. rust.build_udp_tpdu (rust.reversed d.flow) (rust.encode d.measurement)))
        ≡ told (elim o [ refused n ↦ refused n | gives t ↦ gives (echo_of_tpdu t) ])
    of (Ok d) (all w) o both_give = ap outcome_of (built d w)
    of (Err x) none o (both_refuse e) = ap refused e

-- an echo has 52 or 72 bytes
built_short : (flow : InnerIpFlow) (s t : ℕ) → length (build_of flow s t) ≤ 65535
unfolding build_of ip_header ipv4 ipv4_header ipv6 udp udp_segment probe measurement_magic address address_length
built_short flow s t = of flow.version
  where
    of : (v : IpVersion)
        → length (ip_header v (address v flow.src) (address v flow.dst)
        ++ udp (pseudo_header v (address v flow.src) (address v flow.dst) 32) flow.src_port flow.dst_port s t)
        ≤ 65535
    of V4 = omega arith
    of V6 = omega arith

pub echo_short : (p bytes : List ℕ) → echo_of p ≡ gives bytes → length bytes ≤ 65535
unfolding echo_of
echo_short p bytes e = of (read_of p) e
  where
    of : (o : Outcome DecodedTpdu) → ◌≡◌ {A = Outcome (List ℕ)} (elim o [ refused n ↦ refused n | gives t ↦ gives (echo_of_tpdu t) ]) (gives bytes) → length bytes ≤ 65535
    of (refused n) e = absurd (refused_gives e)
    of (gives t) e =
        let same : echo_of_tpdu t ≡ bytes = cc in
        omega (arith, ap length same, built_short (reversed_of t.flow) t.measurement.sequence t.measurement.send_timestamp_ns)

pub echoed : EchoTpdu
unfolding writing_of
echoed p c buffer added = of (rust.echo_tpdu p) (echo_of p) (alike (λ x. x) (rust.echo_tpdu p) (echo_of p) (echo_outcome p c)) added
  where
    of : (r : Result (List ℕ)) (o : Outcome (List ℕ)) → Alike (λ x. x) r o → NoneAdded (writing_of o buffer).outcome → in_buffer r buffer ≡ writing_of (told o) buffer
    of (Ok bytes) o both_give added = laid (Ok bytes) bytes buffer refl added
    of (Err x) o (both_refuse e) added = ap (λ (n : ℕ). record { outcome = refused n; buffer = buffer }) e
