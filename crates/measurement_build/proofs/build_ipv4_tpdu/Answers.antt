-- `measurement_build::build_ipv4_tpdu` meets its contract.
use Prim.Native.Nat.{ℕ}
use mathlib.Core.Path.{refl, ap, ◌∙◌}
use mathlib.Core.List.{List, ◌++◌}
use lib.ListN.{drop}
use Rattle.measurement.specs.Flow.{address_length}
use Rattle.measurement.specs.declared.InnerIpFlow.{InnerIpFlow}
use Rattle.measurement.specs.declared.IpVersion.TheVariants.{V4}
use Rattle.measurement_packet.specs.Packet.{ip_header, ip_header_length}
use Rattle.measurement_build.proofs.Whole.{too_short, ipv4_headed, built}
use Rattle.measurement_build.proofs.build_ipv4_tpdu.Goals as goal

abbrev flow : List ℕ → List ℕ → ℕ → ℕ → InnerIpFlow
flow s d sport dport = record { version = V4; src = s; dst = d; src_port = sport; dst_port = dport }

pub returns-then-out-lt-IPV4_TPDU_BYTES : goal.returns-then-out-lt-IPV4_TPDU_BYTES
unfolding ip_header_length
returns-then-out-lt-IPV4_TPDU_BYTES c =
    let a = c.args in
    too_short (flow a.src a.dst a.src_port a.dst_port) a.sequence a.send_timestamp_ns V4 refl a.out.now c.if-out-lt-IPV4_TPDU_BYTES.true

pub returns : goal.returns
unfolding ip_header ip_header_length address_length
returns c =
    let a = c.args in
    let f = flow a.src a.dst a.src_port a.dst_port in
    let p = c.pseudo_header_words-pseudo.result in
    built f a.sequence a.send_timestamp_ns V4 refl a.out.now c.write_udp_segment.new.out c.write_ipv4_header.new.out p
    c.if-out-lt-IPV4_TPDU_BYTES.false
    (c.write_ipv4_header.ensures ∙ ap (λ (h : List ℕ). h ++ drop 20 a.out.now) (ipv4_headed f p refl c.pseudo_header_words-pseudo.ensures.0))
    c.pseudo_header_words-pseudo.ensures.0
    c.write_udp_segment.ensures
