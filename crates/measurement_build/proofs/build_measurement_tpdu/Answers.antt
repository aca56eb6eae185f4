use mathlib.Core.Path.{sym, ap, ◌∙◌}
use Rattle.measurement.specs.Answer.{writing}
use Rattle.measurement.specs.Flow.{address_length}
use Rattle.measurement.specs.declared.IpVersion.{IpVersion}
use Rattle.measurement.specs.declared.IpVersion.TheVariants.{V6}
use Rattle.measurement_packet.specs.Packet.{ip_header, ip_header_length, build_of}
use Rattle.measurement_build.proofs.Whole.{too_short, built}
use Rattle.measurement_build.proofs.build_measurement_tpdu.Goals as goal

pub returns-in-V4 : goal.returns-in-V4
returns-in-V4 c =
    let a = c.args in
    let f = a.flow in
    c.build_ipv4_tpdu.ensures
    ∙ ap (λ (v : IpVersion). writing (build_of (record { version = v; src = f.src; dst = f.dst; src_port = f.src_port; dst_port = f.dst_port }) a.sequence a.send_timestamp_ns) a.out.now)
    (sym c.in-V4.is)

pub returns-then-out-lt-IPV6_TPDU_BYTES : goal.returns-then-out-lt-IPV6_TPDU_BYTES
unfolding ip_header_length
returns-then-out-lt-IPV6_TPDU_BYTES c =
    let a = c.args in
    too_short a.flow a.sequence a.send_timestamp_ns V6 c.in-V6.is a.out.now c.if-out-lt-IPV6_TPDU_BYTES.true

pub returns-else-out-lt-IPV6_TPDU_BYTES : goal.returns-else-out-lt-IPV6_TPDU_BYTES
unfolding ip_header ip_header_length address_length
returns-else-out-lt-IPV6_TPDU_BYTES c =
    let a = c.args in
    built a.flow a.sequence a.send_timestamp_ns V6 c.in-V6.is a.out.now c.write_udp_segment.new.out c.write_ipv6_header.new.out
    c.pseudo_header_words-pseudo.result c.if-out-lt-IPV6_TPDU_BYTES.false c.write_ipv6_header.ensures
    c.pseudo_header_words-pseudo.ensures.0 c.write_udp_segment.ensures
