-- `measurement_build::write_udp_segment` meets its contract.
use Rattle.measurement_build.proofs.Headers.{segment_put}
use Rattle.measurement_build.proofs.write_udp_segment.Goals as goal

pub returns : goal.returns
returns c =
    let a = c.args in
    segment_put a.pseudo a.src_port a.dst_port a.header.sequence a.header.send_timestamp_ns a.out.now
    c.high.ensures c.low.ensures c.high-2.ensures c.low-2.ensures
    c.put.new.out c.put-2.new.out c.encode-probe.result c.segment_words.result c.fold_u64-sum.result
    c.nonzero_checksum-checksum.result c.high-3.result c.low-3.result c.segment_words.ensures.0
    c.fold_u64-sum.ensures c.nonzero_checksum-checksum.ensures c.high-3.ensures c.low-3.ensures c.encode-probe.ensures
    c.put.ensures c.put-2.ensures
