-- `measurement_build::segment_words` meets its contract.
use native.Mathlib.Omega.{arith}
use Rattle.measurement_build.proofs.Words.{halves_fold, segment_folds}
use Rattle.measurement_build.proofs.segment_words.Goals as goal

pub returns : goal.returns
returns c =
    let a = c.args in (
      segment_folds a.src_port a.dst_port a.header.sequence a.header.send_timestamp_ns c.halves.result c.halves-2.result (omega arith) (omega arith)
          (halves_fold a.header.sequence (omega arith) c.halves.ensures.0) (halves_fold a.header.send_timestamp_ns (omega arith) c.halves-2.ensures.0),
      omega arith,
    )
