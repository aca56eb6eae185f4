-- `measurement::pseudo_header_words` meets its contract.
use native.Mathlib.Omega.{arith}
use Rattle.measurement.proofs.Pseudo.{pseudo_folds}
use Rattle.measurement.proofs.pseudo_header_words.Goals as goal

pub returns : goal.returns
returns c =
    let a = c.args in (
      pseudo_folds a.version a.src a.dst a.udp_length c.address_sum.result c.address_sum-2.result (omega arith)
          c.address_sum.ensures.0 c.address_sum-2.ensures.0,
      omega arith,
    )
