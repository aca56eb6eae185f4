use Rattle.std.proofs.Common.{ℕ, List, ◌++◌, drop, replicate, ap, ◌∙◌}
use Rattle.measurement_decode.proofs.Laws.{address_copied}
use Rattle.measurement_decode.proofs.padded_address.Goals as goal

pub returns : goal.returns
returns c =
    let a = c.args in
    ap (λ (s : List ℕ). s ++ drop a.width (replicate 16 0)) c.copy_from_slice.ensures.after
    ∙ address_copied a.tpdu.now a.at a.width c.requires.2
