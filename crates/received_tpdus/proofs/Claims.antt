-- The claim of specs/Claims.antt, proved.
use Prim.Native.Nat.{ℕ}
use mathlib.Core.Path.{refl, ap, ◌∙◌}
use mathlib.Core.List.{List, [], ◌∷◌, ◌++◌, flatten, map, append_assoc}
use lib.ListN.{length, take, drop}
use lib.Seq.{take-append_seam, drop-append_seam}
use Rattle.received_tpdus.specs.Received.{tpdus_of}
use Rattle.received_tpdus.specs.Claims.{EndToEnd}

pub end_to_end_lem : EndToEnd
unfolding flatten
end_to_end_lem [] behind = refl
end_to_end_lem (tpdu ∷ tpdus) behind =
    let lengths : List ℕ = map (λ (x : List ℕ). length x) tpdus in
    let rest : List ℕ = flatten tpdus ++ behind in
    ap (λ (bytes : List ℕ). take (length tpdu) bytes ∷ tpdus_of lengths (drop (length tpdu) bytes)) (append_assoc tpdu (flatten tpdus) behind)
    ∙ (λ i. take-append_seam tpdu rest i ∷ tpdus_of lengths (drop-append_seam tpdu rest i))
    ∙ ap (λ (l : List (List ℕ)). tpdu ∷ l) (end_to_end_lem tpdus behind)
