-- `measurement_build::put` meets its contract.
use Rattle.std.proofs.Common.{◌≡◌, ℕ, ◌+◌, ◌-◌, List, ◌++◌, length, take, drop, ap, ◌∙◌, arith}
use lib.Seq.{drop-drop}
use Rattle.measurement_build.proofs.put.Goals as goal

-- a list in the place of as many bytes in the middle of another
placed : (next whole part : List ℕ) (a : ℕ) → part ≡ next
    → take a whole ++ (part ++ drop (a + length next - a) (drop a whole)) ≡ take a whole ++ (next ++ drop (a + length next) whole)
placed next whole part a e =
    ap (λ (x : List ℕ). take a whole ++ (x ++ drop (a + length next - a) (drop a whole))) e
    ∙ ap (λ (k : ℕ). take a whole ++ (next ++ drop k (drop a whole))) (omega arith)
    ∙ ap (λ (x : List ℕ). take a whole ++ (next ++ x)) (drop-drop (length next) a whole)

pub returns : goal.returns
returns c = placed c.args.bytes.now c.args.out.now c.copy_from_slice.new.self c.args.at c.copy_from_slice.ensures.after
