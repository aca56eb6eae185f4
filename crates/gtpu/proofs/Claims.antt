-- The claims of specs/Claims.antt.
use Prim.Native.Nat.{ℕ}
use native.Mathlib.Omega.{arith}
use mathlib.Core.Path.{refl, sym, ap₂}
use mathlib.Core.Logic.{inl, inr}
use mathlib.Core.List.{List, [], ◌∷◌}
use Rattle.error.specs.Outcome.{first_cause}
use Rattle.field.proofs.Fields.{whole_bytes_lem}
use Rattle.gtpu.specs.Element.{element_size, element_causes, end_of, walk, elements_from, elements_of, error_indication}
use Rattle.gtpu.specs.Claims.{SameRule, EndRule, EmptyList, ErrorIndicationAccepted, Examples}
use Rattle.gtpu.proofs.Walk.{at_end, onward}

pub same_rule : SameRule
unfolding SameRule
same_rule t p b l = onward t p (b ∷ l) (omega arith)

pub end_rule : EndRule
unfolding EndRule
end_rule t p = sym (at_end t p [] refl)

pub empty_list : EmptyList
unfolding EmptyList elements_of elements_from walk end_of first_cause
empty_list = refl

pub error_indication_accepted : ErrorIndicationAccepted
unfolding elements_of elements_from walk element_causes element_size end_of first_cause
error_indication_accepted teid address h (inl k) =
    ap₂ (λ (x y : List ℕ). elements_of (error_indication x y)) (whole_bytes_lem 4 teid h) (whole_bytes_lem 4 address k)
error_indication_accepted teid address h (inr k) =
    ap₂ (λ (x y : List ℕ). elements_of (error_indication x y)) (whole_bytes_lem 4 teid h) (whole_bytes_lem 16 address k)

pub worked_examples : Examples
unfolding Examples elements_of elements_from walk element_causes element_size end_of first_cause
worked_examples = (refl, (refl, (refl, (refl, (refl, (refl, (refl, (refl, (refl, (refl, tt))))))))))
