-- What handling promises, in numbers.
use Rattle.std.proofs.Common.{◌≡◌, ℕ, List, Result, ◌∙◌}
use Rattle.error.specs.Answer.{answered}
use Rattle.error.specs.declared.Refusal.{Refusal}
use Rattle.reflector_answer.specs.Answer.{Answer}
use Rattle.reflector_answer.specs.Handle.{HandledAs}
use Rattle.reflector_answer.specs.declared.ReflectorAction.{ReflectorAction}
use Rattle.reflector_answer.specs.declared.ReflectorState.{ReflectorState}
use Rattle.testkit_reflector.specs.Interface.{handled_numbers, AnswersNumbers}
use Rattle.testkit_reflector.specs.declared.TestkitHandled.{TestkitHandled}

pub numbered : (r : TestkitHandled) (x : Result ReflectorAction Refusal) (left : ReflectorState) (after : List ℕ) (a : Answer) (before : List ℕ)
    → r ≡ handled_numbers (answered x) left → HandledAs x left after a before → AnswersNumbers r after a before
numbered r x left after a before e (m, (q, s, l)) = (e ∙ (λ i. handled_numbers (q i) (s i)), l)
