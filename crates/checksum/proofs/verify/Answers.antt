-- `checksum::verify` meets its contract: the sum is all ones, and then the damage law applies.
use mathlib.Core.Path.{ap, sym, ◌∙◌}
use borrow.Author.Tests.{eqb-true}
use native.Mathlib.Nat.{zero-add}
use Rattle.checksum.specs.Sum.{fold_of}
use Rattle.checksum.proofs.Claims.{undamaged}
use Rattle.checksum.proofs.verify.Goals as goal

pub returns : goal.returns
returns c = record {
  says = rw (c.sum.ensures, zero-add);
  found = λ e. undamaged _ (ap fold_of (sym (zero-add _)) ∙ sym c.sum.ensures ∙ eqb-true _ _ e);
}
