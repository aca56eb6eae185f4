-- `gtpu::address_in` meets its contract: 4 bytes in front of zeros, or 16 bytes copied.
use Rattle.std.proofs.Common.{◌≡◌, ◌≤◌, length, refl, ◌∙◌, arith}
use Rattle.gtpu.specs.Element.{value_length}
use Rattle.gtpu.proofs.Values.{made_of_4, is_16, copied_16}
use Rattle.gtpu.proofs.address_in.Goals as goal

pub returns-then-value_length-eq4 : goal.returns-then-value_length-eq4
returns-then-value_length-eq4 c =
    made_of_4 c.args.element.now c.value_length.result c.value_length.ensures c.if-value_length-eq4.true

pub returns : goal.returns
returns c =
    let l = c.args.element.now in
    -- the value has 16 bytes where it has not 4
    let whole : value_length l ≡ 16 = is_16 l c.value_length.result c.value_length.ensures c.requires c.if-value_length-eq4.false in
    let fits : 19 ≤ length l = omega (arith, whole, c.requires.fits) in
    c.copy_from_slice.ensures.after ∙ copied_16 l _ whole fits refl
