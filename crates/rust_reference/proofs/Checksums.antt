-- The Rust's checksum over parts is RFC 1071's over the parts end to end, where its u32 cannot wrap and every part but the last has an even
-- length.
use Rattle.std.proofs.Common.{◌≡◌, ℕ, zero, suc, ◌+◌, ◌-◌, ◌*◌, ◌/◌, ◌%◌, ◌<◌, ◌≤◌, List, [], ◌∷◌, ◌++◌, length, sym, refl, ap, ◌∙◌, subst, append-nil, arith, length-append, le-ltb, lt-ltb, eq-eqb, ne_eqb}
use mathlib.Core.List.{flatten}
use Rattle.field.specs.Field.{Bytes}
use Rattle.field.proofs.Fields.{bytes_append}
use Rattle.checksum.specs.Sum.{sum_of, folding, fold_of, checksum_of}
use Rattle.checksum.proofs.Carries.{fold_low, split}
use Rattle.checksum.proofs.Sums.{sum_append}
use Rattle.measurement_packet.specs.Packet.{nonzero}
use Rattle.rust_reference.specs.Claims.{WholeWords, Checksum}
use Rattle.rust_reference.specs.Values.{wrapping_add}
use Rattle.rust_reference.specs.Measurement.{add_part, add_parts, while_carries, checksum, nonzero_checksum}

-- words are at most 65,535
sum_below : (l : List ℕ) → Bytes l → sum_of l ≤ 65535 * ((length l + 1) / 2)
unfolding sum_of
sum_below [] b = omega arith
sum_below (x ∷ []) b = omega (arith, b.0)
sum_below (x ∷ y ∷ l) b = omega (arith, b.0, b.1.0, sum_below l b.1.1)

-- no addition of a part wraps
added : (l : List ℕ) (sum : ℕ) → sum + sum_of l < 4294967296 → add_part sum l ≡ sum + sum_of l
unfolding add_part wrapping_add sum_of
added [] sum h = omega arith
added (x ∷ []) sum h = omega arith
added (x ∷ y ∷ l) sum h =
    let e : (sum + (x * 256 + y)) % 4294967296 ≡ sum + (x * 256 + y) = omega arith in
    rw e (added l (sum + (x * 256 + y)) (omega arith) ∙ omega arith)

-- the loop over carries is document 01's
carried : (turns sum : ℕ) → while_carries turns sum ≡ folding turns sum
unfolding while_carries folding
carried zero sum = refl
carried (suc turns) sum =
    split sum 65536
    (λ h. rw (eq-eqb (sum / 65536) 0 (omega arith), lt-ltb sum 65536 h, while_carries, folding))
    (λ h. rw (ne_eqb (sum / 65536) 0 (λ e. omega arith), le-ltb sum 65536 h, while_carries, folding)
    (carried turns (sum % 65536 + sum / 65536) ∙ ap (folding turns) (omega arith)))

-- what the sum of the parts is folded and complemented to
summed : (parts : List (List ℕ)) (n : ℕ) → add_parts 0 parts ≡ n → checksum parts ≡ 65535 - fold_of n
unfolding checksum fold_of
summed parts n e =
    let low = fold_low n in
    rw e (rw (carried n n) (omega arith))

-- parts end to end
added_parts : (parts : List (List ℕ)) (sum : ℕ) → WholeWords parts → sum + sum_of (flatten parts) < 4294967296
    → add_parts sum parts ≡ sum + sum_of (flatten parts)
unfolding add_parts flatten sum_of
added_parts [] sum w h = omega arith
added_parts (last ∷ []) sum w h = let e = ap sum_of (append-nil last) in added last sum (omega (arith, e)) ∙ omega (arith, e)
added_parts (part ∷ next ∷ parts) sum w h =
    let s = sum_append part (flatten (next ∷ parts)) w.0 in
    let first : add_part sum part ≡ sum + sum_of part = added part sum (omega (arith, s)) in
    rw first (added_parts (next ∷ parts) (sum + sum_of part) w.1 (omega (arith, s)) ∙ omega (arith, s))

pub of_parts : Checksum
unfolding checksum_of
of_parts parts w b h = summed parts (sum_of (flatten parts)) (added_parts parts 0 w (omega (arith, sum_below (flatten parts) b)) ∙ omega arith)

-- one part
pub of_one : (l : List ℕ) → Bytes l → length l < 131072 → checksum (l ∷ []) ≡ checksum_of l
unfolding flatten
of_one l b h =
    let e = append-nil l in
    of_parts (l ∷ []) tt (subst Bytes (sym e) b) (omega (arith, ap length e)) ∙ ap checksum_of e

-- two parts
pub of_two : (x y : List ℕ) → Bytes x → Bytes y → length x % 2 ≡ 0 → length x + length y < 131070 → checksum (x ∷ y ∷ []) ≡ checksum_of (x ++ y)
unfolding flatten
of_two x y b c even h =
    let e : x ++ (y ++ []) ≡ x ++ y = ap (λ (l : List ℕ). x ++ l) (append-nil y) in
    of_parts (x ∷ y ∷ []) (even, tt) (subst Bytes (sym e) (bytes_append x y b c)) (omega (arith, ap length e, length-append x y)) ∙ ap checksum_of e

-- the same, where 0 is sent as all ones
pub nonzero_of_two : (x y : List ℕ) → Bytes x → Bytes y → length x % 2 ≡ 0 → length x + length y < 131070
    → nonzero_checksum (x ∷ y ∷ []) ≡ nonzero (checksum_of (x ++ y))
unfolding nonzero_checksum nonzero
nonzero_of_two x y b c even h = ap nonzero (of_two x y b c even h)
