-- A branch of the Rust has an outcome if each of its ways has it.
use Rattle.std.proofs.Common.{◌≡◌, ℕ, Bool, true, false, ◌||◌, List, ◌∷◌, refl}
use Rattle.error.specs.Outcome.{Outcome, refused, Cause, ◌⇒◌, first_cause}
use Rattle.rust_reference.specs.Error.{DataplaneTestkitError, Result, Ok, Err, return_if, ◌>>◌}
use Rattle.rust_reference.specs.Number.{error_number, outcome_by}
use Rattle.rust_reference.specs.Compared.{as_the_rust_tells, told}

-- `if test { return Err(error); } rest`
pub unless : {A B : Type 0} (value : A → B) (test : Bool) (error : DataplaneTestkitError) (rest : Result A) (o : Outcome B)
    → (test ≡ true → refused (error_number error) ≡ o) → (test ≡ false → outcome_by value rest ≡ o)
    → outcome_by value (◌>>◌ (return_if test error) rest) ≡ o
unless value true error rest o f g = f refl
unless value false error rest o f g = g refl

-- the same beside a row of causes: the Rust's test is the row's, the row's number is told as the Rust's, and what follows
-- the test is what follows the row. `due` is what ours has to say where the Rust has this outcome.
pub row : {A B : Type 0} (due : Outcome B → Outcome B) (value : A → B) (test : Bool) {c : Bool} (error : DataplaneTestkitError) (n : ℕ) (rest : Result A) (rows : List Cause) (onward : Outcome B)
    → due (refused (error_number error)) ≡ refused (as_the_rust_tells n) → test ≡ c → (c ≡ false → due (outcome_by value rest) ≡ told (first_cause rows onward))
    → due (outcome_by value (◌>>◌ (return_if test error) rest)) ≡ told (first_cause ((c ⇒ n) ∷ rows) onward)
unfolding first_cause
row due value test {c = true} error n rest rows onward number e g = rw e number
row due value test {c = false} error n rest rows onward number e g = rw e (g refl)

-- and beside two rows, where the Rust has one test for both
pub two_rows : {A B : Type 0} (due : Outcome B → Outcome B) (value : A → B) (test c d : Bool) (error : DataplaneTestkitError) (n m : ℕ) (rest : Result A) (rows : List Cause) (onward : Outcome B)
    → due (refused (error_number error)) ≡ refused (as_the_rust_tells n) → due (refused (error_number error)) ≡ refused (as_the_rust_tells m) → test ≡ c || d
    → (c ≡ false → d ≡ false → due (outcome_by value rest) ≡ told (first_cause rows onward))
    → due (outcome_by value (◌>>◌ (return_if test error) rest)) ≡ told (first_cause ((c ⇒ n) ∷ (d ⇒ m) ∷ rows) onward)
unfolding first_cause
two_rows due value test true d error n m rest rows onward first second e g = rw e first
two_rows due value test false d error n m rest rows onward first second e g = row due value test error m rest rows onward second e (g refl)

-- a row that the Rust does not judge, and that does not hold
pub no_row : {A : Type 0} {c : Bool} (n : ℕ) (rows : List Cause) (onward : Outcome A) → c ≡ false → first_cause rows onward ≡ first_cause ((c ⇒ n) ∷ rows) onward
unfolding first_cause
no_row n rows onward e = rw (e, first_cause)

-- what is due of ours where the Rust refuses late, or not at all: `x` comes before each of these
pub late : {A B : Type 0} (due : Outcome B → Outcome B) (value : A → B) (test : Bool) (error : DataplaneTestkitError) (rest : Result A) {x : Outcome B}
    → due (refused (error_number error)) ≡ x → due (outcome_by value rest) ≡ x → due (outcome_by value (◌>>◌ (return_if test error) rest)) ≡ x
late due value true error rest e g = e
late due value false error rest e g = g

-- what is compared is due as it is
abbrev pub as_it_is : {B : Type 0} → Outcome B → Outcome B
as_it_is o = o

-- what holds of a value, if there is one
pub data AllOk {A : Type 0} (P : A → Type 0) : Result A → Type 0 where
  all : {x : A} → P x → AllOk P (Ok x)
  none : {e : DataplaneTestkitError} → AllOk P (Err e)
