-- The element walk: the Rust's loop over offsets is document 01's walk on the rest.
use Rattle.std.proofs.Common.{◌≡◌, ℕ, zero, suc, ◌+◌, ◌-◌, ◌<◌, ◌≤◌, Bool, true, false, not, ◌&&◌, ◌||◌, eqb, ltb, List, length, get_or, drop, sym, refl, ap, ◌∙◌, arith, length-drop, get_or-drop, drop-drop, ltb-false, ltb-true, le-ltb, lt-ltb, eq-eqb, ne_eqb, le-leb}
use native.Mathlib.Decide.{dec_le, dec_lt, ℕ_discrete}
use borrow.Author.Tests.{lt-leb}
use Rattle.error.specs.Outcome.{refused, gives, first_cause}
use Rattle.gtpu.specs.Element.{element_type, value_length, other_length, element_of, end_of, elements_from, elements_of}
use Rattle.gtpu.proofs.Rows.{refuses_27, teid_cut, teid_sound, length_cut, length_other, value_cut, value_sound}
use Rattle.gtpu.proofs.Walk.{at_end, teid_after, peer_after, refuses_list, follows}
use Rattle.rust_reference.specs.Number.{outcome_of}
use Rattle.rust_reference.specs.Values.{index, u16_at}
use Rattle.rust_reference.specs.Gtpu.{required_ies, while_ies, validate_error_indication_ies}
use Rattle.rust_reference.specs.Claims.{ValidateErrorIndicationIes}
use Rattle.rust_reference.proofs.Branches.{unless}
use Rattle.rust_reference.proofs.Told.{told_as}

-- behind the loop
required : (t p : Bool) → outcome_of (required_ies t p) ≡ end_of t p
unfolding required_ies end_of first_cause
required true true = refl
required true false = refl
required false true = refl
required false false = refl

or_true : (b : Bool) → true ≡ b || true
or_true true = refl
or_true false = refl

or_false : (b : Bool) → b ≡ b || false
or_false true = refl
or_false false = refl

-- The Rust's "neither 4 nor 16" is document 01's "not (4 or 16)".
neither : (a b : Bool) → not a && not b ≡ not (a || b)
neither true b = refl
neither false b = refl

module _ (payload : List ℕ) (offset : ℕ) (inside : offset < length payload) where
  abbrev rest : List ℕ
  rest = drop offset payload

  rest_length : length rest ≡ length payload - offset
  rest_length = length-drop offset payload

  type_is : element_type rest ≡ index payload offset
  type_is = get_or-drop offset payload 0 0 ∙ ap (λ (k : ℕ). get_or payload k 0) (omega arith)

  value_length_is : u16_at payload (offset + 1) ≡ value_length rest
  value_length_is =
      let high : get_or rest 1 0 ≡ get_or payload (offset + 1) 0 = get_or-drop offset payload 1 0 in
      let low : get_or rest 2 0 ≡ get_or payload (offset + 1 + 1) 0 = get_or-drop offset payload 2 0 ∙ ap (λ (k : ℕ). get_or payload k 0) (omega arith) in
      omega (arith, high, low)

  -- a refused element refuses what is left
  stops : (t p : Bool) (n : ℕ) → refused n ≡ element_of rest → refused n ≡ elements_from t p rest
  stops t p n e = refuses_list t p rest n (omega (arith, rest_length)) e

  -- a sound one hands on to what follows
  goes_on : (t p t' p' : Bool) (n end : ℕ) → gives n ≡ element_of rest → end ≡ offset + n → t' ≡ teid_after t rest → p' ≡ peer_after p rest
      → elements_from t' p' (drop end payload) ≡ elements_from t p rest
  goes_on t p t' p' n end e at a b =
      rw (at, a, b) (ap (λ (r : List ℕ). elements_from (teid_after t rest) (peer_after p rest) r) (sym (drop-drop n offset payload))
      ∙ follows t p rest n (omega (arith, rest_length)) e)

  -- which flags an element sets, by its type
  flag_16 : (t : Bool) → element_type rest ≡ 16 → true ≡ teid_after t rest
  flag_16 t e = rw (eq-eqb (element_type rest) 16 e) (or_true t)

  no_16 : (t : Bool) → (element_type rest ≡ 16 → ⊥) → t ≡ teid_after t rest
  no_16 t h = rw (ne_eqb (element_type rest) 16 h) (or_false t)

  flag_133 : (p : Bool) → element_type rest ≡ 133 → true ≡ peer_after p rest
  flag_133 p e = rw (eq-eqb (element_type rest) 133 e) (or_true p)

  no_133 : (p : Bool) → (element_type rest ≡ 133 → ⊥) → p ≡ peer_after p rest
  no_133 p h = rw (ne_eqb (element_type rest) 133 h) (or_false p)

  -- 26, where the type is 133 and where it is not
  other_length_lem : (n : ℕ) → element_type rest ≡ 133 → not (eqb n 4) && not (eqb n 16) ≡ other_length (element_type rest) n
  other_length_lem n e = rw (eq-eqb (element_type rest) 133 e) (neither (eqb n 4) (eqb n 16))

  no_length_asked : (n : ℕ) → (element_type rest ≡ 133 → ⊥) → other_length (element_type rest) n ≡ false
  no_length_asked n h = rw (ne_eqb (element_type rest) 133 h)

  -- one turn of the loop, where those that follow give what is left
  module _ (turns : ℕ) (t p : Bool)
      (next : (end : ℕ) (t p : Bool) → offset < end → outcome_of (while_ies turns payload end t p) ≡ elements_from t p (drop end payload)) where
    abbrev n : ℕ
    n = u16_at payload (offset + 1)

    fixed : index payload offset ≡ 16 → outcome_of (while_ies (suc turns) payload offset t p) ≡ elements_from t p rest
    unfolding while_ies
    fixed e =
        rw (lt-ltb offset (length payload) inside, eq-eqb (index payload offset) 16 e, while_ies)
        (unless (λ x. x) (ltb (length payload) (offset + 1 + 4)) _ _ _
        (λ c. stops t p 25 (teid_cut rest (type_is ∙ e) (omega (arith, ltb-true (length payload) (offset + 1 + 4) c, rest_length))))
        (λ c. next (offset + 1 + 4) true p (omega arith)
        ∙ goes_on t p true p 5 (offset + 1 + 4) (teid_sound rest (type_is ∙ e) (omega (arith, ltb-false (length payload) (offset + 1 + 4) c, rest_length)))
        (omega arith) (flag_16 t (type_is ∙ e)) (no_133 p (λ f. omega (arith, type_is ∙ e)))))

    -- a length that is cut, and a value that is cut or whole, for 133 and every other type from 128 on
    cut_length : 128 ≤ element_type rest → ltb (length payload) (offset + 1 + 2) ≡ true → refused 25 ≡ elements_from t p rest
    cut_length high c = stops t p 25 (length_cut rest high (omega (arith, ltb-true (length payload) (offset + 1 + 2) c, rest_length)))

    module _ (high : 128 ≤ element_type rest) (c : ltb (length payload) (offset + 1 + 2) ≡ false) where
      long : 3 ≤ length rest
      long = omega (arith, ltb-false (length payload) (offset + 1 + 2) c, rest_length)

      wrong_length : other_length (element_type rest) n ≡ true → refused 26 ≡ elements_from t p rest
      wrong_length w = stops t p 26 (length_other rest high long n value_length_is w)

      module _ (right : other_length (element_type rest) n ≡ false) where
        cut_value : ltb (length payload) (offset + 1 + 2 + n) ≡ true → refused 25 ≡ elements_from t p rest
        cut_value d =
            stops t p 25
            (value_cut rest high long n value_length_is right (omega (arith, ltb-true (length payload) (offset + 1 + 2 + n) d, rest_length)))

        whole_value : (t' p' : Bool) → t' ≡ teid_after t rest → p' ≡ peer_after p rest → ltb (length payload) (offset + 1 + 2 + n) ≡ false
            → outcome_of (while_ies turns payload (offset + 1 + 2 + n) t' p') ≡ elements_from t p rest
        whole_value t' p' a b d =
            next (offset + 1 + 2 + n) t' p' (omega arith)
            ∙ goes_on t p t' p' (3 + n) (offset + 1 + 2 + n)
            (value_sound rest high long n value_length_is right (omega (arith, ltb-false (length payload) (offset + 1 + 2 + n) d, rest_length)))
            (omega arith) a b

    peer : index payload offset ≡ 133 → outcome_of (while_ies (suc turns) payload offset t p) ≡ elements_from t p rest
    unfolding while_ies
    peer e =
        let e' : element_type rest ≡ 133 = type_is ∙ e in
        let high : 128 ≤ element_type rest = omega arith in
        rw (lt-ltb offset (length payload) inside, ne_eqb (index payload offset) 16 (λ f. omega arith), eq-eqb (index payload offset) 133 e, while_ies)
        (unless (λ x. x) (ltb (length payload) (offset + 1 + 2)) _ _ _ (cut_length high)
        (λ c. unless (λ x. x) (not (eqb n 4) && not (eqb n 16)) _ _ _ (λ w. wrong_length high c (rw (other_length_lem n e') at w))
        (λ w. let right : other_length (element_type rest) n ≡ false = rw (other_length_lem n e') at w in
        unless (λ x. x) (ltb (length payload) (offset + 1 + 2 + n)) _ _ _ (cut_value high c right)
        (whole_value high c right t true (no_16 t (λ f. omega arith)) (flag_133 p e')))))

    module _ (not_16 : index payload offset ≡ 16 → ⊥) (not_133 : index payload offset ≡ 133 → ⊥) where
      other : 128 ≤ index payload offset → outcome_of (while_ies (suc turns) payload offset t p) ≡ elements_from t p rest
      unfolding while_ies
      other h =
          let high : 128 ≤ element_type rest = omega (arith, type_is) in
          let right : other_length (element_type rest) n ≡ false = no_length_asked n (λ f. not_133 (sym type_is ∙ f)) in
          rw (lt-ltb offset (length payload) inside, ne_eqb (index payload offset) 16 not_16, ne_eqb (index payload offset) 133 not_133, le-leb 128 (index payload offset) h, while_ies)
          (unless (λ x. x) (ltb (length payload) (offset + 1 + 2)) _ _ _ (cut_length high)
          (λ c. unless (λ x. x) (ltb (length payload) (offset + 1 + 2 + n)) _ _ _ (cut_value high c right)
          (whole_value high c right t p (no_16 t (λ f. omega arith)) (no_133 p (λ f. not_133 (sym type_is ∙ f))))))

      unsupported : index payload offset < 128 → outcome_of (while_ies (suc turns) payload offset t p) ≡ elements_from t p rest
      unfolding while_ies
      unsupported h =
          rw (lt-ltb offset (length payload) inside, ne_eqb (index payload offset) 16 not_16, ne_eqb (index payload offset) 133 not_133, lt-leb 128 (index payload offset) h, while_ies)
          (stops t p 27 (refuses_27 rest (omega (arith, type_is)) (λ f. not_16 (sym type_is ∙ f))))

    turn : outcome_of (while_ies (suc turns) payload offset t p) ≡ elements_from t p rest
    turn = by (ℕ_discrete (index payload offset) 16) (ℕ_discrete (index payload offset) 133) (dec_le 128 (index payload offset))
      where
        by : Dec (index payload offset ≡ 16) → Dec (index payload offset ≡ 133) → Dec (128 ≤ index payload offset)
            → outcome_of (while_ies (suc turns) payload offset t p) ≡ elements_from t p rest
        by (yes e) b c = fixed e
        by (no a) (yes e) c = peer e
        by (no a) (no b) (yes h) = other a b h
        by (no a) (no b) (no h) = unsupported a b (omega arith)

-- past the end of the payload nothing is left
ended : (turns : ℕ) (payload : List ℕ) (offset : ℕ) (t p : Bool) → length payload ≤ offset
    → outcome_of (while_ies turns payload offset t p) ≡ elements_from t p (drop offset payload)
unfolding while_ies
ended turns payload offset t p h = by turns
  where
    done : outcome_of (required_ies t p) ≡ elements_from t p (drop offset payload)
    done = required t p ∙ at_end t p (drop offset payload) (omega (arith, length-drop offset payload))

    by : (turns : ℕ) → outcome_of (while_ies turns payload offset t p) ≡ elements_from t p (drop offset payload)
    by zero = done
    by (suc turns) = rw (le-ltb offset (length payload) h, while_ies) done

loop : (turns : ℕ) (payload : List ℕ) (offset : ℕ) (t p : Bool) → length payload ≤ offset + turns
    → outcome_of (while_ies turns payload offset t p) ≡ elements_from t p (drop offset payload)
loop zero payload offset t p h = ended zero payload offset t p (omega arith)
loop (suc turns) payload offset t p h =
    by (dec_lt offset (length payload)) (λ (end : ℕ) (t p : Bool) (k : offset < end). loop turns payload end t p (omega arith))
  where
    by : Dec (offset < length payload) → ((end : ℕ) (t p : Bool) → offset < end → outcome_of (while_ies turns payload end t p) ≡ elements_from t p (drop end payload))
        → outcome_of (while_ies (suc turns) payload offset t p) ≡ elements_from t p (drop offset payload)
    by (yes i) next = turn payload offset i turns t p next
    by (no i) next = ended (suc turns) payload offset t p (omega arith)

walked : (payload : List ℕ) → outcome_of (validate_error_indication_ies payload) ≡ elements_of payload
unfolding validate_error_indication_ies elements_of
walked payload = loop (length payload) payload 0 false false (omega arith)

pub validate : ValidateErrorIndicationIes
validate payload = told_as (λ x. x) (validate_error_indication_ies payload) (walked payload)
