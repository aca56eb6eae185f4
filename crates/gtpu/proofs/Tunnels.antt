-- The claims of specs/Tunnels.antt.
use Prim.Native.Nat.{ℕ, zero, suc, ◌+◌, ◌^◌, ◌<◌, ◌≤◌}
use native.Mathlib.Omega.{arith}
use mathlib.Core.Path.{◌≡◌, refl, sym, ap, ap₂, ◌∙◌}
use mathlib.Core.Logic.{◌⊎◌, ⊎_elim}
use mathlib.Core.List.{List, [], ◌∷◌, ◌++◌, append-nil}
use mathlib.Core.Bool.{Bool, true, false, not, ◌||◌, ◌&&◌}
use Rattle.std.specs.Prelude.{Option, Some, None, is_some}
use Rattle.std.specs.Option.{option_or}
use lib.Dec.{eqb, ltb}
use lib.ListN.{length, take, drop, length-append, take-append-drop}
use lib.Seq.{take_at, drop_at}
use borrow.Author.Tests.{eqb-true, eq-eqb, ne_eqb, ltb-true, ltb-false}
use Rattle.error.specs.Outcome.{Outcome, refused, gives, first_cause}
use Rattle.error.specs.Number.{missing_teid_data_i, missing_peer_address}
use Rattle.error.proofs.Among.{among, of_each, by_one_of}
use Rattle.error.proofs.Tests.{both}
use Rattle.error.proofs.Causes.{Passes, passes, passed, first_false, refused_gives}
use Rattle.field.specs.Field.{Bytes, value_of, big_endian, bytes_at, field}
use Rattle.field.proofs.Fields.{bytes_drop, bytes_at_lem, length_big_endian, length_bytes_at, value_big_endian, value_below, big_endian_value, bytes_at_drop, front_bytes, whole_bytes_lem}
use Rattle.measurement.specs.Flow.{padded}
use Rattle.measurement.specs.declared.IpVersion.{IpVersion}
use Rattle.measurement.specs.declared.IpVersion.TheVariants.{V4, V6}
use Rattle.gtpu.specs.Element.{element_type, teid_data_i, gtpu_peer_address, is_teid_data_i, value_length, other_length, element_of, element_size, element_causes, end_of, walk, elements_from, elements_of}
use Rattle.gtpu.specs.Indication.{and_then, cut, elements_in, first_of, teid_in, version_in, address_in, named, indication_of}
use Rattle.gtpu.specs.Firsts.{first_after, TeidData}
use Rattle.gtpu.specs.Tunnels.{yes_or_no, SameAnswer, IndicationNumbers, Element, teid_data, variable, written, written_all, Writable, AllWritable, first_teid, first_address, tunnel_from, FirstOfEach, EveryAccepted, ErrorIndicationNames, TunnelExamples}
use Rattle.gtpu.specs.declared.RefusedTunnel.{RefusedTunnel}
use Rattle.gtpu.proofs.Bounded.{rest_shorter}
use Rattle.gtpu.proofs.Cut.{then_causes, then_same, then_then, cut_onward, type_of_lem, first_kept, is_teid_data, is_peer_address_lem}
use Rattle.gtpu.proofs.Rows.{size_16, size_other, size_positive, teid_sound, value_sound, sound, within}

-- ---- the answer is leaf 8's

seen : (ie_type : ℕ) (t : Option (List ℕ)) (element : List ℕ) → is_some (first_after ie_type t element) ≡ is_some t || eqb (element_type element) ie_type
seen ie_type (Some first) element = refl
seen ie_type None element = by (eqb (element_type element) ie_type)
  where
    by : (here : Bool) → is_some (elim here as (λ (x : Bool). Option (List ℕ)) [ true ↦ Some element | false ↦ None ]) ≡ here
    by true = refl
    by false = refl

-- what a list is refused by, behind elements of which these were the first
abbrev told : Option (List ℕ) → Option (List ℕ) → List (List ℕ) → Outcome (Unit {0})
told t p elements = yes_or_no (named (option_or t (first_of 16 elements)) (option_or p (first_of 133 elements)))

end_told : (t p : Option (List ℕ)) → told t p [] ≡ end_of (is_some t) (is_some p)
unfolding end_of first_cause
end_told None p = refl
end_told (Some t) None = refl
end_told (Some t) (Some p) = refl

walk_told : (bound : ℕ) (t p : Option (List ℕ)) (l : List ℕ) → and_then (cut bound l) (told t p) ≡ walk bound (is_some t) (is_some p) l
unfolding cut walk
walk_told zero t p l = end_told t p
walk_told (suc bound) t p [] = end_told t p
walk_told (suc bound) t p (b ∷ l) =
    let list = b ∷ l in
    let front = take (element_size list) list in
    let rest = drop (element_size list) list in
    let t' = first_after 16 t front in
    let p' = first_after 133 p front in
    let is : element_type front ≡ b = type_of_lem (element_size list) b l (size_positive list) in
    then_causes (element_causes list) (and_then (cut bound rest) (λ elements. gives (front ∷ elements))) (told t p)
    ∙ ap (λ (o : Outcome (Unit {0})). first_cause (element_causes list) o)
    (then_then (cut bound rest) (λ elements. front ∷ elements) (told t p)
    ∙ then_same (cut bound rest) (λ elements. told t p (front ∷ elements)) (told t' p')
    (λ elements. ap₂ (λ (x y : Option (List ℕ)). yes_or_no (named x y)) (first_kept 16 t front elements) (first_kept 133 p front elements))
    ∙ walk_told bound t' p' rest
    ∙ ap₂ (λ (x y : Bool). walk bound x y rest)
    (seen 16 t front ∙ ap (λ (x : ℕ). is_some t || eqb x 16) is) (seen 133 p front ∙ ap (λ (x : ℕ). is_some p || eqb x 133) is))

yes_or_no_then : {A B : Type 0} (o : Outcome A) (f : A → Outcome B) → yes_or_no (and_then o f) ≡ and_then o (λ x. yes_or_no (f x))
yes_or_no_then (refused n) f = refl
yes_or_no_then (gives x) f = refl

pub same_answer : SameAnswer
unfolding SameAnswer elements_of elements_from indication_of elements_in
same_answer payload =
    yes_or_no_then (cut (length payload) payload) (λ elements. named (first_of 16 elements) (first_of 133 elements))
    ∙ walk_told (length payload) None None payload

-- ---- and has no number but 25 to 29

abbrev element_numbers : List ℕ
element_numbers = 25 ∷ 26 ∷ 27 ∷ 28 ∷ 29 ∷ []

then_refused : {A B : Type 0} (o : Outcome A) (f : A → B) (n : ℕ) → and_then o (λ x. gives (f x)) ≡ refused n → o ≡ refused n
then_refused (refused m) f n e = let same : m ≡ n = cc in ap refused same
then_refused (gives x) f n e = absurd (refused_gives (sym e))

cut_by : (bound : ℕ) (l : List ℕ) (n : ℕ) → cut bound l ≡ refused n → among n element_numbers ≡ true
unfolding cut element_causes
cut_by zero l n e = absurd (refused_gives (sym e))
cut_by (suc bound) [] n e = absurd (refused_gives (sym e))
cut_by (suc bound) (b ∷ l) n e =
    let list = b ∷ l in
    by_one_of element_numbers (element_causes list) _ refl (λ m f. cut_by bound (drop (element_size list) list) m (then_refused (cut bound (drop (element_size list) list)) (λ rest. take (element_size list) list ∷ rest) m f)) n e

named_by : (t p : Option (List ℕ)) (n : ℕ) → named t p ≡ refused n → among n element_numbers ≡ true
named_by None p n e = let same : 28 ≡ n = cc in ap (λ (m : ℕ). among m element_numbers) (sym same)
named_by (Some t) None n e = let same : 29 ≡ n = cc in ap (λ (m : ℕ). among m element_numbers) (sym same)
named_by (Some t) (Some p) n e = absurd (refused_gives (sym e))

indication_by : (payload : List ℕ) (n : ℕ) → indication_of payload ≡ refused n → among n element_numbers ≡ true
unfolding indication_of elements_in
indication_by payload n e = by (cut (length payload) payload) refl e
  where
    by : (o : Outcome (List (List ℕ))) → cut (length payload) payload ≡ o → and_then o (λ elements. named (first_of 16 elements) (first_of 133 elements)) ≡ refused n
        → among n element_numbers ≡ true
    by (refused m) f e = let same : m ≡ n = cc in cut_by (length payload) payload n (f ∙ ap refused same)
    by (gives elements) f e = named_by (first_of 16 elements) (first_of 133 elements) n e

pub indication_numbers : IndicationNumbers
unfolding IndicationNumbers
indication_numbers payload n e =
    let b = both (ltb 24 n) (ltb n 30) (of_each (λ m. ltb 24 m && ltb m 30) element_numbers refl n (indication_by payload n e)) in
    (omega (arith, ltb-true 24 n b.0), omega (arith, ltb-true n 30 b.1))

pub tunnel_examples_lem : TunnelExamples
unfolding TunnelExamples indication_of elements_in cut element_causes element_size first_cause padded
tunnel_examples_lem = (refl, (refl, (refl, (refl, (refl, tt)))))

-- ---- elements that are written one behind the other

-- a length of 2 bytes reads back
two_bytes : (n : ℕ) → n < 2 ^ 16 → value_of (big_endian 2 n) ≡ n
two_bytes n h = value_big_endian 2 n h

not_other : (t n : ℕ) → (t ≡ 133 → (n ≡ 4) ⊎ (n ≡ 16)) → other_length t n ≡ false
not_other t n h = by (eqb t 133) refl
  where
    by : (b : Bool) → eqb t 133 ≡ b → b && not (eqb n 4 || eqb n 16) ≡ false
    by true e = ⊎_elim (λ four. rw four) (λ sixteen. rw sixteen) (h (eqb-true t 133 e))
    by false e = refl

-- a written element is sound, and as long as it is
written_sound : (e : Element) (behind : List ℕ) → Writable e → gives (length (written e)) ≡ element_of (written e ++ behind)
written_sound (teid_data teid) behind h = teid_sound (written (teid_data teid) ++ behind) refl (omega arith)
written_sound (variable t value) behind h =
    let n = length value in
    let l = written (variable t value) ++ behind in
    let long : length l ≡ 3 + (n + length behind) = simp length-append (omega (arith, length_big_endian 2 n)) in
    let size : length (written (variable t value)) ≡ 3 + n = simp length-append (omega (arith, length_big_endian 2 n)) in
    ap gives size ∙ value_sound l h.0 (omega arith) n (sym (two_bytes n h.1)) (not_other t n h.2) (omega arith)

abbrev each : List Element → List (List ℕ)
each [] = []
each (e ∷ es) = written e ∷ each es

then_given : {A B : Type 0} (o : Outcome A) (f : A → Outcome B) (x : A) → o ≡ gives x → and_then o f ≡ f x
then_given {A = A} o f x e = ap (λ (y : Outcome A). and_then y f) e

cut_written : (es : List Element) → AllWritable es → elements_in (written_all es) ≡ gives (each es)
unfolding elements_in cut
cut_written [] h = refl
cut_written (e ∷ es) h =
    let l = written e ++ written_all es in
    let s = sound l (length (written e)) (written_sound e (written_all es) h.0) in
    let rest : drop (element_size l) l ≡ written_all es = drop_at (written e) (written_all es) (element_size l) s.size in
    let front : take (element_size l) l ≡ written e = take_at (written e) (written_all es) (element_size l) s.size in
    cut_onward l (some_bytes e (written_all es)) ∙ sym (passes _ s.passes)
    ∙ then_given (elements_in (drop (element_size l) l)) (λ rest. gives (take (element_size l) l ∷ rest)) (each es) (ap elements_in rest ∙ cut_written es h.1)
    ∙ ap (λ (x : List ℕ). gives (x ∷ each es)) front
  where
    some_bytes : (e : Element) (behind : List ℕ) → 0 < length (written e ++ behind)
    some_bytes (teid_data teid) behind = omega arith
    some_bytes (variable t value) behind = omega arith

-- what the first of each type has
abbrev mapped : {A B : Type 0} → (A → B) → Option A → Option B
mapped f None = None
mapped f (Some x) = Some (f x)

abbrev Peer : Type 0
Peer = IpVersion × List ℕ

abbrev peer_in : List ℕ → Peer
peer_in element = (version_in element, address_in element)

abbrev peer_of : List ℕ → Peer
peer_of address = (elim (eqb (length address) 4) [ true ↦ V4 | false ↦ V6 ], padded address)

teid_first : (es : List Element) → AllWritable es → mapped teid_in (first_of 16 (each es)) ≡ first_teid es
teid_first [] h = refl
teid_first (teid_data teid ∷ es) h = ap Some (value_big_endian 4 teid h.0)
teid_first (variable t value ∷ es) h =
    ap (λ (b : Bool). mapped teid_in (elim b as (λ (x : Bool). Option (List ℕ)) [ true ↦ Some (written (variable t value)) | false ↦ first_of 16 (each es) ]))
    (ne_eqb t 16 (λ e. omega (arith, h.0.0)))
    ∙ teid_first es h.1

module _ (t : ℕ) (value : List ℕ) (h : length value < 2 ^ 16) where
  abbrev element : List ℕ
  element = written (variable t value)

  length_read : value_length element ≡ length value
  length_read = two_bytes (length value) h

  value_read : bytes_at (value_length element) 3 element ≡ value
  value_read =
      ap (λ (n : ℕ). bytes_at n 3 element) length_read ∙ bytes_at_drop (length value) 3 0 element ∙ sym (whole_bytes_lem (length value) value refl)

  peer_read : peer_in element ≡ peer_of value
  peer_read =
      ap₂ {C = Peer} (λ (v : IpVersion) (a : List ℕ). (v, a))
      (ap (λ (n : ℕ). elim (eqb n 4) as (λ (b : Bool). IpVersion) [ true ↦ V4 | false ↦ V6 ]) length_read) (ap padded value_read)

peer_first : (es : List Element) → AllWritable es → mapped peer_in (first_of 133 (each es)) ≡ mapped peer_of (first_address es)
peer_first [] h = refl
peer_first (teid_data teid ∷ es) h = peer_first es h.1
peer_first (variable t value ∷ es) h = by (eqb t 133) (peer_first es h.1)
  where
    by : (b : Bool) → mapped peer_in (first_of 133 (each es)) ≡ mapped peer_of (first_address es)
        → mapped peer_in (elim b as (λ (x : Bool). Option (List ℕ)) [ true ↦ Some (written (variable t value)) | false ↦ first_of 133 (each es) ])
        ≡ mapped peer_of (elim b as (λ (x : Bool). Option (List ℕ)) [ true ↦ Some value | false ↦ first_address es ])
    by true rest = ap Some (peer_read t value h.0.1)
    by false rest = rest

abbrev named_values : Option ℕ → Option Peer → Outcome RefusedTunnel
named_values None peer = refused missing_teid_data_i
named_values (Some teid) None = refused missing_peer_address
named_values (Some teid) (Some peer) = gives (record { teid = teid; version = peer.0; peer_address = peer.1 })

by_elements : (t p : Option (List ℕ)) → named t p ≡ named_values (mapped teid_in t) (mapped peer_in p)
by_elements None p = refl
by_elements (Some t) None = refl
by_elements (Some t) (Some p) = refl

by_values : (t : Option ℕ) (a : Option (List ℕ)) → named_values t (mapped peer_of a) ≡ tunnel_from t a
unfolding padded
by_values None a = refl
by_values (Some t) None = refl
by_values (Some t) (Some a) = refl

pub first_of_each : FirstOfEach
unfolding FirstOfEach indication_of
first_of_each es h =
    then_given (elements_in (written_all es)) (λ elements. named (first_of 16 elements) (first_of 133 elements)) (each es) (cut_written es h)
    ∙ by_elements (first_of 16 (each es)) (first_of 133 (each es))
    ∙ ap₂ named_values (teid_first es h) (peer_first es h)
    ∙ by_values (first_teid es) (first_address es)

pub error_indication_names : ErrorIndicationNames
unfolding ErrorIndicationNames FirstOfEach
error_indication_names teid address h k =
    ap indication_of (ap (λ (x : List ℕ). teid_data_i ∷ (big_endian 4 teid ++ (gtpu_peer_address ∷ (big_endian 2 (length address) ++ x)))) (sym (append-nil address)))
    ∙ first_of_each (teid_data teid ∷ variable 133 address ∷ []) (h, ((omega arith, ⊎_elim {C = length address < 2 ^ 16} (λ four. omega arith) (λ sixteen. omega arith) k, λ e. k), tt))

-- ---- and whatever is accepted is written so

-- an accepted element, as it is written
record Front (l : List ℕ) : Type 0 where
  e : Element
  writable : Writable e
  is : take (element_size l) l ≡ written e

front_teid : (l : List ℕ) → Bytes l → TeidData l → Front l
front_teid l b is =
    let four = bytes_at_lem 4 1 l b in
    record {
      e = teid_data (field 4 1 l);
      writable = value_below (bytes_at 4 1 l) four;
      is =
          ap (λ (n : ℕ). take n l) (sym (size_16 l is.type)) ∙ front_bytes 5 l is.fits
          ∙ ap₂ ◌∷◌ is.type (sym (big_endian_value (bytes_at 4 1 l) four));
    }

front_variable : (l : List ℕ) → Bytes l → 128 ≤ element_type l → element_size l ≤ length l → (element_type l ≡ 133 → (value_length l ≡ 4) ⊎ (value_length l ≡ 16)) → Front l
front_variable l b high fits octets =
    let n = value_length l in
    let two = bytes_at_lem 2 1 l b in
    let value = bytes_at n 3 l in
    let size : suc (suc (suc n)) ≡ element_size l = omega (arith, size_other l (λ e. omega arith)) in
    let k = length_bytes_at n 3 l in
    record {
      e = variable (element_type l) value;
      writable = (high, rw k (value_below (bytes_at 2 1 l) two), λ e. rw k (octets e));
      is =
          ap (λ (m : ℕ). take m l) (sym size) ∙ front_bytes (suc (suc (suc n))) l (omega arith)
          ∙ ap (λ (x : List ℕ). element_type l ∷ (x ++ value)) (sym (big_endian_value (bytes_at 2 1 l) two) ∙ ap (big_endian 2) (sym k));
    }

front_of : (l : List ℕ) → Bytes l → Passes (element_causes l) → Front l
unfolding element_causes
front_of l b p = by (is_teid_data_i (element_type l)) refl
  where
    low : (b : Bool) → b && true ≡ false → b ≡ false
    low true e = e
    low false e = refl

    by : (t : Bool) → is_teid_data_i (element_type l) ≡ t → Front l
    by true s = front_teid l b (is_teid_data l p s)
    by false s = front_variable l b (ltb-false (element_type l) 128 (low (ltb (element_type l) 128) (rw s at (first_false p)))) (within l p) (λ e. (is_peer_address_lem l p (eq-eqb (element_type l) 133 e)).octets)

then_gave : {A B : Type 0} (o : Outcome A) (f : A → B) (y : B) → and_then o (λ x. gives (f x)) ≡ gives y → (x : A) × (o ≡ gives x)
then_gave (refused n) f y e = absurd (refused_gives e)
then_gave (gives x) f y e = (x, refl)

record Made (l : List ℕ) : Type 0 where
  elements : List Element
  writable : AllWritable elements
  is : l ≡ written_all elements

made : (bound : ℕ) (l : List ℕ) → length l ≤ bound → Bytes l → (cuts : List (List ℕ)) → cut bound l ≡ gives cuts → Made l
unfolding cut
made zero [] h b cuts e = record { elements = []; writable = tt; is = refl }
made zero (x ∷ l) h b cuts e = absurd (omega arith)
made (suc bound) [] h b cuts e = record { elements = []; writable = tt; is = refl }
made (suc bound) (x ∷ l) h b cuts e =
    let list = x ∷ l in
    let size = element_size list in
    let p = passed (element_causes list) _ cuts e in
    let g = then_gave (cut bound (drop size list)) (λ rest. take size list ∷ rest) cuts p.1 in
    let rest = made bound (drop size list) (rest_shorter x l bound h) (bytes_drop size list b) g.0 g.1 in
    let front = front_of list b p.0 in
    record {
      elements = front.e ∷ rest.elements;
      writable = (front.writable, rest.writable);
      is = sym (take-append-drop size list) ∙ ap₂ (λ (u v : List ℕ). u ++ v) front.is rest.is;
    }

pub every_accepted : EveryAccepted
unfolding EveryAccepted indication_of elements_in
every_accepted payload tunnel b e = by (cut (length payload) payload) refl e
  where
    by : (o : Outcome (List (List ℕ))) → cut (length payload) payload ≡ o → and_then o (λ elements. named (first_of 16 elements) (first_of 133 elements)) ≡ gives tunnel
        → (elements : List Element) × AllWritable elements × (payload ≡ written_all elements)
    by (refused n) f e = absurd (refused_gives e)
    by (gives cuts) f e = let m = made (length payload) payload (omega arith) b cuts f in (m.elements, m.writable, m.is)
