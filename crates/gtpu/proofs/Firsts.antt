-- The first 16 and the first 133 of a list, read from the middle; and that they are whole.
use Prim.Native.Nat.{ℕ, zero, suc, ◌<◌}
use native.Mathlib.Omega.{arith}
use mathlib.Core.Path.{◌≡◌, refl, sym, ap, ap₂, ◌∙◌}
use mathlib.Core.List.{List, [], ◌∷◌}
use mathlib.Core.Bool.{Bool, true, false}
use lib.Dec.{eqb}
use lib.ListN.{length, take, drop}
use Rattle.std.proofs.lemmas.List.{length-take-le}
use borrow.Author.Tests.{eqb-true, eq-eqb}
use Rattle.std.specs.Prelude.{Option, Some, None}
use Rattle.std.specs.Option.{option_or}
use Rattle.error.specs.Outcome.{Outcome, refused, gives}
use Rattle.error.proofs.Causes.{Passes, passes, passed, refused_gives}
use Rattle.field.specs.Field.{value_of}
use Rattle.field.proofs.Fields.{bytes_at_take}
use Rattle.gtpu.specs.Element.{value_length, element_size, element_causes, element_of}
use Rattle.gtpu.specs.Indication.{and_then, cut, elements_in, first_of, tunnel_of, named, indication_of}
use Rattle.gtpu.specs.Firsts.{Firsts, firsts_after, firsts_from, TeidData, PeerAddress}
use Rattle.gtpu.proofs.Rows.{size_16, size_other, size_positive, sound, refused_by, within}
use Rattle.gtpu.proofs.Cut.{then_same, then_then, cut_onward, type_of_lem, first_kept, is_teid_data, is_peer_address_lem}

abbrev pub firsts : Option (List ℕ) → Option (List ℕ) → Firsts
firsts teid_data peer_address = record { teid_data = teid_data; peer_address = peer_address }

abbrev of_elements : Firsts → List (List ℕ) → Firsts
of_elements before elements = firsts (option_or before.teid_data (first_of 16 elements)) (option_or before.peer_address (first_of 133 elements))

abbrev behind : Firsts → List (List ℕ) → Outcome Firsts
behind before elements = gives (of_elements before elements)

abbrev front_of : List ℕ → List ℕ
front_of l = take (element_size l) l

abbrev rest_of : List ℕ → List ℕ
rest_of l = drop (element_size l) l

-- ---- the walk: a refused element refuses the list, a sound one is noted, and nothing is left at the end

module _ (before : Firsts) (l : List ℕ) where
  pub refuses_list : (n : ℕ) → 0 < length l → refused n ≡ element_of l → refused n ≡ firsts_from before l
  unfolding firsts_from
  refuses_list n h e = ap (λ (o : Outcome (List (List ℕ))). and_then o (behind before)) (refused_by (element_causes l) (element_size l) n _ e ∙ sym (cut_onward l h))

  pub follows : (n : ℕ) → gives n ≡ element_of l → firsts_from (firsts_after before (take n l)) (drop n l) ≡ firsts_from before l
  unfolding firsts_from
  follows n e =
      let s = sound l n e in
      let h : 0 < length l = omega (arith, size_positive l) in
      let front = front_of l in
      let rest = elements_in (rest_of l) in
      rw s.size
      (sym
      (ap (λ (o : Outcome (List (List ℕ))). and_then o (behind before)) (cut_onward l h ∙ sym (passes _ s.passes))
      ∙ then_then rest (λ elements. front ∷ elements) (behind before)
      ∙ then_same rest (λ elements. behind before (front ∷ elements)) (behind (firsts_after before front))
      (λ elements. ap₂ (λ (t p : Option (List ℕ)). gives (firsts t p)) (first_kept 16 before.teid_data front elements) (first_kept 133 before.peer_address front elements))))

kept : (before : Option (List ℕ)) → option_or before None ≡ before
kept None = refl
kept (Some element) = refl

pub at_end : (before : Firsts) (l : List ℕ) → length l ≡ 0 → firsts_from before l ≡ gives before
unfolding firsts_from elements_in cut
at_end before [] h = ap₂ (λ (t p : Option (List ℕ)). gives (firsts t p)) (kept before.teid_data) (kept before.peer_address)
at_end before (b ∷ l) h = absurd (omega arith)

-- ---- the elements are whole

module _ (Is : List ℕ → Type 0) (ie_type : ℕ) (is : (b : ℕ) (l : List ℕ) → Passes (element_causes (b ∷ l)) → b ≡ ie_type → Is (take (element_size (b ∷ l)) (b ∷ l))) where
  nothing : (elements : List (List ℕ)) (e : List ℕ) → ◌≡◌ {A = Outcome (List (List ℕ))} (gives []) (gives elements) → first_of ie_type elements ≡ Some e → ⊥
  nothing [] e f g = cc
  nothing (x ∷ elements) e f g = cc

  first_is : (bound : ℕ) (l : List ℕ) (elements : List (List ℕ)) (e : List ℕ) → cut bound l ≡ gives elements → first_of ie_type elements ≡ Some e → Is e
  unfolding cut
  first_is zero l elements e f g = absurd (nothing elements e f g)
  first_is (suc bound) [] elements e f g = absurd (nothing elements e f g)
  first_is (suc bound) (b ∷ l) elements e f g =
      let p = passed (element_causes (b ∷ l)) _ elements f in
      by (λ more h k. first_is bound (rest_of (b ∷ l)) more e h k) (cut bound (rest_of (b ∷ l))) refl p.0 p.1 g
    where
      Behind : Type 0
      Behind = (more : List (List ℕ)) → cut bound (rest_of (b ∷ l)) ≡ gives more → first_of ie_type more ≡ Some e → Is e

      at_front : Behind → (here : Bool) → eqb b ie_type ≡ here → Passes (element_causes (b ∷ l)) → (more : List (List ℕ)) → cut bound (rest_of (b ∷ l)) ≡ gives more
          → elim here as (λ (x : Bool). Option (List ℕ)) [ true ↦ Some (front_of (b ∷ l)) | false ↦ first_of ie_type more ] ≡ Some e → Is e
      at_front further true h p more k q = let same : front_of (b ∷ l) ≡ e = cc in rw (← same) (is b l p (eqb-true b ie_type h))
      at_front further false h p more k q = further more k q

      by : Behind → (o : Outcome (List (List ℕ))) → cut bound (rest_of (b ∷ l)) ≡ o → Passes (element_causes (b ∷ l)) → and_then o (λ more. gives (front_of (b ∷ l) ∷ more)) ≡ gives elements
          → first_of ie_type elements ≡ Some e → Is e
      by further (refused n) h p f g = absurd (refused_gives f)
      by further (gives more) h p f g =
          let same : front_of (b ∷ l) ∷ more ≡ elements = cc in
          at_front further (eqb b ie_type) refl p more h
          (ap (λ (x : ℕ). elim (eqb x ie_type) as (λ (y : Bool). Option (List ℕ)) [ true ↦ Some (front_of (b ∷ l)) | false ↦ first_of ie_type more ])
          (sym (type_of_lem (element_size (b ∷ l)) b l (size_positive (b ∷ l))))
          ∙ (rw (← same) at g))

  pub whole : (l : List ℕ) (first : Firsts → Option (List ℕ)) → ((elements : List (List ℕ)) → first (of_elements (firsts None None) elements) ≡ first_of ie_type elements)
      → (f : Firsts) (e : List ℕ) → gives f ≡ firsts_from (firsts None None) l → first f ≡ Some e → Is e
  unfolding firsts_from elements_in
  whole l first reads f e g h = by (cut (length l) l) refl (sym g)
    where
      by : (o : Outcome (List (List ℕ))) → cut (length l) l ≡ o → and_then o (behind (firsts None None)) ≡ gives f → Is e
      by (refused n) k q = absurd (refused_gives q)
      by (gives elements) k q =
          let same : of_elements (firsts None None) elements ≡ f = cc in
          first_is (length l) l elements e k (sym (reads elements) ∙ ap first same ∙ h)

module _ (b : ℕ) (l : List ℕ) (p : Passes (element_causes (b ∷ l))) where
  abbrev list : List ℕ
  list = b ∷ l

  abbrev element : List ℕ
  element = front_of list

  front_length : length element ≡ element_size list
  front_length = length-take-le (element_size list) list (within list p)

  teid_is : b ≡ 16 → TeidData element
  teid_is e =
      let is = is_teid_data list p (eq-eqb b 16 e) in
      let size = size_16 list is.type in
      record { type = type_of_lem (element_size list) b l (omega arith) ∙ e; fits = omega (arith, front_length) }

  peer_is : b ≡ 133 → PeerAddress element
  peer_is e =
      let is = is_peer_address_lem list p (eq-eqb b 133 e) in
      let size = size_other list (λ f. omega arith) in
      let same : value_length list ≡ value_length element = ap value_of (sym (bytes_at_take 2 (element_size list) 1 list (omega arith))) in
      record {
        type = type_of_lem (element_size list) b l (omega arith) ∙ e;
        octets = rw same at is.octets;
        fits = omega (arith, front_length);
      }

module _ (payload : List ℕ) (f : Firsts) (found : gives f ≡ firsts_from (firsts None None) payload) (element : List ℕ) where
  pub teid_whole : f.teid_data ≡ Some element → TeidData element
  teid_whole e = whole TeidData 16 teid_is payload (λ f. f.teid_data) (λ elements. refl) f element found e

  pub peer_whole : f.peer_address ≡ Some element → PeerAddress element
  peer_whole e = whole PeerAddress 133 peer_is payload (λ f. f.peer_address) (λ elements. refl) f element found e

-- ---- the payload's tunnel is that of its first ones

pub indication_at : (payload : List ℕ) (o : Outcome Firsts) → o ≡ firsts_from (firsts None None) payload → and_then o (λ f. named f.teid_data f.peer_address) ≡ indication_of payload
unfolding firsts_from indication_of
indication_at payload o e =
    ap (λ (x : Outcome Firsts). and_then x (λ f. named f.teid_data f.peer_address)) e
    ∙ then_then (elements_in payload) (of_elements (firsts None None)) (λ f. named f.teid_data f.peer_address)

-- of what was seen where nothing is left
module _ (payload : List ℕ) (f : Firsts) (found : gives f ≡ firsts_from (firsts None None) payload) where
  names_lem : named f.teid_data f.peer_address ≡ indication_of payload
  names_lem = indication_at payload (gives f) found

  pub teid_missing : f.teid_data ≡ None → refused 28 ≡ indication_of payload
  teid_missing e = ap (λ (t : Option (List ℕ)). named t f.peer_address) (sym e) ∙ names_lem

  module _ (t : List ℕ) (e : f.teid_data ≡ Some t) where
    pub peer_missing : f.peer_address ≡ None → refused 29 ≡ indication_of payload
    peer_missing g = ap₂ named (sym e) (sym g) ∙ names_lem

    pub both_found : (p : List ℕ) → f.peer_address ≡ Some p → gives (tunnel_of t p) ≡ indication_of payload
    both_found p g = ap₂ named (sym e) (sym g) ∙ names_lem
