-- A list of T-PDUs: how it is read, one return, and that what was taken so far, with what is left, is the whole answer.
use Prim.Native.Nat.{ℕ, zero, suc, ◌+◌, ◌-◌, ◌≤◌, ◌<◌, min}
use mathlib.Core.Path.{◌≡◌, refl, sym, ap, ◌∙◌}
use mathlib.Core.Bool.{true, false}
use mathlib.Core.List.{List, [], ◌∷◌, ◌++◌, map, append_assoc, append-nil}
use native.Mathlib.Nat.{le_of_suc-le-suc}
use native.Mathlib.Numerals.{add-one}
use native.Mathlib.Omega.{arith}
use lib.ListN.{length, get_or, set, take, drop, length-set, length-map, take-append-drop}
use lib.Seq.{take-suc, drop-cons, drop-drop, take-set-le, drop-set-lt, get_or-set_same, length-take-le}
use Rattle.error.specs.Number.{malformed_observer}
use Rattle.error.specs.Outcome.{Outcome, refused, gives, outcome_number}
use Rattle.std.proofs.lemmas.List.{take_min, drop_min}
use Rattle.observer.specs.Observer.{Observer}
use Rattle.observer.specs.Judge.{well_formed, Step, after_reading}
use Rattle.observer.specs.Returning.{record_return}
use Rattle.observer.specs.InTurn.{Steps, in_turn}
use Rattle.observer.specs.Claims.{returning}
use Rattle.observer.proofs.Calls.{judged_malformed, judged_well, refusing_well}
use Rattle.observer.proofs.Claims.{calls_keep_well}
use Rattle.return_calls.specs.Returns.{sequence_read, record_received_tpdu}
use Rattle.received_tpdus.specs.Received.{tpdus_of, Received, received_of, record_received, returns_in, ReturnsTaken, sequence_or_0, at_front, take_returns, record_received_tpdus}

-- ---- reading

-- T-PDU i, and those behind it
pub tpdu_next : (lengths left : List ℕ) (tpdus : List (List ℕ)) (i size : ℕ) → i < length lengths → size ≡ min (get_or lengths i 0) (length left)
    → tpdus_of (drop i lengths) left ≡ drop i tpdus → drop i tpdus ≡ take size left ∷ tpdus_of (drop (i + 1) lengths) (drop size left)
tpdu_next lengths left tpdus i size h e s =
    let n : ℕ = get_or lengths i 0 in
    sym s
    ∙ ap (λ (l : List ℕ). tpdus_of l left) (drop-cons lengths i 0 h)
    ∙ (λ j. sym (ap (λ (k : ℕ). take k left) e ∙ take_min n left) j ∷ tpdus_of (drop (sym (add-one i) j) lengths) (sym (ap (λ (k : ℕ). drop k left) e ∙ drop_min n left) j))

-- behind T-PDU i
pub tpdus_behind : (tpdus rest : List (List ℕ)) (x : List ℕ) (i : ℕ) → drop i tpdus ≡ x ∷ rest → rest ≡ drop (i + 1) tpdus
tpdus_behind tpdus rest x i e = rw add-one (ap (drop 1) (sym e) ∙ drop-drop 1 i tpdus ∙ ap (λ (k : ℕ). drop k tpdus) (add-one i))

-- a number of T-PDU i is stored in a column
module _ {A : Type 0} (field : A → ℕ) (x : A) (rest : List A) where
  stored_at : (i : ℕ) (tpdus : List A) (column : List ℕ) → drop i tpdus ≡ x ∷ rest → i < length column
      → set (map field (take i tpdus) ++ drop i column) i (field x) ≡ map field (take (suc i) tpdus) ++ drop (suc i) column
  stored_at zero [] column s h = absurd (let z : ◌≡◌ {A = ℕ} 0 1 = cc in omega arith)
  stored_at zero (y ∷ tpdus) [] s h = absurd (omega arith)
  stored_at zero (y ∷ tpdus) (m ∷ column) s h = ap (λ (z : A). field z ∷ column) (let e : x ≡ y = cc in e)
  stored_at (suc i) [] column s h = absurd (let z : ◌≡◌ {A = ℕ} 0 1 = cc in omega arith)
  stored_at (suc i) (y ∷ tpdus) [] s h = absurd (omega arith)
  stored_at (suc i) (y ∷ tpdus) (m ∷ column) s h = ap (λ (l : List ℕ). field y ∷ l) (stored_at i tpdus column s (le_of_suc-le-suc h))

  pub stored : (tpdus : List A) (column₀ column : List ℕ) (i n : ℕ) → drop i tpdus ≡ x ∷ rest → i < length column₀
      → column ≡ map field (take i tpdus) ++ drop i column₀ → n ≡ field x → set column i n ≡ map field (take (i + 1) tpdus) ++ drop (i + 1) column₀
  stored tpdus column₀ column i n s h e f = rw (e, f, add-one) (stored_at i tpdus column₀ s h)

-- ---- one return

module _ (o : Observer) (t : ℕ) (p : List ℕ) where
  -- it leaves the observer well formed
  pub reading_well : (read : Outcome ℕ) → well_formed o ≡ true → well_formed (after_reading o read (record_return o t)).observer ≡ true
  reading_well (refused n) w = ap (λ (s : Step). well_formed s.observer) (sym (refusing_well o n w)) ∙ w
  reading_well (gives q) w = calls_keep_well o (returning t q ∷ []) w

  -- as a step of the list
  pub read_is : (read : Outcome ℕ) → read ≡ sequence_read p → {s : Step} → s ≡ after_reading o read (record_return o t) → s ≡ record_received_tpdu o t p
  unfolding record_received_tpdu
  read_is read e f = f ∙ ap (λ (x : Outcome ℕ). after_reading o x (record_return o t)) e

-- ---- the list

-- numbers that are written, and what is left
abbrev pub joined : List ℕ → Steps → Steps
joined front s = record { numbers = front ++ s.numbers; observer = s.observer }

-- one call more
pub joined_step : {A : Type 0} (call : Observer → A → Step) (front : List ℕ) (o : Observer) (x : A) (xs : List A) (s : Step) (n : ℕ)
    → s ≡ call o x → n ≡ outcome_number s.outcome
    → joined (front ++ n ∷ []) (in_turn call s.observer xs) ≡ joined front (in_turn call o (x ∷ xs))
joined_step call front o x xs s n e m =
    ap (λ (l : List ℕ). record { numbers = l; observer = (in_turn call s.observer xs).observer }) (append_assoc front (n ∷ []) (in_turn call s.observer xs).numbers)
    ∙ ap (λ (k : ℕ). joined front (record { numbers = k ∷ (in_turn call s.observer xs).numbers; observer = (in_turn call s.observer xs).observer })) m
    ∙ ap (λ (z : Step). joined front (record {
      numbers = outcome_number z.outcome ∷ (in_turn call z.observer xs).numbers;
      observer = (in_turn call z.observer xs).observer;
    })) e

-- a number is stored at i
pub stored_front : (ns : List ℕ) (i n : ℕ) → i < length ns → take (suc i) (set ns i n) ≡ take i ns ++ n ∷ []
stored_front ns i n h =
    let l : length (set ns i n) ≡ length ns = length-set ns i n in
    take-suc (set ns i n) i 0 (omega arith) ∙ (λ j. take-set-le i ns i n (omega arith) j ++ get_or-set_same ns i n 0 h j ∷ [])

-- behind it nothing changes
pub stored_behind : (ns ns₀ : List ℕ) (i n : ℕ) → i < length ns → i < length ns₀ → drop i ns ≡ drop i ns₀ → drop (i + 1) (set ns i n) ≡ drop (i + 1) ns₀
stored_behind ns ns₀ i n h g e =
    rw add-one
    (drop-set-lt (suc i) ns i n (omega arith)
    ∙ ap (drop 1) (sym (drop-cons ns i 0 h) ∙ e ∙ drop-cons ns₀ i 0 g))

-- the returns from return i on
module _ (times : List ℕ) (all : List (List ℕ)) (returns : ℕ) where
  abbrev pub left_from : ℕ → List Received
  left_from i = received_of (drop i times) (take (returns - i) (drop i all))

  pub left_first : left_from 0 ≡ received_of times (take returns all)
  left_first = let e : returns - 0 ≡ returns = omega arith in ap (λ (n : ℕ). received_of times (take n all)) e

  no_tpdus : (ts : List ℕ) → received_of ts [] ≡ []
  no_tpdus [] = refl
  no_tpdus (t ∷ ts) = refl

  left_none : (i : ℕ) → returns ≤ i → left_from i ≡ []
  left_none i h =
      let e : returns - i ≡ 0 = omega arith in
      ap (λ (n : ℕ). received_of (drop i times) (take n (drop i all))) e ∙ no_tpdus (drop i times)

  module _ (i : ℕ) (x : List ℕ) (rest : List (List ℕ)) (ht : i < length times) (hr : i < returns) (here : drop i all ≡ x ∷ rest) where
    left_next : left_from i ≡ record { time = get_or times i 0; tpdu = x } ∷ left_from (i + 1)
    left_next =
        let e : returns - i ≡ suc (returns - (i + 1)) = omega arith in
        (λ j. received_of (drop-cons times i 0 ht j) (take (e j) (here j)))
        ∙ (λ j. record { time = get_or times i 0; tpdu = x }
        ∷ received_of (drop (sym (add-one i) j) times) (take (returns - (i + 1)) (tpdus_behind all rest x i here j)))

    -- one return more
    pub received_step : (o : Observer) (ns : List ℕ) (whole : Steps) (s : Step) (n : ℕ) → i < length ns
        → s ≡ record_received_tpdu o (get_or times i 0) x → n ≡ outcome_number s.outcome
        → joined (take i ns) (in_turn record_received o (left_from i)) ≡ whole
        → joined (take (i + 1) (set ns i n)) (in_turn record_received s.observer (left_from (i + 1))) ≡ whole
    received_step o ns whole s n hn e m h =
        ap (λ (l : List ℕ). joined l (in_turn record_received s.observer (left_from (i + 1))))
        (ap (λ (k : ℕ). take k (set ns i n)) (add-one i) ∙ stored_front ns i n hn)
        ∙ joined_step record_received (take i ns) o (record { time = get_or times i 0; tpdu = x }) (left_from (i + 1)) s n e m
        ∙ ap (λ (l : List Received). joined (take i ns) (in_turn record_received o l)) (sym left_next)
        ∙ h

tpdus_count : (lengths bytes : List ℕ) → length (tpdus_of lengths bytes) ≡ length lengths
tpdus_count [] bytes = refl
tpdus_count (n ∷ lengths) bytes = ap suc (tpdus_count lengths (drop n bytes))

-- ---- the call by its ways out

module _ (o : Observer) (times lengths bytes returned numbers : List ℕ) where
  abbrev all : List (List ℕ)
  all = tpdus_of lengths bytes

  abbrev left_by : Outcome ReturnsTaken → ReturnsTaken
  left_by x =
      elim x [ refused n ↦ record { outcome = refused n; returned = returned; numbers = numbers; observer = o } | gives taken ↦ taken ]

  abbrev taken : ℕ → Outcome ReturnsTaken
  taken n = gives (take_returns o times (take n all) returned numbers)

  -- 21, before anything is read
  pub received_malformed : well_formed o ≡ false
      → record { outcome = refused malformed_observer; returned = returned; numbers = numbers; observer = o }
      ≡ record_received_tpdus o times lengths bytes returned numbers
  unfolding record_received_tpdus
  received_malformed w = ap left_by (judged_malformed o (taken (returns_in times lengths returned numbers)) w)

  received_well : well_formed o ≡ true → (n : ℕ) → n ≡ returns_in times lengths returned numbers
      → take_returns o times (take n all) returned numbers ≡ record_received_tpdus o times lengths bytes returned numbers
  unfolding record_received_tpdus
  received_well w n e = ap (λ (k : ℕ). left_by (taken k)) e ∙ ap left_by (judged_well o (taken (returns_in times lengths returned numbers)) w)

  -- the last return is taken
  module _ (n : ℕ) (e : n ≡ returns_in times lengths returned numbers) where
    abbrev reads : ℕ → List ℕ
    reads k = map (λ tpdu. sequence_or_0 (sequence_read tpdu)) (take k all)

    abbrev taken_as : Steps → List ℕ → ReturnsTaken
    taken_as s column = record { outcome = gives (length s.numbers); returned = column; numbers = at_front s.numbers numbers; observer = s.observer }

    pub received_all : well_formed o ≡ true → (i : ℕ) (x : Observer) (rs ns : List ℕ) → i ≡ n → length ns ≡ length numbers
        → joined (take i ns) (in_turn record_received x (left_from times all n i)) ≡ in_turn record_received o (received_of times (take n all))
        → drop i ns ≡ drop i numbers → rs ≡ reads i ++ drop i returned
        → record { outcome = gives n; returned = rs; numbers = ns; observer = x } ≡ record_received_tpdus o times lengths bytes returned numbers
    received_all w i x rs ns is l on d r =
        let whole : Steps = in_turn record_received o (received_of times (take n all)) in
        let front : joined (take i ns) (record { numbers = []; observer = x }) ≡ whole =
        ap (λ (l : List Received). joined (take i ns) (in_turn record_received x l)) (sym (left_none times all n i (omega arith))) ∙ on in
        let none : take i ns ++ [] ≡ take i ns = append-nil (take i ns) in
        let count : length (take i ns ++ []) ≡ i = ap length none ∙ length-take-le i ns (omega arith) in
        let first : length (reads n) ≡ n = length-map (take n all) (λ tpdu. sequence_or_0 (sequence_read tpdu)) ∙ length-take-le n all (omega (arith, tpdus_count lengths bytes)) in
        (λ j. record {
          outcome = gives ((sym is ∙ sym count) j);
          returned = rs;
          numbers = (sym (take-append-drop i ns) ∙ (λ k. sym none k ++ (d ∙ ap (λ (m : ℕ). drop m numbers) (sym count)) k)) j;
          observer = x;
        })
        ∙ ap (λ (s : Steps). taken_as s rs) front
        ∙ ap (taken_as whole) (r ∙ ap (λ (k : ℕ). reads k ++ drop k returned) is ∙ ap (λ (k : ℕ). reads n ++ drop k returned) (sym first))
        ∙ received_well w n e
