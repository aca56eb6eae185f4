-- What a T-PDU and elements are to the observer, what was read recorded, and a message by its type.
use Prim.Native.Nat.{ℕ}
use native.Mathlib.Omega.{arith}
use mathlib.Core.Path.{◌≡◌, refl, sym, ap, ◌∙◌}
use mathlib.Core.Logic.{◌⊎◌, inl, inr, ⊎_elim}
use mathlib.Core.Bool.{Bool, true, false}
use mathlib.Core.List.{List, [], ◌∷◌}
use lib.Dec.{eqb}
use borrow.Author.Tests.{eq-eqb, ne_eqb, eqb-true}
use Rattle.std.specs.Prelude.{Result, Ok, Err}
use Rattle.std.proofs.lemmas.Result.{err_from_is_err_and}
use Rattle.error.specs.Number.{malformed_observer, unsupported_message_type}
use Rattle.error.specs.Outcome.{Outcome, refused, gives}
use Rattle.error.specs.declared.Refusal.{Refusal}
use Rattle.measurement.specs.declared.DecodedTpdu.{DecodedTpdu}
use Rattle.measurement_reading.specs.Read.{read_of}
use Rattle.measurement_decode.specs.Numbers.{tpdu_numbers}
use Rattle.measurement_decode.specs.declared.TpduNumbers.{TpduNumbers}
use Rattle.gtpu.specs.Answer.{tunnel_named}
use Rattle.gtpu.specs.Indication.{and_then, indication_of}
use Rattle.gtpu.specs.Tunnels.{yes_or_no, SameAnswer}
use Rattle.gtpu.specs.declared.RefusedTunnel.{RefusedTunnel}
use Rattle.gtpu.proofs.Tunnels.{same_answer}
use Rattle.observer.specs.Observer.{Observer}
use Rattle.observer.specs.Judge.{well_formed, Step, refusing, after_reading}
use Rattle.observer.specs.Returning.{record_return, record_error_indication}
use Rattle.observer.specs.Answer.{taken}
use Rattle.observer.proofs.Calls.{judged_malformed, judged_well, return_malformed, indication_malformed, refusing_malformed, refusing_well}
use Rattle.return_calls.specs.Kinds.{Kind, MeasurementTpdu, ErrorIndication, EchoResponse, Ignored, message_type_of, kinds, kind_among, message_kind}
use Rattle.return_calls.specs.Returns.{sequence_read, record_received_tpdu, record_elements, MessageStep, as_message, unchanged, record_kind, record_return_message}
use Rattle.return_calls.specs.Answer.{kind_of, message_means, tunnel_in, tunnel_told}
use Rattle.return_calls.specs.Reading.{tpdu_returned, elements_returned, kind_returned, message_returned, record_returned, answer_to, AsRead}
use Rattle.return_calls.specs.Tunnel.{tunnel_of_kind, tunnel_handed_on}
use Rattle.return_calls.specs.declared.GtpuReturnDatagramOutcome.{GtpuReturnDatagramOutcome}
use Rattle.return_calls.specs.declared.Returned.{Returned}
use Rattle.return_calls.specs.declared.Returned.TheVariants as returned

-- ---- a T-PDU

-- what the reader answers
module _ (p : List ℕ) where
  pub read_refused : {n : ℕ} → refused n ≡ tpdu_numbers (read_of p) → refused n ≡ sequence_read p
  unfolding sequence_read tpdu_numbers
  read_refused {n} e = go (read_of p) e
    where
      go : (o : Outcome DecodedTpdu) → refused n ≡ tpdu_numbers o → refused n ≡ elim o as (λ (x : Outcome DecodedTpdu). Outcome ℕ) [ refused n ↦ refused n | gives t ↦ gives t.measurement.sequence ]
      go (refused m) e = cc
      go (gives t) e = cc

  pub read_given : {x : TpduNumbers} → gives x ≡ tpdu_numbers (read_of p) → gives x.sequence ≡ sequence_read p
  unfolding sequence_read tpdu_numbers
  read_given {x} e = go (read_of p) e
    where
      go : (o : Outcome DecodedTpdu) → gives x ≡ tpdu_numbers o → gives x.sequence ≡ elim o as (λ (x : Outcome DecodedTpdu). Outcome ℕ) [ refused n ↦ refused n | gives t ↦ gives t.measurement.sequence ]
      go (refused m) e = cc
      go (gives t) e = cc

pub ruleset reading = (read_refused, read_given, err_from_is_err_and)

-- ---- what was read, recorded

-- a step whose message is not told
abbrev pub untold : MessageStep → Step
untold m = record { outcome = taken m.outcome; observer = m.observer }

untold_as : (kind : Kind) (s : Step) → untold (as_message kind s) ≡ s
untold_as kind s = ap {B = Step} (λ (x : Outcome (Unit {0})). record { outcome = x; observer = s.observer }) (go s.outcome)
  where
    go : (x : Outcome (Unit {0})) → taken (elim x as (λ (y : Outcome (Unit {0})). Outcome Kind) [ refused n ↦ refused n | gives u ↦ gives kind ]) ≡ x
    go (refused n) = refl
    go (gives u) = refl

module _ (o : Observer) (time : ℕ) where
  abbrev message : Outcome Kind → MessageStep
  message x = record { outcome = x; observer = o }

  as_refusing : (kind : Kind) (n : ℕ) → unchanged o (refused n) ≡ as_message kind (refusing o n)
  as_refusing kind n = go (well_formed o) refl
    where
      go : (b : Bool) → well_formed o ≡ b → unchanged o (refused n) ≡ as_message kind (refusing o n)
      go true w = ap message (sym (judged_well o (refused n) w)) ∙ ap (as_message kind) (refusing_well o n w)
      go false w = ap message (sym (judged_malformed o (refused n) w)) ∙ ap (as_message kind) (refusing_malformed o n w)

  pub returned_malformed : (x : Outcome Returned) → well_formed o ≡ false → message (refused malformed_observer) ≡ record_returned o time x
  returned_malformed (refused n) w = ap message (judged_malformed o _ w)
  returned_malformed (gives (returned.Sequence q)) w = ap (as_message MeasurementTpdu) (return_malformed o time q w)
  returned_malformed (gives (returned.ErrorIndication tunnel)) w = ap (as_message ErrorIndication) (indication_malformed o w)
  returned_malformed (gives returned.EchoResponse) w = ap message (judged_malformed o _ w)
  returned_malformed (gives (returned.Ignored t)) w = ap message (judged_malformed o _ w)

  pub noticed : (x : Outcome Kind) → well_formed o ≡ true → message x ≡ unchanged o x
  noticed x w = ap message (judged_well o x w)

  tpdu_recorded : (x : Outcome ℕ) → record_returned o time (tpdu_returned x) ≡ as_message MeasurementTpdu (after_reading o x (record_return o time))
  tpdu_recorded (refused n) = as_refusing MeasurementTpdu n
  tpdu_recorded (gives q) = refl

  pub received_is : (p : List ℕ) → untold (record_returned o time (tpdu_returned (sequence_read p))) ≡ record_received_tpdu o time p
  unfolding record_received_tpdu
  received_is p = ap untold (tpdu_recorded (sequence_read p)) ∙ untold_as MeasurementTpdu _

  elements_recorded : (x : Outcome RefusedTunnel)
      → record_returned o time (elements_returned x) ≡ as_message ErrorIndication (after_reading o (yes_or_no x) (λ accepted. record_error_indication o))
  elements_recorded (refused n) = as_refusing ErrorIndication n
  elements_recorded (gives tunnel) = refl

-- ---- a message by its type

-- each of these kinds has the property
abbrev All : (Kind → Type 0) → List Kind → Type 0
All P [] = Unit {0}
All P (kind ∷ rest) = P kind × All P rest

-- the kind that is found has the type, and is one of those looked among
kind_among_lem : (P : Kind → Type 0) (ks : List Kind) (t : ℕ) (kind : Kind) → All P ks
    → kind_among ks t ≡ gives kind → (message_type_of kind ≡ t) × P kind
kind_among_lem P [] t kind all e = absurd (let z : ◌≡◌ {A = ℕ} 0 1 = cc in omega arith)
kind_among_lem P (x ∷ ks) t kind all e = go (eqb t (message_type_of x)) refl e (λ f. kind_among_lem P ks t kind all.1 f)
  where
    go : (b : Bool) → eqb t (message_type_of x) ≡ b → ◌≡◌ {A = Outcome Kind} (elim b [ true ↦ gives x | false ↦ kind_among ks t ]) (gives kind)
        → (kind_among ks t ≡ gives kind → (message_type_of kind ≡ t) × P kind) → (message_type_of kind ≡ t) × P kind
    go true f e rest =
        let same : x ≡ kind = cc in
        (ap message_type_of (sym same) ∙ sym (eqb-true t (message_type_of x) f), (rw same at all.0))
    go false f e rest = rest e

-- the first kind has the type, or one of the others may have it
module _ (x : Kind) (ks : List Kind) (t : ℕ) where
  first : t ≡ message_type_of x → kind_among (x ∷ ks) t ≡ gives x
  first h =
      ap (λ (b : Bool). elim b as (λ (y : Bool). Outcome Kind) [ true ↦ gives x | false ↦ kind_among ks t ]) (eq-eqb t (message_type_of x) h)

  other : (t ≡ message_type_of x → ⊥) → kind_among (x ∷ ks) t ≡ kind_among ks t
  other h =
      ap (λ (b : Bool). elim b as (λ (y : Bool). Outcome Kind) [ true ↦ gives x | false ↦ kind_among ks t ]) (ne_eqb t (message_type_of x) h)

-- an ignored message is of the type 254 or 31
abbrev IgnoredTypes : Kind → Type 0
IgnoredTypes MeasurementTpdu = Unit {0}
IgnoredTypes ErrorIndication = Unit {0}
IgnoredTypes EchoResponse = Unit {0}
IgnoredTypes (Ignored t) = (t ≡ 254) ⊎ (t ≡ 31)

pub kind_is : (t : ℕ) (kind : Kind) → message_kind t ≡ gives kind → (message_type_of kind ≡ t) × IgnoredTypes kind
unfolding message_kind
kind_is t kind e = kind_among_lem IgnoredTypes kinds t kind (tt, (tt, (tt, (inl refl, (inr refl, tt))))) e

-- the kinds from each on
abbrev from_31 : List Kind
from_31 = Ignored 31 ∷ []

abbrev from_254 : List Kind
from_254 = Ignored 254 ∷ from_31

abbrev from_2 : List Kind
from_2 = EchoResponse ∷ from_254

abbrev from_26 : List Kind
from_26 = ErrorIndication ∷ from_2

module _ (t : ℕ) where
  pub kind_255 : t ≡ 255 → gives MeasurementTpdu ≡ message_kind t
  unfolding message_kind
  kind_255 h = sym (first MeasurementTpdu from_26 t h)

  not_255 : (t ≡ 255 → ⊥) → message_kind t ≡ kind_among from_26 t
  unfolding message_kind
  not_255 h = other MeasurementTpdu from_26 t h

  pub kind_26 : t ≡ 26 → gives ErrorIndication ≡ message_kind t
  kind_26 h = sym (not_255 (λ k. omega arith) ∙ first ErrorIndication from_2 t h)

  not_26 : (t ≡ 255 → ⊥) → (t ≡ 26 → ⊥) → message_kind t ≡ kind_among from_2 t
  not_26 h k = not_255 h ∙ other ErrorIndication from_2 t k

  pub kind_2 : t ≡ 2 → gives EchoResponse ≡ message_kind t
  kind_2 h = sym (not_26 (λ k. omega arith) (λ k. omega arith) ∙ first EchoResponse from_254 t h)

  not_2 : (t ≡ 255 → ⊥) → (t ≡ 26 → ⊥) → (t ≡ 2 → ⊥) → message_kind t ≡ kind_among from_254 t
  not_2 h k l = not_26 h k ∙ other EchoResponse from_254 t l

  pub kind_ignored : t ≡ 31 ⊎ t ≡ 254 → gives (Ignored t) ≡ message_kind t
  kind_ignored (inl h) =
      ap (λ (x : ℕ). gives (Ignored x)) h
      ∙ sym (not_2 (λ k. omega arith) (λ k. omega arith) (λ k. omega arith) ∙ other (Ignored 254) from_31 t (λ k. omega arith) ∙ first (Ignored 31) [] t h)
  kind_ignored (inr h) =
      ap (λ (x : ℕ). gives (Ignored x)) h
      ∙ sym (not_2 (λ k. omega arith) (λ k. omega arith) (λ k. omega arith) ∙ first (Ignored 254) from_31 t h)

  pub kind_other : (t ≡ 255 → ⊥) → (t ≡ 26 → ⊥) → (t ≡ 2 → ⊥) → (t ≡ 31 ⊎ t ≡ 254 → ⊥) → refused unsupported_message_type ≡ message_kind t
  kind_other a b c d =
      sym (not_2 a b c ∙ other (Ignored 254) from_31 t (λ e. d (inr e)) ∙ other (Ignored 31) [] t (λ e. d (inl e)))

-- what is read of a message, recorded
module _ (t : ℕ) (payload : List ℕ) where
  read_kind : (x : Outcome Kind) → x ≡ message_kind t → and_then x (kind_returned payload) ≡ message_returned t payload
  unfolding message_returned
  read_kind x e = ap (λ (y : Outcome Kind). and_then y (kind_returned payload)) e

  pub read_255 : {x : Outcome Returned} → t ≡ 255 → x ≡ tpdu_returned (sequence_read payload) → x ≡ message_returned t payload
  read_255 h e = e ∙ read_kind (gives MeasurementTpdu) (kind_255 t h)

  pub read_26_refused : {n : ℕ} → t ≡ 26 → refused n ≡ indication_of payload → refused n ≡ message_returned t payload
  read_26_refused h e = ap elements_returned e ∙ read_kind (gives ErrorIndication) (kind_26 t h)

  pub read_26_given : {tunnel : RefusedTunnel} → t ≡ 26 → gives tunnel ≡ indication_of payload → gives (returned.ErrorIndication tunnel) ≡ message_returned t payload
  read_26_given h e = ap elements_returned e ∙ read_kind (gives ErrorIndication) (kind_26 t h)

  pub read_2 : t ≡ 2 → gives returned.EchoResponse ≡ message_returned t payload
  read_2 h = read_kind (gives EchoResponse) (kind_2 t h)

  pub read_ignored : t ≡ 31 ⊎ t ≡ 254 → gives (returned.Ignored t) ≡ message_returned t payload
  read_ignored h = read_kind (gives (Ignored t)) (kind_ignored t h)

  pub read_other : (t ≡ 255 → ⊥) → (t ≡ 26 → ⊥) → (t ≡ 2 → ⊥) → (t ≡ 254 → ⊥) → (t ≡ 31 → ⊥) → refused 37 ≡ message_returned t payload
  read_other a b c d e = read_kind (refused 37) (kind_other t a b c (λ either. ⊎_elim e d either))

  module _ (o : Observer) (time : ℕ) where
    abbrev pub record_as : Outcome Kind → MessageStep
    record_as x = elim x [ refused n ↦ unchanged o (refused n) | gives kind ↦ record_kind o time payload kind ]

    pub message_as : record_return_message o time t payload ≡ record_as (message_kind t)
    unfolding record_return_message
    message_as = refl

    pub message_is : record_returned o time (message_returned t payload) ≡ record_return_message o time t payload
    unfolding message_returned SameAnswer record_received_tpdu
    message_is = go (message_kind t) ∙ sym message_as
      where
        go : (x : Outcome Kind) → record_returned o time (and_then x (kind_returned payload)) ≡ record_as x
        go (refused n) = refl
        go (gives MeasurementTpdu) = tpdu_recorded o time (sequence_read payload)
        go (gives ErrorIndication) =
            elements_recorded o time (indication_of payload)
            ∙ ap (λ (x : Outcome (Unit {0})). as_message ErrorIndication (after_reading o x (λ accepted. record_error_indication o))) (same_answer payload)
        go (gives EchoResponse) = refl
        go (gives (Ignored m)) = refl

  -- the tunnel that is told is the one that is handed on
  pub tunnel_is : (result : Result GtpuReturnDatagramOutcome Refusal) → AsRead result (message_returned t payload)
      → tunnel_told result ≡ tunnel_handed_on (message_means result) payload
  unfolding message_returned
  tunnel_is (Err r) e = refl
  tunnel_is (Ok outcome) e = go (message_kind t) e
    where
      Told : Outcome Returned → Type 0
      Told x = and_then x (λ y. gives (answer_to y)) ≡ gives outcome

      read : (y : Returned) → tunnel_in (answer_to y) ≡ tunnel_of_kind (kind_of (answer_to y)) payload → Told (gives y) → tunnel_in outcome ≡ tunnel_of_kind (kind_of outcome) payload
      read y h e = let same : answer_to y ≡ outcome = cc in rw (← same) h

      sequence : (x : Outcome ℕ) → Told (tpdu_returned x) → tunnel_in outcome ≡ tunnel_of_kind (kind_of outcome) payload
      sequence (refused n) e = cc
      sequence (gives q) e = read (returned.Sequence q) refl e

      elements : (x : Outcome RefusedTunnel) → indication_of payload ≡ x → Told (elements_returned x) → tunnel_in outcome ≡ tunnel_of_kind (kind_of outcome) payload
      elements (refused n) f e = cc
      elements (gives tunnel) f e = read (returned.ErrorIndication tunnel) (ap tunnel_named (sym f)) e

      go : (x : Outcome Kind) → Told (and_then x (kind_returned payload)) → tunnel_in outcome ≡ tunnel_of_kind (kind_of outcome) payload
      go (refused n) e = cc
      go (gives MeasurementTpdu) e = sequence (sequence_read payload) e
      go (gives ErrorIndication) e = elements (indication_of payload) refl e
      go (gives EchoResponse) e = read returned.EchoResponse refl e
      go (gives (Ignored m)) e = read (returned.Ignored m) refl e

pub ruleset reading_by_type = (read_255, read_26_refused, read_26_given, read_2, read_ignored, read_other, err_from_is_err_and)

-- a message by its type
module _ (t : ℕ) (o : Observer) (time : ℕ) (payload : List ℕ) where
  pub message_255 : t ≡ 255 → as_message MeasurementTpdu (record_received_tpdu o time payload) ≡ record_return_message o time t payload
  message_255 h = sym (message_as t payload o time ∙ ap (record_as t payload o time) (sym (kind_255 t h)))

  pub message_26 : t ≡ 26 → as_message ErrorIndication (record_elements o payload) ≡ record_return_message o time t payload
  message_26 h = sym (message_as t payload o time ∙ ap (record_as t payload o time) (sym (kind_26 t h)))

  pub message_other : (t ≡ 255 → ⊥) → (t ≡ 26 → ⊥) → unchanged o (message_kind t) ≡ record_return_message o time t payload
  message_other h k = go (message_kind t) refl ∙ sym (message_as t payload o time)
    where
      go : (x : Outcome Kind) → message_kind t ≡ x → unchanged o x ≡ record_as t payload o time x
      go (refused n) e = refl
      go (gives MeasurementTpdu) e = absurd (h (sym (kind_is t MeasurementTpdu e).0))
      go (gives ErrorIndication) e = absurd (k (sym (kind_is t ErrorIndication e).0))
      go (gives EchoResponse) e = refl
      go (gives (Ignored m)) e = refl
