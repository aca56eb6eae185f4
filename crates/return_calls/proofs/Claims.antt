-- The claims of specs/Claims.antt.
use Prim.Native.Nat.{ℕ}
use native.Mathlib.Omega.{arith}
use mathlib.Core.Path.{◌≡◌, refl, sym, ap, ◌∙◌}
use mathlib.Core.Bool.{Bool, true, false}
use mathlib.Core.List.{List}
use Rattle.error.specs.Outcome.{Outcome, refused, gives}
use Rattle.gtpu.specs.Answer.{no_tunnel, tunnel_named}
use Rattle.gtpu.specs.Element.{elements_of}
use Rattle.gtpu.specs.Indication.{indication_of}
use Rattle.gtpu.specs.Tunnels.{yes_or_no, SameAnswer}
use Rattle.gtpu.proofs.Tunnels.{same_answer}
use Rattle.observer.specs.Observer.{Observer}
use Rattle.observer.specs.Judge.{well_formed, judged, Step, step, after_reading}
use Rattle.observer.specs.Returning.{record_return, record_error_indication}
use Rattle.observer.proofs.Calls.{judged_malformed, judged_well, return_malformed, indication_malformed, refusing_malformed, refusing_well}
use Rattle.return_calls.specs.Kinds.{Kind, MeasurementTpdu, ErrorIndication, EchoResponse, Ignored, message_type_of, message_kind}
use Rattle.return_calls.specs.Returns.{sequence_read, record_received_tpdu, record_elements, MessageStep, as_message, record_return_message}
use Rattle.return_calls.specs.Claims.{KindIsOfType, RefusedAsRead, TunnelOfIndication, NoOtherTunnel}
use Rattle.return_calls.specs.Tunnel.{tunnel_handed_on}
use Rattle.return_calls.proofs.Laws.{kind_is, record_as, message_as, message_26}

-- what is given after 21 was given before it
judged_gives : {A : Type 0} (o : Observer) (x : Outcome A) (y : A) → judged o x ≡ gives y → x ≡ gives y
judged_gives o x y e = go (well_formed o) refl
  where
    go : (b : Bool) → well_formed o ≡ b → x ≡ gives y
    go true w = judged_well o x w ∙ e
    go false w = let f = judged_malformed o x w in absurd (let z : ◌≡◌ {A = ℕ} 0 1 = cc in omega arith)

given_kind : (kind found : Kind) (s : Step) → (as_message kind s).outcome ≡ gives found → kind ≡ found
given_kind kind found s e = go s.outcome e
  where
    go : (x : Outcome (Unit {0})) → ◌≡◌ {A = Outcome Kind} (elim x [ refused n ↦ refused n | gives u ↦ gives kind ]) (gives found) → kind ≡ found
    go (refused n) e = absurd (let z : ◌≡◌ {A = ℕ} 0 1 = cc in omega arith)
    go (gives u) e = cc

same_kind : (kind found : Kind) → ◌≡◌ {A = Outcome Kind} (gives kind) (gives found) → kind ≡ found
same_kind kind found e = cc

module _ (o : Observer) (time t : ℕ) (payload : List ℕ) (found : Kind) where
  found_kind : (x : Outcome Kind) → (record_as t payload o time x).outcome ≡ gives found → x ≡ gives found
  found_kind (refused n) e = judged_gives o (refused n) found e
  found_kind (gives MeasurementTpdu) e = ap gives (given_kind MeasurementTpdu found (record_received_tpdu o time payload) e)
  found_kind (gives ErrorIndication) e = ap gives (given_kind ErrorIndication found (record_elements o payload) e)
  found_kind (gives EchoResponse) e = judged_gives o (gives EchoResponse) found e
  found_kind (gives (Ignored m)) e = judged_gives o (gives (Ignored m)) found e

pub kind_is_of_type : KindIsOfType
kind_is_of_type o time t payload kind e =
    let is : message_kind t ≡ gives kind =
    found_kind o time t payload kind (message_kind t) (ap (λ (s : MessageStep). s.outcome) (sym (message_as t payload o time)) ∙ e) in
    record {
      type = (kind_is t kind is).0;
      ignored = λ m f. (kind_is t (Ignored m) (is ∙ ap gives f)).1;
    }

pub refused_as_read : RefusedAsRead
unfolding record_received_tpdu sequence_read record_return_message message_kind
refused_as_read o time n tpdu w e =
    let read : sequence_read tpdu ≡ refused n = rw (e, sequence_read) in
    let is : record_received_tpdu o time tpdu ≡ record { outcome = refused n; observer = o } =
    ap (λ (x : Outcome ℕ). after_reading o x (record_return o time)) read ∙ sym (refusing_well o n w) in
    (is, ap (as_message MeasurementTpdu) is)

-- ---- the tunnel

pub tunnel_of_indication : TunnelOfIndication
unfolding SameAnswer record_error_indication
tunnel_of_indication o time payload tunnel w e =
    let accepted : elements_of payload ≡ gives tt = sym (same_answer payload) ∙ ap yes_or_no e in
    let counted = record_error_indication o in
    let is : record_return_message o time 26 payload ≡ as_message ErrorIndication counted =
    sym (message_26 26 o time payload refl) ∙ ap (λ (x : Outcome (Unit {0})). as_message ErrorIndication (after_reading o x (λ u. counted))) accepted in
    let given : (as_message ErrorIndication counted).outcome ≡ gives ErrorIndication =
    ap (λ (x : Outcome Observer). (as_message ErrorIndication (step o x)).outcome) (sym (judged_well o _ w)) in
    let outcome = ap (λ (s : MessageStep). s.outcome) is ∙ given in (
      outcome,
      ap (λ (x : Outcome Kind). tunnel_handed_on x payload) outcome ∙ ap tunnel_named e,
      ap (λ (s : MessageStep). s.observer) is,
    )

-- on a malformed sheet every message is refused
after_malformed : {A : Type 0} (o : Observer) (x : Outcome A) (call : A → Step) → ((y : A) → step o (refused 21) ≡ call y) → well_formed o ≡ false
    → step o (refused 21) ≡ after_reading o x call
after_malformed o (refused n) call h w = refusing_malformed o n w
after_malformed o (gives y) call h w = h y

message_malformed : (o : Observer) (time t : ℕ) (payload : List ℕ) → well_formed o ≡ false → refused 21 ≡ (record_return_message o time t payload).outcome
unfolding record_received_tpdu
message_malformed o time t payload w = go (message_kind t) ∙ ap (λ (s : MessageStep). s.outcome) (sym (message_as t payload o time))
  where
    go : (x : Outcome Kind) → refused 21 ≡ (record_as t payload o time x).outcome
    go (refused n) = judged_malformed o (refused n) w
    go (gives MeasurementTpdu) =
        ap (λ (s : Step). (as_message MeasurementTpdu s).outcome) (after_malformed o (sequence_read payload) (record_return o time) (λ q. return_malformed o time q w) w)
    go (gives ErrorIndication) =
        ap (λ (s : Step). (as_message ErrorIndication s).outcome) (after_malformed o (elements_of payload) (λ u. record_error_indication o) (λ u. indication_malformed o w) w)
    go (gives EchoResponse) = judged_malformed o (gives EchoResponse) w
    go (gives (Ignored m)) = judged_malformed o (gives (Ignored m)) w

pub no_other_tunnel : NoOtherTunnel
no_other_tunnel o time t payload = (
  (λ other. by other (record_return_message o time t payload).outcome (λ kind e. (kind_is_of_type o time t payload kind e).type)),
  (λ n e. refused_elements n e (record_return_message o time t payload).outcome),
  (λ w. ap (λ (x : Outcome Kind). tunnel_handed_on x payload) (sym (message_malformed o time t payload w))),
)
  where
    refused_elements : (n : ℕ) → indication_of payload ≡ refused n → (x : Outcome Kind) → tunnel_handed_on x payload ≡ no_tunnel
    refused_elements n e (refused m) = refl
    refused_elements n e (gives MeasurementTpdu) = refl
    refused_elements n e (gives ErrorIndication) = ap tunnel_named e
    refused_elements n e (gives EchoResponse) = refl
    refused_elements n e (gives (Ignored m)) = refl

    by : (t ≡ 26 → ⊥) → (x : Outcome Kind) → ((kind : Kind) → x ≡ gives kind → message_type_of kind ≡ t) → tunnel_handed_on x payload ≡ no_tunnel
    by other (refused n) of = refl
    by other (gives MeasurementTpdu) of = refl
    by other (gives ErrorIndication) of = absurd (other (sym (of ErrorIndication refl)))
    by other (gives EchoResponse) of = refl
    by other (gives (Ignored m)) of = refl
