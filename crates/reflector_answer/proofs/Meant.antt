-- What holds of every outcome of a message, from what holds of refusals, of messages that nothing is done with, of G-PDUs of a known session, and of messages that are none. So the case
-- of every answer means its outcome.
use Rattle.std.proofs.Common.{◌≡◌, ℕ, Bool, true, false, eqb, ltb, List, [], ◌∷◌, ◌++◌, length, drop, refl, ap, ◌∙◌}
use Rattle.std.specs.Prelude.{Option, Some, None, Result}
use Rattle.error.specs.declared.Refusal.{Refusal}
use Rattle.reflector_answer.specs.declared.ReflectorAction.{ReflectorAction}
use lib.Seq.{take-append_seam}
use Rattle.error.specs.Number.{output_too_short}
use Rattle.error.specs.Outcome.{Outcome, refused, gives, Cause, ◌⇒◌, first_cause}
use Rattle.measurement_damage.specs.Echo.{echo_of}
use Rattle.gtpu.specs.declared.GtpuMessage.{GtpuMessage}
use Rattle.reflector_sessions.specs.Judge.{table_causes}
use Rattle.reflector_sessions.specs.Session.{value_of}
use Rattle.reflector_sessions.specs.declared.ReflectorSession.{ReflectorSession}
use Rattle.reflector_sessions.specs.declared.SocketAddr.{SocketAddr}
use Rattle.reflector_answer.specs.Answer.{Payload, written, Outbound, Action, noop, send, Answer, gpdu, reflected, gpdu_outcome, gpdu_known, gpdu_unknown, gpdu_answer, echo_request_outcome, echo_request, other_message, answer}
use Rattle.reflector_answer.specs.Handle.{action_means, action_of, placed, Answers, HandledAs, reflector_bytes, handle_found}
use Rattle.reflector_answer.specs.declared.MultiSessionReflectorConfig.{MultiSessionReflectorConfig}
use Rattle.reflector_answer.specs.declared.ReflectorNoopReason.{ReflectorNoopReason}
use Rattle.reflector_answer.specs.declared.ReflectorPolicy.{ReflectorPolicy}
use Rattle.reflector_answer.specs.declared.ReflectorPolicy.TheVariants.{Echo, SinkAndCount, Route}
use Rattle.reflector_answer.specs.declared.ReflectorSendReason.TheVariants.{ReflectedGpdu, EchoResponse, ErrorIndication}
use Rattle.reflector_answer.specs.declared.ReflectorState.{ReflectorState}

-- a message that is no G-PDU: its payload is written
pub data Other (m : Outbound) : Type 0 where
  response : (b : List ℕ) → m.reason ≡ EchoResponse → m.message_type ≡ 2 → m.payload ≡ written b → Other m
  indication : (b : List ℕ) → m.reason ≡ ErrorIndication → m.message_type ≡ 26 → m.payload ≡ written b → Other m

behind_causes : (P : Outcome Action → Type 0) → ((n : ℕ) → P (refused n)) → (rows : List Cause) (o : Outcome Action) → P o → P (first_cause rows o)
unfolding first_cause
behind_causes P refusals [] o h = h
behind_causes P refusals ((true ⇒ n) ∷ rows) o h = refusals n
behind_causes P refusals ((false ⇒ n) ∷ rows) o h = behind_causes P refusals rows o h

module _ (rows used : ℕ) (config : MultiSessionReflectorConfig) (state : ReflectorState) (session : Option ReflectorSession) (source : SocketAddr) (message : GtpuMessage) (payload out : List ℕ) where
  module _ (P : Outcome Action → Type 0) (refusals : (n : ℕ) → P (refused n)) (idle : (reason : ReflectorNoopReason) → P (gives (noop reason))) (gpdus : (known : ReflectorSession) → P (gpdu_outcome config known payload)) (others : (m : Outbound) → Other m → P (gives (send m))) where
    abbrev Of : Answer → Type 0
    Of a = P a.outcome

    either : (t : Bool) (a b : Answer) → Of a → Of b → Of (elim t [ true ↦ a | false ↦ b ])
    either true a b g h = g
    either false a b g h = h

    of_other : Of (other_message state message.message_type)
    unfolding other_message
    of_other =
        let t = message.message_type in
        either (eqb t 2) _ _ (idle _) (either (eqb t 26) _ _ (idle _) (either (eqb t 254) _ _ (idle _) (either (eqb t 31) _ _ (idle _) (refusals _))))

    of_request : P (echo_request_outcome config source message)
    unfolding echo_request_outcome
    of_request = behind_causes P refusals _ _ (others _ (response _ refl refl refl))

    of_gpdu : (known : Option ReflectorSession) → Of (gpdu_answer config state known source message.teid payload)
    unfolding gpdu_known gpdu_unknown
    of_gpdu (Some known) = gpdus known
    of_gpdu None = others _ (indication _ refl refl refl)

    of_answer : Of (answer config state session source message payload)
    unfolding answer echo_request
    of_answer =
        let t = message.message_type in
        either (eqb t 255) _ _ (of_gpdu session) (either (eqb t 1) _ _ of_request of_other)

    pub every : Of (handle_found rows used config state session source message payload out)
    unfolding handle_found
    every = go (first_cause (table_causes rows used config.max_sessions ++ (ltb (length out) reflector_bytes ⇒ output_too_short) ∷ []) (gives (tt {0})))
      where
        go : (x : Outcome (Unit {0})) → Of (elim x [
          | refused number ↦ record { outcome = refused number; state = state }
          | gives u ↦ answer config state session source message payload
        ])
        go (refused n) = refusals n
        go (gives u) = of_answer

  abbrev Meant : Outcome Action → Type 0
  Meant o = action_means (action_of o) (placed o out) ≡ o

  meant_echo : (known : ReflectorSession) (o : Outcome (List ℕ)) → Meant (reflected known o)
  meant_echo known (refused n) = refl
  meant_echo known (gives b) = ap (λ (x : List ℕ). gives (gpdu ReflectedGpdu (value_of known.peer_addr) known.peer_teid (written x))) (take-append_seam b (drop (length b) out))

  meant_gpdu : (known : ReflectorSession) → Meant (gpdu_outcome config known payload)
  unfolding gpdu_outcome
  meant_gpdu known = go config.policy refl
    where
      go : (p : ReflectorPolicy) → config.policy ≡ p → Meant (gpdu_outcome config known payload)
      go Echo e = rw (e, gpdu_outcome) (meant_echo known (echo_of payload))
      go SinkAndCount e = rw (e, gpdu_outcome)
      go (Route target) e = rw (e, gpdu_outcome)

  abbrev sends : Outbound → Payload → Outcome Action
  sends m p = gives (send (record { reason = m.reason; destination = m.destination; teid = m.teid; message_type = m.message_type; sequence = m.sequence; payload = p }))

  meant_other : (m : Outbound) → Other m → Meant (gives (send m))
  meant_other m (response b e f p) = ap (sends m) (rw (e, p) (ap written (take-append_seam b (drop (length b) out))))
  meant_other m (indication b e f p) = ap (sends m) (rw (e, p) (ap written (take-append_seam b (drop (length b) out))))

  abbrev to : Answer
  to = handle_found rows used config state session source message payload out

  meant : Meant to.outcome
  meant = every Meant (λ n. refl) (λ reason. refl) meant_gpdu meant_other

  pub handled_as : (r : Result ReflectorAction Refusal) {after_state : ReflectorState} {after : List ℕ} → Answers r after_state after to out → HandledAs r after_state after to out
  handled_as r (e, s, l) = ((λ i. action_means (e i) (l i)) ∙ meant, (e, s, l))
