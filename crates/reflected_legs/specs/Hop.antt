-- A reflector on a T-PDU's way: what it sends on when it is handed a payload, by the contract of `handle_datagram`.
use Rattle.std.specs.Prelude.{ℕ, ◌≡◌, List, take, Option, Some, None}
use Rattle.error.specs.Outcome.{Outcome, refused, gives}
use Rattle.reflector_sessions.specs.declared.ReflectorSession.{ReflectorSession}
use Rattle.reflector_sessions.specs.declared.SocketAddr.{SocketAddr}
use Rattle.reflector_answer.specs.Answer.{Answer}
use Rattle.reflector_answer.specs.Handle.{action_of, placed}
use Rattle.gtpu.specs.declared.GtpuMessage.{GtpuMessage}
use Rattle.reflector_answer.specs.declared.MultiSessionReflectorConfig.{MultiSessionReflectorConfig}
use Rattle.reflector_answer.specs.declared.ReflectorAction.{ReflectorAction}
use Rattle.reflector_answer.specs.declared.ReflectorAction.TheVariants.{Noop, Send}
use Rattle.reflector_answer.specs.declared.ReflectorPolicy.{ReflectorPolicy}
use Rattle.reflector_answer.specs.declared.ReflectorSendReason.{ReflectorSendReason}
use Rattle.reflector_answer.specs.declared.ReflectorSendReason.TheVariants.{ReflectedGpdu, RoutedGpdu, EchoResponse}
use Rattle.reflector_answer.specs.declared.ReflectorSendReason.TheVariants.{ErrorIndication}
use Rattle.reflector_answer.specs.declared.ReflectorState.{ReflectorState}
use Rattle.reflector.specs.Handle.{handle_datagram}

-- A reflector as a message finds it, and the message: all that `handle_datagram` is called with but the payload.
pub record Reflector : Type 0 where
  pub sessions : List ReflectorSession
  pub used : ℕ
  pub config : MultiSessionReflectorConfig
  pub state : ReflectorState
  pub source : SocketAddr
  pub message : GtpuMessage
  pub output : List ℕ

-- What the call answers, and the output as it leaves it: two of the equations of its contract (`Answers`).
abbrev pub answer_to : Reflector → List ℕ → Answer
answer_to r payload =
    handle_datagram r.sessions r.used r.config r.state r.source r.message payload r.output

abbrev pub handled : Reflector → List ℕ → Outcome ReflectorAction
handled r payload = action_of (answer_to r payload).outcome

abbrev pub output_after : Reflector → List ℕ → List ℕ
output_after r payload = placed (answer_to r payload).outcome r.output

-- The payload of the G-PDU that the caller then sends, as the answer tells it: for a routed one the payload that was
-- lent ("Route hands on the payload uncopied"), for a reflected one as many bytes at the front of the output as the
-- answer says. Otherwise no G-PDU goes out.
abbrev pub payload_sent : ReflectorSendReason → ℕ → List ℕ → List ℕ → Option (List ℕ)
payload_sent RoutedGpdu count lent output = Some lent
payload_sent ReflectedGpdu count lent output = Some (take count output)
payload_sent EchoResponse count lent output = None
payload_sent ErrorIndication count lent output = None

abbrev pub gpdu_sent : Outcome ReflectorAction → List ℕ → List ℕ → Option (List ℕ)
gpdu_sent (refused number) lent output = None
gpdu_sent (gives (Noop reason)) lent output = None
gpdu_sent (gives (Send message)) lent output = payload_sent message.reason message.bytes lent output

abbrev pub sent_on : Reflector → List ℕ → Option (List ℕ)
sent_on r payload = gpdu_sent (handled r payload) payload (output_after r payload)

-- Some reflector under this policy is handed the one payload and sends on the other.
pub record Forwards (policy : ReflectorPolicy) (payload onward : List ℕ) : Type 0 where
  pub reflector : Reflector
  pub under : reflector.config.policy ≡ policy
  pub sent : sent_on reflector payload ≡ Some onward
