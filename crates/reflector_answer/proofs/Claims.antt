-- The claims of specs/Claims.antt: the laws of elements and of echoes, at the reflector's answers.
use Rattle.std.proofs.Common.{◌≡◌, ℕ, Bool, true, false, eqb, List, [], sym, refl, ap, ◌∙◌, append-nil, arith, eq-eqb}
use Rattle.std.specs.Prelude.{Option, Some, None}
use Rattle.error.specs.Number.{output_too_short, unsupported_message_type}
use Rattle.error.specs.Outcome.{Outcome, refused, gives}
use Rattle.error.proofs.Causes.{refused_gives, not_by}
use Rattle.error.proofs.Tests.{true_not_false}
use Rattle.field.specs.Field.{big_endian}
use Rattle.field.proofs.Fields.{length_big_endian}
use Rattle.measurement.specs.Flow.{address_length, address, padded, reversed_of}
use Rattle.measurement.specs.declared.IpVersion.{IpVersion}
use Rattle.measurement.specs.declared.IpVersion.TheVariants.{V4, V6}
use Rattle.measurement_packet.specs.Packet.{build_of}
use Rattle.measurement_reading.specs.Read.{read_of}
use Rattle.measurement_reading.proofs.Numbers.{read_by}
use Rattle.measurement.specs.declared.DecodedTpdu.{DecodedTpdu}
use Rattle.measurement_damage.specs.Echo.{echo_of_tpdu, echo_of}
use Rattle.measurement_damage.proofs.Claims.{reads_back, echo_is_reversed, echo_refused, reversed_in_range}
use Rattle.gtpu.specs.Tunnels.{tunnel_to, ErrorIndicationNames}
use Rattle.gtpu.proofs.Claims.{error_indication_accepted}
use Rattle.gtpu.proofs.Tunnels.{error_indication_names}
use Rattle.reflector_sessions.specs.Session.{value_of}
use Rattle.reflector_answer.specs.Answer.{written, Answer, Action, reflected, answer, gpdu_unknown, gpdu_known, gpdu_outcome, gpdu_answer, echo_request, echo_request_outcome, other_message, error_indication_to}
use Rattle.reflector_sessions.specs.declared.ReflectorSession.{ReflectorSession}
use Rattle.reflector_sessions.specs.declared.SocketAddr.{SocketAddr}
use Rattle.gtpu.specs.declared.GtpuMessage.{GtpuMessage}
use Rattle.reflector_answer.specs.declared.MultiSessionReflectorConfig.{MultiSessionReflectorConfig}
use Rattle.reflector_answer.specs.declared.ReflectorPolicy.{ReflectorPolicy}
use Rattle.reflector_answer.specs.declared.ReflectorPolicy.TheVariants.{Echo, SinkAndCount, Route}
use Rattle.reflector_answer.specs.declared.ReflectorState.{ReflectorState}
use Rattle.reflector_answer.specs.Handle.{placed}
use Rattle.reflector_answer.proofs.Answers.{octets_are, handling_short, handling_passed}
use Rattle.reflector_answer.specs.declared.ReflectorSendReason.TheVariants.{ReflectedGpdu, ErrorIndication}
use Rattle.reflector_answer.specs.Claims.{Sends, one_more_received, ReceivedHasRisen, IndicationAccepted, IndicationNamesTheTunnel, EchoReadsBack, LeastOutput}

-- what is sent to a G-PDU of an unknown TEID
module _ (config : MultiSessionReflectorConfig) (state : ReflectorState) (source : SocketAddr) (message : GtpuMessage) (payload : List ℕ) where
  indicates : message.message_type ≡ 255 → Sends (answer config state None source message payload) ErrorIndication source (error_indication_to message.teid source)
  unfolding answer gpdu_unknown
  indicates e = record {
    message = record { reason = ErrorIndication; destination = source; teid = 0; message_type = 26; sequence = Some state.next_error_sequence; payload = written (error_indication_to message.teid source) };
    sent = rw (eq-eqb message.message_type 255 e, answer);
    why = refl;
    to = refl;
    payload = refl;
  }

pub indication_accepted : IndicationAccepted
indication_accepted config state source message payload e = (
  error_indication_to message.teid source,
  indicates config state source message payload e,
  error_indication_accepted (big_endian 4 message.teid) (address source.version source.address) (length_big_endian 4 message.teid) (octets_are source.version source.address),
)

tunnel_to_lem : (teid : ℕ) (v : IpVersion) (bytes : List ℕ) → tunnel_to teid (address v bytes) ≡ record { teid = teid; version = v; peer_address = padded (address v bytes) }
unfolding address address_length padded
tunnel_to_lem teid V4 bytes = refl
tunnel_to_lem teid V6 bytes = refl

pub indication_names_the_tunnel : IndicationNamesTheTunnel
unfolding ErrorIndicationNames
indication_names_the_tunnel config state source message payload e h = (
  error_indication_to message.teid source,
  indicates config state source message payload e,
  error_indication_names message.teid (address source.version source.address) h (octets_are source.version source.address)
      ∙ ap gives (tunnel_to_lem message.teid source.version source.address),
)

pub received_has_risen : ReceivedHasRisen
unfolding answer gpdu_known gpdu_outcome
received_has_risen rows used k config e p state session source message payload output n l g r =
    let is : answer config state (Some session) source message payload ≡ record { outcome = refused n; state = one_more_received state } =
    rw (eq-eqb message.message_type 255 g, p, echo_refused payload n r, answer) in
    let whole = sym (handling_passed rows used config state (Some session) source message payload output (sym e) l) ∙ is in
    (whole, ap (λ (a : Answer). placed a.outcome output) whole)

pub echo_reads_back : EchoReadsBack
unfolding answer gpdu_known gpdu_outcome
echo_reads_back config state session source message e p flow sequence time g behind = (
  build_of (reversed_of flow) sequence time,
  record {
    message = record { reason = ReflectedGpdu; destination = value_of session.peer_addr; teid = session.peer_teid; message_type = 255; sequence = None; payload = written (build_of (reversed_of flow) sequence time) };
    sent = rw (eq-eqb message.message_type 255 e, p, echo_is_reversed flow sequence time g behind, answer);
    why = refl;
    to = refl;
    payload = refl;
  },
  ap read_of (sym (append-nil (build_of (reversed_of flow) sequence time))) ∙ reads_back (reversed_of flow) sequence time (reversed_in_range g) [],
)

-- ---- 15: no cause but the output's length has this number

abbrev NotShort : {A : Type 0} → Outcome A → Type 0
NotShort o = o ≡ refused output_too_short → ⊥

given : {A : Type 0} {x : A} → NotShort (gives x)
given e = refused_gives (sym e)

read_tpdu : (tpdu : List ℕ) → NotShort (read_of tpdu)
read_tpdu tpdu e = true_not_false (sym (read_by tpdu output_too_short e))

echo : (session : ReflectorSession) (tpdu : List ℕ) → NotShort (reflected session (echo_of tpdu))
unfolding echo_of
echo session tpdu = by (read_of tpdu) (read_tpdu tpdu)
  where
    by : (o : Outcome DecodedTpdu) → NotShort o → NotShort {A = Action} (reflected session (elim o [ refused n ↦ refused n | gives t ↦ gives (echo_of_tpdu t) ]))
    by (refused n) h e = h (let same : n ≡ output_too_short = cc in ap refused same)
    by (gives t) h e = given e

module _ (config : MultiSessionReflectorConfig) (state : ReflectorState) (source : SocketAddr) (message : GtpuMessage) (payload : List ℕ) where
  abbrev Of : Answer → Type 0
  Of a = NotShort a.outcome

  either : (t : Bool) (a b : Answer) → Of a → Of b → Of (elim t [ true ↦ a | false ↦ b ])
  either true a b g h = g
  either false a b g h = h

  other : (t : ℕ) → Of (other_message state t)
  unfolding other_message
  other t =
      either (eqb t 2) _ _ given (either (eqb t 26) _ _ given (either (eqb t 254) _ _ given (either (eqb t 31) _ _ given (λ e. let z : ◌≡◌ {A = ℕ} unsupported_message_type output_too_short = cc in omega arith))))

  request : Of (echo_request config state source message)
  unfolding echo_request echo_request_outcome
  request = not_by output_too_short _ _ refl given

  known : (session : ReflectorSession) → NotShort (gpdu_outcome config session payload)
  unfolding gpdu_outcome
  known session = by config.policy refl
    where
      by : (p : ReflectorPolicy) → config.policy ≡ p → NotShort (gpdu_outcome config session payload)
      by Echo e = rw (e, gpdu_outcome) (echo session payload)
      by SinkAndCount e = rw (e, gpdu_outcome) given
      by (Route target) e = rw (e, gpdu_outcome) given

  of_gpdu : (session : Option ReflectorSession) → Of (gpdu_answer config state session source message.teid payload)
  unfolding gpdu_known gpdu_unknown
  of_gpdu (Some session) = known session
  of_gpdu None = given

  answered : (session : Option ReflectorSession) → Of (answer config state session source message payload)
  unfolding answer
  answered session = either (eqb message.message_type 255) _ _ (of_gpdu session) (either (eqb message.message_type 1) _ _ request (other message.message_type))

pub least_output : LeastOutput
least_output rows used n config e state session source message payload output = (
  (λ l. sym (handling_short rows used config state session source message payload output (sym e) l)),
  (λ l short. answered config state source message payload session (ap (λ (a : Answer). a.outcome) (handling_passed rows used config state session source message payload output (sym e) l) ∙ short)),
)
