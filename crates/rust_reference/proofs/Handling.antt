-- A message: each arm of the Rust's match has document 01's answer, counts and error sequence.
use Rattle.std.proofs.Common.{◌≡◌, ℕ, ◌+◌, ◌<◌, ◌≤◌, Bool, true, false, not, eqb, ltb, List, [], ◌∷◌, length, sym, refl, ap, ◌∙◌, subst, ap₂, inl, inr, arith, ltb-false, ltb-true, le-ltb, eqb-true}
use Rattle.std.specs.Prelude.{Option, Some, None, is_none}
use borrow.Author.Tests.{eqb-false}
use Rattle.counter.specs.Counter.{one_more}
use Rattle.error.specs.Outcome.{Outcome, refused, gives, ◌⇒◌, first_cause}
use Rattle.measurement.specs.Flow.{address, address_length}
use Rattle.measurement.specs.declared.IpVersion.{IpVersion}
use Rattle.measurement.specs.declared.IpVersion.TheVariants.{V4, V6}
use Rattle.measurement_damage.specs.Echo.{echo_of}
use Rattle.reflector.specs.Handle.{handle_datagram}
use Rattle.reflector_answer.specs.Answer.{written, handed_on, Action, noop, send, Answer, gpdu, reflected, gpdu_outcome, gpdu_counted, gpdu_known, error_indication_to, gpdu_unknown, echo_request_outcome, echo_request_counted, echo_request, other_message, gpdu_answer, answer}
use Rattle.reflector_answer.specs.Handle.{placed}
use Rattle.reflector_answer.specs.State.{counted, state_counted, next_error_sequence, error_indication_sent}
use Rattle.gtpu.specs.declared.GtpuMessage.{GtpuMessage}
use Rattle.reflector_answer.specs.State.{ReflectorCounter}
use Rattle.reflector_answer.specs.State as counter
use Rattle.reflector_answer.specs.declared.ReflectorNoopReason.TheVariants as reason
use Rattle.reflector_answer.specs.declared.ReflectorPolicy.{ReflectorPolicy}
use Rattle.reflector_answer.specs.declared.ReflectorPolicy.TheVariants.{Echo, SinkAndCount, Route}
use Rattle.reflector_answer.specs.declared.ReflectorSendReason.TheVariants.{ReflectedGpdu, RoutedGpdu, EchoResponse}
use Rattle.reflector_answer.specs.declared.ReflectorState.{ReflectorState}
use Rattle.reflector_answer.specs.declared.ReflectorStats.{ReflectorStats}
use Rattle.reflector_answer.proofs.Answers.{handling_refused, handling_short, handling_passed}
use Rattle.reflector_sessions.specs.Judge.{table_outcome}
use Rattle.reflector_sessions.specs.Table.{find, used_rows}
use Rattle.reflector_sessions.specs.declared.ReflectorSession.{ReflectorSession}
use Rattle.reflector_sessions.specs.declared.SocketAddr.{SocketAddr}
use Rattle.reflector_sessions.proofs.Judging.{table_sound}
use Rattle.rust_reference.specs.Claims.{NoneAdded, HandleDatagram}
use Rattle.rust_reference.specs.Compared.{ComparedGpdu, ComparedMessage, told}
use Rattle.rust_reference.specs.Error as error
use Rattle.rust_reference.specs.Error.{Result, Ok, Err, InvalidPacket}
use Rattle.rust_reference.specs.Gtpu as gtpu
use Rattle.rust_reference.specs.Map as map
use Rattle.rust_reference.specs.Measurement.{echo_tpdu}
use Rattle.rust_reference.specs.Number.{outcome_of}
use Rattle.rust_reference.specs.Reflector as rust
use Rattle.rust_reference.specs.Sessions.{Reflector, table_in, with_state, handling, rust_ip, rust_address, rust_session, rust_policy, rust_reflector, rust_sequence, rust_message, rust_removed, rust_action, outcome_to, in_output, SequenceFits}
use Rattle.rust_reference.specs.Values.{saturating_add}
use Rattle.rust_reference.proofs.Told.{Alike, both_give, both_refuse, alike}
use Rattle.rust_reference.proofs.Capacity.{Fits, made_fits, sound_table}
use Rattle.rust_reference.proofs.Echoing.{echo_outcome, echo_short}
use Rattle.rust_reference.proofs.Registering.{SoundIn, find_same}

-- ---- counts, the error sequence and the payload of an Error Indication

raised_is : (c : ReflectorCounter) (s : ReflectorStats) → rust.raised c s ≡ counted c s
unfolding saturating_add one_more
raised_is counter.GpduReceived s = refl
raised_is counter.GpduForwarded s = refl
raised_is counter.GpduSunk s = refl
raised_is counter.EchoRequestsAnswered s = refl
raised_is counter.ErrorIndicationsSent s = refl
raised_is counter.MalformedRejected s = refl

abbrev counting : ReflectorCounter → Reflector → Reflector
counting c r = with_state (state_counted c r.state) r

count_is : (c : ReflectorCounter) (r : Reflector) → rust.count c (rust_reflector r) ≡ rust_reflector (counting c r)
count_is c r =
    ap (λ (s : ReflectorStats). rust_reflector (with_state (record { stats = s; next_error_sequence = r.state.next_error_sequence }) r)) (raised_is c r.state.stats)

count_twice : (c d : ReflectorCounter) (r : Reflector) → rust.count d (rust.count c (rust_reflector r)) ≡ rust_reflector (counting d (counting c r))
count_twice c d r = ap (rust.count d) (count_is c r) ∙ count_is d (counting c r)

next_is : (g : rust.GtpuReflector) → g.next_error_sequence < 65536
    → (rust.take_error_sequence g).reflector.next_error_sequence ≡ next_error_sequence g.next_error_sequence
unfolding rust.take_error_sequence next_error_sequence
next_is g h = by (eqb g.next_error_sequence 65535) refl
  where
    by : (t : Bool) → eqb g.next_error_sequence 65535 ≡ t
        → (rust.take_error_sequence g).reflector.next_error_sequence ≡ elim t [ true ↦ 1 | false ↦ g.next_error_sequence + 1 ]
    by true e = omega (arith, eqb-true g.next_error_sequence 65535 e)
    by false e = omega (arith, eqb-false g.next_error_sequence 65535 e)

taken_is : (r : Reflector) → SequenceFits r
    → (rust.take_error_sequence (rust.count counter.ErrorIndicationsSent (rust_reflector r))).reflector ≡ rust_reflector (with_state (error_indication_sent r.state) r)
unfolding rust.take_error_sequence
taken_is r fits =
    ap₂ (λ (stats : ReflectorStats) (next : ℕ). rust_reflector (with_state (record { stats = stats; next_error_sequence = next }) r))
    (raised_is counter.ErrorIndicationsSent r.state.stats) (next_is (rust_reflector r) fits)

payload_is : (teid : ℕ) (source : SocketAddr) → rust.error_indication_payload teid (rust_address source).ip ≡ error_indication_to teid source
unfolding rust.error_indication_payload address address_length
payload_is teid source = by source.version
  where
    by : (v : IpVersion) → rust.error_indication_payload teid (rust_ip v source.address)
        ≡ error_indication_to teid (record { version = v; address = source.address; port = source.port })
    by V4 = refl
    by V6 = refl

indication_short : (teid : ℕ) (source : SocketAddr) → length (error_indication_to teid source) ≤ 65535
unfolding address address_length
indication_short teid source = by source.version
  where
    by : (v : IpVersion) → length (error_indication_to teid (record { version = v; address = source.address; port = source.port })) ≤ 65535
    by V4 = omega arith
    by V6 = omega arith

-- ---- a message

module _ (r : Reflector) (source : SocketAddr) (payload buffer : List ℕ) where
  -- the action, the output and the reflector
  abbrev pub Comes : rust.Called (Result rust.ReflectorAction) → Answer → Type 0
  Comes after a =
      (outcome_of after.result ≡ outcome_to (rust_action payload) (told a.outcome))
      × (in_output after.result buffer ≡ placed a.outcome buffer)
      × (after.reflector ≡ rust_reflector (with_state a.state r))

  abbrev received : rust.GtpuReflector
  received = rust.count counter.GpduReceived (rust_reflector r)

  -- a G-PDU of a known session, by policy
  module _ (session : ReflectorSession) (b : ComparedGpdu r.config.policy payload) where
    abbrev forwarding : rust.ReflectorPolicy → rust.Called (Result rust.ReflectorAction)
    forwarding policy = elim policy [
      | rust.Echo ↦
          rust.attempted (echo_tpdu payload) received λ echoed.
          rust.attempted (gtpu.encode_gpdu session.peer_teid echoed) received λ packet.
          record { result = Ok (rust.Send (rust_session session).peer_addr packet ReflectedGpdu); reflector = rust.count counter.GpduForwarded received }
      | rust.SinkAndCount ↦ record { result = Ok (rust.Noop rust.G_PDU_sunk); reflector = rust.count counter.GpduSunk received }
      | rust.Route target ↦
          rust.attempted (gtpu.encode_gpdu target.teid payload) received λ packet.
          record { result = Ok (rust.Send target.destination packet RoutedGpdu); reflector = rust.count counter.GpduForwarded received }
    ]

    abbrev policy_outcome : ReflectorPolicy → Outcome Action
    policy_outcome policy = elim policy [
      | Echo ↦ reflected session (echo_of payload)
      | SinkAndCount ↦ gives (noop reason.GpduSunk)
      | Route target ↦ gives (gpdu RoutedGpdu target.destination target.teid handed_on)
    ]

    abbrev after : Outcome Action → Answer
    after o = record { outcome = o; state = gpdu_counted o (state_counted counter.GpduReceived r.state) }

    echoing : (x : Result (List ℕ)) (o : Outcome (List ℕ)) → Alike (λ y. y) x o → ((bytes : List ℕ) → o ≡ gives bytes → length bytes ≤ 65535)
        → Comes (rust.attempted x received λ echoed.
        rust.attempted (gtpu.encode_gpdu session.peer_teid echoed) received λ packet.
        record { result = Ok (rust.Send (rust_session session).peer_addr packet ReflectedGpdu); reflector = rust.count counter.GpduForwarded received })
        (after (reflected session o))
    echoing (Ok bytes) o both_give short = rw (le-ltb 65535 (length bytes) (short bytes refl)) (refl, refl, count_twice counter.GpduReceived counter.GpduForwarded r)
    echoing (Err x) o (both_refuse e) short = (ap refused e, refl, count_is counter.GpduReceived r)

    by_policy_lem : (policy : ReflectorPolicy) → r.config.policy ≡ policy → Comes (forwarding (rust_policy policy)) (after (policy_outcome policy))
    by_policy_lem Echo e = echoing (echo_tpdu payload) (echo_of payload) (alike (λ y. y) (echo_tpdu payload) (echo_of payload) (echo_outcome payload (b.0 e))) (echo_short payload)
    by_policy_lem SinkAndCount e = (refl, refl, count_twice counter.GpduReceived counter.GpduSunk r)
    by_policy_lem (Route target) e = rw (le-ltb 65535 (length payload) (b.1 target e)) (refl, refl, count_twice counter.GpduReceived counter.GpduForwarded r)

    known : Comes (rust.handle_gpdu received (rust_session session) payload) (gpdu_known r.config r.state session payload)
    unfolding rust.handle_gpdu gpdu_known gpdu_outcome
    known = by_policy_lem r.config.policy refl

  -- a G-PDU of an unknown TEID
  unknown : (message : GtpuMessage) → SequenceFits r → Comes (rust.unknown_teid (rust_reflector r) (rust_address source) (rust_message message payload)) (gpdu_unknown r.state source message.teid)
  unfolding rust.unknown_teid rust.take_error_sequence gpdu_unknown
  unknown message fits =
      rw (payload_is message.teid source) (rw (le-ltb 65535 (length (error_indication_to message.teid source)) (indication_short message.teid source)) (refl, refl, taken_is r fits))

  -- an Echo Request
  request : (message : GtpuMessage) → Comes (rust.echo_request (rust_reflector r) (rust_address source) (rust_message message payload)) (echo_request r.config r.state source message)
  unfolding rust.echo_request echo_request echo_request_outcome first_cause
  request message = by (not (eqb message.teid 0)) message.sequence_number
    where
      asked : Bool → Option ℕ → rust.Called (Result rust.ReflectorAction)
      asked t sequence = elim t [
        | true ↦ record { result = Err (InvalidPacket error.Echo_Request_TEID_must_be_zero); reflector = rust.count counter.MalformedRejected (rust_reflector r) }
        | false ↦
            elim (rust_sequence sequence) [
              | map.None ↦ record { result = Err (InvalidPacket error.Echo_Request_missing_sequence_number); reflector = rust.count counter.MalformedRejected (rust_reflector r) }
              | map.Some n ↦
                  rust.attempted (gtpu.encode_echo_response n r.config.recovery_counter) (rust.count counter.EchoRequestsAnswered (rust_reflector r)) λ packet.
                  record { result = Ok (rust.Send (rust_address source) packet EchoResponse); reflector = rust.count counter.EchoRequestsAnswered (rust_reflector r) }
            ]
      ]

      outcome : Bool → Option ℕ → Outcome Action
      outcome t sequence =
          first_cause ((t ⇒ 35) ∷ (is_none sequence ⇒ 36) ∷ [])
          (gives (send (record {
            reason = EchoResponse;
            destination = source;
            teid = 0;
            message_type = 2;
            sequence = sequence;
            payload = written (14 ∷ r.config.recovery_counter ∷ []);
          })))

      by : (t : Bool) (sequence : Option ℕ) → Comes (asked t sequence) (record { outcome = outcome t sequence; state = echo_request_counted (outcome t sequence) r.state })
      by true sequence = (refl, refl, count_is counter.MalformedRejected r)
      by false None = (refl, refl, count_is counter.MalformedRejected r)
      by false (Some n) = (refl, refl, count_is counter.EchoRequestsAnswered r)

  -- a message of another type
  either_known : (t : Bool) (x y : rust.Called (Result rust.ReflectorAction)) (a b : Answer) → (t ≡ true → Comes x a) → Comes y b
      → Comes (elim t [ true ↦ x | false ↦ y ]) (elim t [ true ↦ a | false ↦ b ])
  either_known true x y a b f g = f refl
  either_known false x y a b f g = g

  either : (t : Bool) (x y : rust.Called (Result rust.ReflectorAction)) (a b : Answer) → Comes x a → Comes y b → Comes (elim t [ true ↦ x | false ↦ y ]) (elim t [ true ↦ a | false ↦ b ])
  either t x y a b f g = either_known t x y a b (λ is. f) g

  other : (message_type : ℕ) → Comes (rust.other_message (rust_reflector r) message_type) (other_message r.state message_type)
  unfolding rust.other_message other_message
  other message_type =
      either (eqb message_type 2) _ _ _ _ (refl, refl, refl)
      (either (eqb message_type 26) _ _ _ _ (refl, refl, refl)
      (either (eqb message_type 254) _ _ _ _ (refl, refl, refl)
      (either (eqb message_type 31) _ _ _ _ (refl, refl, refl) (refl, refl, count_is counter.MalformedRejected r))))

  -- a message, by its type
  module _ (message : GtpuMessage) (fits : SequenceFits r) (b : ComparedMessage r.config.policy message payload) where
    abbrev pub called : rust.Called (Result rust.ReflectorAction)
    called = rust.handle_datagram (rust_reflector r) (rust_address source) (rust_message message payload)

    gpdu_comes : message.message_type ≡ 255 → (existing : Option ReflectorSession) (found : map.Option rust.ReflectorSession) → found ≡ rust_removed existing
        → Comes (elim found [
          | map.None ↦ rust.unknown_teid (rust_reflector r) (rust_address source) (rust_message message payload)
          | map.Some session ↦ rust.handle_gpdu received session payload
        ]) (gpdu_answer r.config r.state existing source message.teid payload)
    gpdu_comes is (Some session) found e = rw e (known session (b is))
    gpdu_comes is None found e = rw e (unknown message fits)

    answered : (existing : Option ReflectorSession) → rust.find message.teid (rust_reflector r).sessions ≡ rust_removed existing
        → Comes called (answer r.config r.state existing source message payload)
    unfolding rust.handle_datagram answer
    answered existing e =
        either_known (eqb message.message_type 255) _ _ _ _ (λ is. gpdu_comes (eqb-true message.message_type 255 is) existing _ e)
        (either (eqb message.message_type 1) _ _ _ _ (request message) (other message.message_type))

-- 30, 31 and 15, before the type
module _ (r : Reflector) (source : SocketAddr) (message : GtpuMessage) (payload buffer : List ℕ) where
  abbrev rows : ℕ
  rows = length r.sessions

  abbrev session : Option ReflectorSession
  session = find message.teid (used_rows (table_in r))

  by_type : SoundIn r → 72 ≤ length buffer → answer r.config r.state session source message payload ≡ handling r source message payload buffer
  unfolding handle_datagram
  by_type s long = handling_passed rows r.used r.config r.state session source message payload buffer (table_sound rows r.used r.config.max_sessions s) long

  -- where 31 and 15 are not due
  pub handle_ready : Fits r.config.max_sessions → NoneAdded (handling r source message payload buffer).outcome → SoundIn r × (72 ≤ length buffer)
  unfolding handle_datagram table_outcome
  handle_ready fits added = (sound, long (ltb (length buffer) 72) refl)
    where
      sound : SoundIn r
      sound =
          sound_table rows r.used r.config.max_sessions (gives r.used) fits.0 fits.1
          (λ e. added 31 (inr (inr (inr (inr refl)))) (ap (λ (a : Answer). a.outcome) (sym (handling_refused rows r.used r.config r.state session source message payload buffer (sym e)))))

      long : (t : Bool) → ltb (length buffer) 72 ≡ t → 72 ≤ length buffer
      long true e =
          absurd (added 15 (inl refl) (ap (λ (a : Answer). a.outcome) (sym (handling_short rows r.used r.config r.state session source message payload buffer (table_sound rows r.used r.config.max_sessions sound) (ltb-true (length buffer) 72 e)))))
      long false e = ltb-false (length buffer) 72 e

  pub handled_in : SoundIn r → 72 ≤ length buffer → (fits : SequenceFits r) (b : ComparedMessage r.config.policy message payload)
      → Comes r source payload buffer (called r source payload buffer message fits b) (handling r source message payload buffer)
  handled_in s long fits b =
      subst (Comes r source payload buffer (called r source payload buffer message fits b)) (by_type s long)
      (answered r source payload buffer message fits b session (find_same message.teid (used_rows (table_in r))))

pub handled : HandleDatagram
handled r made sequence source message payload b buffer added =
    let ready = handle_ready r source message payload buffer (made_fits r made) added in
    handled_in r source message payload buffer ready.0 ready.1 sequence b

-- ---- the error sequence stays a u16

next_fits : (n : ℕ) → n < 65536 → next_error_sequence n < 65536
unfolding next_error_sequence
next_fits n h = by (eqb n 65535) refl
  where
    by : (t : Bool) → eqb n 65535 ≡ t → elim t [ true ↦ 1 | false ↦ n + 1 ] < 65536
    by true e = omega arith
    by false e = omega (arith, eqb-false n 65535 e)

abbrev StateFits : ReflectorState → Type 0
StateFits state = state.next_error_sequence < 65536

either_fits : (t : Bool) (a b : Answer) → StateFits a.state → StateFits b.state → StateFits (elim t as (λ u. Answer) [ true ↦ a | false ↦ b ]).state
either_fits true a b f g = f
either_fits false a b f g = g

answer_fits : (r : Reflector) → SequenceFits r → (session : Option ReflectorSession) (source : SocketAddr) (message : GtpuMessage) (payload : List ℕ)
    → StateFits (answer r.config r.state session source message payload).state
unfolding answer gpdu_known gpdu_unknown echo_request other_message
answer_fits r fits session source message payload =
    either_fits (eqb message.message_type 255) _ _ (gpdu_fits session)
    (either_fits (eqb message.message_type 1) _ _ (request_fits (echo_request_outcome r.config source message))
    (either_fits (eqb message.message_type 2) _ _ fits
    (either_fits (eqb message.message_type 26) _ _ fits
    (either_fits (eqb message.message_type 254) _ _ fits
    (either_fits (eqb message.message_type 31) _ _ fits fits)))))
  where
    known_fits : (o : Outcome Action) → StateFits (gpdu_counted o (state_counted counter.GpduReceived r.state))
    known_fits (refused n) = fits
    known_fits (gives (noop reason)) = fits
    known_fits (gives (send message)) = fits

    gpdu_fits : (session : Option ReflectorSession) → StateFits (gpdu_answer r.config r.state session source message.teid payload).state
    gpdu_fits (Some session) = known_fits (gpdu_outcome r.config session payload)
    gpdu_fits None = next_fits r.state.next_error_sequence fits

    request_fits : (o : Outcome Action) → StateFits (echo_request_counted o r.state)
    request_fits (refused n) = fits
    request_fits (gives action) = fits

pub handled_fits : (r : Reflector) (source : SocketAddr) (message : GtpuMessage) (payload buffer : List ℕ) → SoundIn r → 72 ≤ length buffer → SequenceFits r
    → SequenceFits (with_state (handling r source message payload buffer).state r)
handled_fits r source message payload buffer s long fits =
    subst (λ (a : Answer). StateFits a.state) (by_type r source message payload buffer s long)
    (answer_fits r fits (find message.teid (used_rows (table_in r))) source message payload)
