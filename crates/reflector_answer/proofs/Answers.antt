-- What the code answers at each way out is what specs/Answer.antt and specs/Handle.antt say.
use Rattle.std.proofs.Common.{◌≡◌, ℕ, ◌<◌, ◌≤◌, List, ◌∷◌, [], ◌++◌, length, drop, Result, Ok, Err, Option, sym, refl, ap, subst, ◌∙◌, arith, le-ltb, lt-ltb, ltb, eqb, ne_eqb, Bool, true, false, ◌⊎◌, inl, inr, append_assoc, length-append}
use lib.Seq.{drop-drop}
use Rattle.error.specs.Answer.{number_of}
use Rattle.error.specs.Number.{output_too_short}
use Rattle.error.specs.Outcome.{Outcome, refused, gives, Cause, ◌⇒◌}
use Rattle.error.specs.declared.Refusal.{Refusal}
use Rattle.error.specs.declared.Refusal.TheVariants.{OutputTooShort}
use Rattle.error.proofs.Causes.{Refuses, here, none as no_row, past, refuses, passes, refused_gives, refuses_front, refuses_behind, passes_both}
use Rattle.measurement.specs.Answer.{Writing, writing_of}
use Rattle.field.proofs.Fields.{length_bytes_at}
use Rattle.measurement.specs.Flow.{address_length, address, reversed_of}
use Rattle.measurement.specs.declared.IpVersion.{IpVersion}
use Rattle.measurement.specs.declared.IpVersion.TheVariants.{V4, V6}
use Rattle.measurement.specs.declared.DecodedTpdu.{DecodedTpdu}
use Rattle.measurement_reading.specs.Read.{read_of}
use Rattle.measurement_damage.specs.Echo.{echo_of_tpdu, echo_of}
use Rattle.measurement_build.proofs.Whole.{writing_fits}
use Rattle.measurement_echo.proofs.Block.{built_fits}
use Rattle.gtpu.specs.declared.GtpuMessage.{GtpuMessage}
use Rattle.reflector_sessions.specs.Session.{value_of}
use Rattle.reflector_sessions.specs.Judge.{table_causes, table_outcome}
use Rattle.reflector_sessions.proofs.Judging.{judged_refused, judged_sound, is_sound}
use Rattle.reflector_sessions.specs.declared.ReflectorSession.{ReflectorSession}
use Rattle.reflector_sessions.specs.declared.SocketAddr.{SocketAddr}
use Rattle.reflector_answer.specs.State.{GpduReceived, GpduForwarded, state_counted}
use Rattle.reflector_answer.specs.State as counter
use Rattle.reflector_answer.specs.Answer.{Answer, gpdu_outcome, gpdu_counted, gpdu_known, reflected, other_message, answer}
use Rattle.reflector_answer.specs.Handle.{gpdu_sent, placed, Answered, Answers, HandledAs, EchoFits, reflector_bytes, handle_found}
use Rattle.reflector_answer.specs.declared.MultiSessionReflectorConfig.{MultiSessionReflectorConfig}
use Rattle.reflector_answer.specs.declared.ReflectorAction.{ReflectorAction}
use Rattle.reflector_answer.specs.declared.ReflectorAction.TheVariants.{Noop}
use Rattle.reflector_answer.specs.declared.ReflectorNoopReason.TheVariants.{GpduSunk}
use Rattle.reflector_answer.specs.declared.ReflectorPolicy.TheVariants.{Echo, SinkAndCount, Route}
use Rattle.reflector_answer.specs.declared.ReflectorSendReason.TheVariants.{ReflectedGpdu, RoutedGpdu}
use Rattle.reflector_answer.specs.declared.ReflectorState.{ReflectorState}
use Rattle.reflector_answer.specs.declared.RouteTarget.{RouteTarget}
use Rattle.reflector_answer.proofs.Meant.{handled_as}

abbrev refusal : ℕ → ReflectorState → Answer
refusal n state = record { outcome = refused n; state = state }

-- ---- what the echo of a payload leaves in the output; the least output is long enough for every echo

module _ (payload out : List ℕ) where
  echo_refusal : {n : ℕ} → echo_of payload ≡ refused n → writing_of (echo_of payload) out ≡ record { outcome = refused n; buffer = out }
  unfolding writing_of
  echo_refusal x = ap (λ (o : Outcome (List ℕ)). writing_of o out) x

  echo_given : {b : List ℕ} → echo_of payload ≡ gives b → length b ≤ length out → writing_of (echo_of payload) out ≡ record { outcome = gives (length b); buffer = b ++ drop (length b) out }
  unfolding writing_of
  echo_given {b} x l = ap (λ (o : Outcome (List ℕ)). writing_of o out) x ∙ sym (writing_fits b out l)

  pub echo_fits : reflector_bytes ≤ length out → EchoFits payload out
  unfolding echo_of
  echo_fits fits b x = go (read_of payload) refl
    where
      go : (o : Outcome DecodedTpdu) → read_of payload ≡ o → length b ≤ length out
      go (refused m) y = absurd (refused_gives (let z : echo_of payload ≡ refused m = rw (y, echo_of) in sym z ∙ x))
      go (gives t) y =
          let z : echo_of payload ≡ gives (echo_of_tpdu t) = rw (y, echo_of) in
          let i : gives b ≡ gives (echo_of_tpdu t) = sym x ∙ z in
          let j : b ≡ echo_of_tpdu t = cc in
          omega (arith, ap length j, built_fits (reversed_of t.flow) t.measurement.sequence t.measurement.send_timestamp_ns)

-- ---- a G-PDU of a known session

module _ (config : MultiSessionReflectorConfig) (state : ReflectorState) (session : ReflectorSession) (payload out : List ℕ) where
  abbrev received : ReflectorState
  received = state_counted GpduReceived state

  abbrev known : Answer
  known = gpdu_known config state session payload

  -- an echo, by its outcome
  module _ (p : config.policy ≡ Echo) (fits : EchoFits payload out) (after : List ℕ) where
    known_is : {o : Outcome (List ℕ)} → echo_of payload ≡ o → record { outcome = reflected session o; state = gpdu_counted (reflected session o) received } ≡ known
    unfolding gpdu_known gpdu_outcome
    known_is q = rw (p, q, gpdu_known)

    pub echo_refused : (r : Refusal) → record { outcome = refused (number_of r); buffer = after } ≡ writing_of (echo_of payload) out → Answers (Err r) received after known out
    echo_refused r e = go (echo_of payload) refl
      where
        go : (o : Outcome (List ℕ)) → echo_of payload ≡ o → Answers (Err r) received after known out
        go (refused m) x =
            let u = e ∙ echo_refusal payload out x in
            subst (λ a. Answers (Err r) received after a out) (known_is x) (ap (λ (y : Writing). as_action y.outcome) u, refl, ap (λ (y : Writing). y.buffer) u)
          where
            as_action : {A : Type 0} → Outcome ℕ → Outcome A
            as_action (refused n) = refused n
            as_action (gives n) = refused 0
        go (gives b) x = absurd (refused_gives (ap (λ (y : Writing). y.outcome) (e ∙ echo_given payload out x (fits b x))))

    pub echoed : (n : ℕ) → record { outcome = gives n; buffer = after } ≡ writing_of (echo_of payload) out
        → Answers (Ok (gpdu_sent ReflectedGpdu (value_of session.peer_addr) session.peer_teid n)) (state_counted GpduForwarded received) after known out
    echoed n e = go (echo_of payload) refl
      where
        go : (o : Outcome (List ℕ)) → echo_of payload ≡ o
            → Answers (Ok (gpdu_sent ReflectedGpdu (value_of session.peer_addr) session.peer_teid n)) (state_counted GpduForwarded received) after known out
        go (refused m) x = absurd (refused_gives (ap (λ (y : Writing). y.outcome) (sym (echo_refusal payload out x) ∙ sym e)))
        go (gives b) x =
            let u = e ∙ echo_given payload out x (fits b x) in
            let v : gives n ≡ gives (length b) = ap (λ (y : Writing). y.outcome) u in
            let i : n ≡ length b = cc in
            subst (λ a. Answers (Ok (gpdu_sent ReflectedGpdu (value_of session.peer_addr) session.peer_teid n)) (state_counted GpduForwarded received) after a out) (known_is x)
            (ap (λ k. gives (gpdu_sent ReflectedGpdu (value_of session.peer_addr) session.peer_teid k)) i, refl, ap (λ (y : Writing). y.buffer) u)

  pub sunk : config.policy ≡ SinkAndCount → Answers (Ok (Noop GpduSunk)) (state_counted counter.GpduSunk received) out known out
  unfolding gpdu_known gpdu_outcome
  sunk p = rw (p, gpdu_known) (refl, refl, refl)

  pub routed : (target : RouteTarget) → config.policy ≡ Route target
      → Answers (Ok (gpdu_sent RoutedGpdu target.destination target.teid 0)) (state_counted GpduForwarded received) out known out
  unfolding gpdu_known gpdu_outcome
  routed target p = rw (p, gpdu_known) (refl, refl, refl)

-- ---- a message that is no G-PDU and no Echo Request

-- it leaves the output
abbrev Leaves : List ℕ → Answer → Type 0
Leaves out a = out ≡ placed a.outcome out

either : {out : List ℕ} (t : Bool) (a b : Answer) → Leaves out a → Leaves out b → Leaves out (elim t [ true ↦ a | false ↦ b ])
either true a b l r = l
either false a b l r = r

other_leaves : (state : ReflectorState) (message_type : ℕ) (out : List ℕ) → Leaves out (other_message state message_type)
unfolding other_message
other_leaves state message_type out =
    either (eqb message_type 2) _ _ refl (either (eqb message_type 26) _ _ refl (either (eqb message_type 254) _ _ refl (either (eqb message_type 31) _ _ refl refl)))

module _ (config : MultiSessionReflectorConfig) (state : ReflectorState) (session : Option ReflectorSession) (source : SocketAddr) (message : GtpuMessage) (payload out : List ℕ) where
  pub other_answered : (r : Result ReflectorAction Refusal) (after : ReflectorState) → (message.message_type ≡ 255 → ⊥) → (message.message_type ≡ 1 → ⊥)
      → Answered r after (other_message state message.message_type) → Answers r after out (answer config state session source message payload) out
  unfolding answer
  other_answered r after a b h =
      rw (ne_eqb message.message_type 255 a, ne_eqb message.message_type 1 b, answer) (h.0, h.1, other_leaves state message.message_type out)

-- ---- the payload of an Error Indication

-- how many bytes of an address count
pub octets_are : (v : IpVersion) (bytes : List ℕ) → (length (address v bytes) ≡ 4) ⊎ (length (address v bytes) ≡ 16)
unfolding address address_length
octets_are V4 bytes = inl (length_bytes_at 4 0 bytes)
octets_are V6 bytes = inr (length_bytes_at 16 0 bytes)

pub octets_most : (v : IpVersion) (bytes : List ℕ) → length (address v bytes) ≤ 16
octets_most v bytes = by (octets_are v bytes)
  where
    by : (length (address v bytes) ≡ 4) ⊎ (length (address v bytes) ≡ 16) → length (address v bytes) ≤ 16
    by (inl e) = omega arith
    by (inr e) = omega arith

-- two parts written one behind the other
pub both_written : (h a out : List ℕ) → h ++ (a ++ drop (length a) (drop (length h) out)) ≡ (h ++ a) ++ drop (length (h ++ a)) out
both_written h a out =
    sym (append_assoc h a (drop (length a) (drop (length h) out)))
    ∙ ap (λ x. (h ++ a) ++ x) (drop-drop (length a) (length h) out ∙ ap (λ n. drop n out) (let e = length-append h a in omega (arith, e)))

-- ---- 30, 31, 15

module _ (rows used : ℕ) (config : MultiSessionReflectorConfig) (state : ReflectorState) (session : Option ReflectorSession) (source : SocketAddr) (message : GtpuMessage) (payload out : List ℕ) where
  abbrev handled : Answer
  handled = handle_found rows used config state session source message payload out

  abbrev causes : List Cause
  causes = table_causes rows used config.max_sessions ++ (ltb (length out) reflector_bytes ⇒ output_too_short) ∷ []

  first : {n : ℕ} → Refuses causes n → refusal n state ≡ handled
  unfolding handle_found
  first {n} h = rw (sym (refuses (gives (tt {0})) h), handle_found)

  pub handling_refused : {n : ℕ} → refused n ≡ table_outcome rows used config.max_sessions → refusal n state ≡ handled
  handling_refused e = first (refuses_front ((ltb (length out) reflector_bytes ⇒ output_too_short) ∷ []) (judged_refused rows used config.max_sessions e))

  pub handling_short : {n : ℕ} → gives n ≡ table_outcome rows used config.max_sessions → length out < reflector_bytes → refusal output_too_short state ≡ handled
  handling_short e l = first (refuses_behind (is_sound rows used config.max_sessions (judged_sound rows used config.max_sessions e).0) (here (lt-ltb (length out) reflector_bytes l)))

  pub handling_passed : {n : ℕ} → gives n ≡ table_outcome rows used config.max_sessions → reflector_bytes ≤ length out → answer config state session source message payload ≡ handled
  unfolding handle_found
  handling_passed {n} e l =
      rw (sym (passes {rows = causes} (gives (tt {0})) (passes_both (is_sound rows used config.max_sessions (judged_sound rows used config.max_sessions e).0) (past (le-ltb (length out) reflector_bytes l) no_row))), handle_found)

  pub refused_as : (r : Refusal) → refused (number_of r) ≡ table_outcome rows used config.max_sessions → HandledAs (Err r) state out handled out
  refused_as r e =
      handled_as rows used config state session source message payload out (Err r)
      (subst (λ a. Answers (Err r) state out a out) (handling_refused e) (refl, refl, refl))

  pub short_as : {n : ℕ} → gives n ≡ table_outcome rows used config.max_sessions → length out < reflector_bytes → HandledAs (Err OutputTooShort) state out handled out
  short_as e l =
      handled_as rows used config state session source message payload out (Err OutputTooShort)
      (subst (λ a. Answers (Err OutputTooShort) state out a out) (handling_short e l) (refl, refl, refl))

  pub passed_as : (r : Result ReflectorAction Refusal) (left : ReflectorState) (after : List ℕ) {n : ℕ} → gives n ≡ table_outcome rows used config.max_sessions
      → reflector_bytes ≤ length out → Answers r left after (answer config state session source message payload) out → HandledAs r left after handled out
  passed_as r left after e l h =
      handled_as rows used config state session source message payload out r
      (subst (λ a. Answers r left after a out) (handling_passed e l) h)
