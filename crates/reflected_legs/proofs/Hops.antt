-- What a reflector sends on: by its policy, or nothing.
use Prim.Native.Nat.{ℕ}
use native.Mathlib.Omega.{arith}
use mathlib.Core.Path.{◌≡◌, refl, sym, ap, ◌∙◌}
use mathlib.Core.Logic.{◌⊎◌, inl, inr}
use mathlib.Core.List.{List, [], ◌∷◌}
use Rattle.std.specs.Prelude.{Option, Some, None}
use lib.ListN.{length, drop, replicate}
use lib.Seq.{take-append_seam}
use borrow.Author.Tests.{eq-eqb}
use Rattle.error.specs.Outcome.{Outcome, refused, gives, first_cause}
use Rattle.measurement_damage.specs.Echo.{echo_of}
use Rattle.reflector_sessions.specs.Judge.{table_causes, table_outcome}
use Rattle.reflector_sessions.specs.Session.{no_session, value_of}
use Rattle.reflector_answer.specs.declared.RouteTarget.{RouteTarget}
use Rattle.reflector_sessions.specs.Table.{table_of, used_rows, find}
use Rattle.reflector_sessions.specs.declared.ReflectorSession.{ReflectorSession}
use Rattle.reflector_answer.specs.State.{fresh}
use Rattle.reflector_answer.specs.Answer.{payload_bytes, Outbound, Action, noop, send, Answer, reflected, gpdu_outcome, gpdu_known, answer}
use Rattle.reflector_answer.specs.Handle.{action_of, placed}
use Rattle.reflector_answer.specs.declared.ReflectorPolicy.{ReflectorPolicy}
use Rattle.reflector_answer.specs.declared.ReflectorPolicy.TheVariants.{Echo, SinkAndCount, Route}
use Rattle.reflector_answer.specs.declared.ReflectorNoopReason.{ReflectorNoopReason}
use Rattle.reflector_answer.proofs.Answers.{handling_passed}
use Rattle.reflector_answer.proofs.Meant.{Other, response, indication, every}
use Rattle.reflector.specs.Handle.{handle_datagram}
use Rattle.reflected_legs.specs.Hop.{Reflector, answer_to, gpdu_sent, sent_on, Forwards}
use Rattle.reflected_legs.specs.Claims.{PayloadTold, Known, Uncopied, RouteCopiesNothing, OnwardUnder, SentByPolicy}

no_some : {A : Type 0} {x : A} → None ≡ Some x → ⊥
no_some e = let z : ◌≡◌ {A = ℕ} 0 1 = cc in omega arith

-- the bytes of an echo that is not refused
abbrev given : Outcome (List ℕ) → Option (List ℕ)
given (refused n) = None
given (gives b) = Some b

module _ (r : Reflector) (payload : List ℕ) where
  abbrev session_meant : Option ReflectorSession
  session_meant = find r.message.teid (used_rows (table_of r.sessions r.used r.config.max_sessions))

  -- what holds of every outcome
  of_every : (P : Outcome Action → Type 0) (refusals : (n : ℕ) → P (refused n)) (idle : (reason : ReflectorNoopReason) → P (gives (noop reason))) (gpdus : (session : ReflectorSession) → P (gpdu_outcome r.config session payload)) (others : (m : Outbound) → Other m → P (gives (send m)))
      → P (answer_to r payload).outcome
  unfolding handle_datagram
  of_every P refusals idle gpdus others = every (length r.sessions) r.used r.config r.state session_meant r.source r.message payload r.output P refusals idle gpdus others

  abbrev onward_of : Outcome Action → Option (List ℕ)
  onward_of o = gpdu_sent (action_of o) payload (placed o r.output)

  -- what the answer tells is its payload

  abbrev Told : Outcome Action → Type 0
  Told (refused n) = Unit {0}
  Told (gives (noop reason)) = Unit {0}
  Told (gives (send m)) = m.message_type ≡ 255 → onward_of (gives (send m)) ≡ Some (payload_bytes payload m.payload)

  told_echo : (session : ReflectorSession) (o : Outcome (List ℕ)) → Told (reflected session o)
  told_echo session (refused n) = tt
  told_echo session (gives b) = λ h. ap Some (take-append_seam b (drop (length b) r.output))

  told_gpdu : (session : ReflectorSession) → Told (gpdu_outcome r.config session payload)
  unfolding gpdu_outcome
  told_gpdu session = go r.config.policy refl
    where
      go : (p : ReflectorPolicy) → r.config.policy ≡ p → Told (gpdu_outcome r.config session payload)
      go Echo e = rw (e, gpdu_outcome) (told_echo session (echo_of payload))
      go SinkAndCount e = rw (e, gpdu_outcome) tt
      go (Route target) e = rw (e, gpdu_outcome) (λ h. refl)

  told_other : (m : Outbound) → Other m → Told (gives (send m))
  told_other m (response b e f p) = λ h. absurd (omega arith)
  told_other m (indication b e f p) = λ h. absurd (omega arith)

  told : Told (answer_to r payload).outcome
  told = of_every Told (λ n. tt) (λ reason. tt) told_gpdu told_other

  -- what goes on: by the policy, or nothing

  abbrev by_policy : ReflectorPolicy → Option (List ℕ)
  by_policy Echo = given (echo_of payload)
  by_policy SinkAndCount = None
  by_policy (Route target) = Some payload

  abbrev Ends : Outcome Action → Type 0
  Ends o = (onward_of o ≡ None) ⊎ (onward_of o ≡ by_policy r.config.policy)

  echo_onward : (session : ReflectorSession) (o : Outcome (List ℕ)) → onward_of (reflected session o) ≡ given o
  echo_onward session (refused n) = refl
  echo_onward session (gives b) = ap Some (take-append_seam b (drop (length b) r.output))

  gpdu_onward : (session : ReflectorSession) → onward_of (gpdu_outcome r.config session payload) ≡ by_policy r.config.policy
  unfolding gpdu_outcome
  gpdu_onward session = go r.config.policy refl
    where
      go : (p : ReflectorPolicy) → r.config.policy ≡ p → onward_of (gpdu_outcome r.config session payload) ≡ by_policy p
      go Echo e = rw (e, gpdu_outcome) (echo_onward session (echo_of payload))
      go SinkAndCount e = rw (e, gpdu_outcome)
      go (Route target) e = rw (e, gpdu_outcome)

  other_ends : (m : Outbound) → Other m → Ends (gives (send m))
  other_ends m (response b e f p) = inl (rw e)
  other_ends m (indication b e f p) = inl (rw e)

  ends : Ends (answer_to r payload).outcome
  ends = of_every Ends (λ n. inl refl) (λ reason. inl refl) (λ session. inr (gpdu_onward session)) other_ends

  -- backwards, and forwards

  under : (p : ReflectorPolicy) (onward : List ℕ) → by_policy p ≡ Some onward → OnwardUnder p payload onward
  under Echo onward e = go (echo_of payload) e
    where
      go : (o : Outcome (List ℕ)) → given o ≡ Some onward → o ≡ gives onward
      go (refused n) e = absurd (no_some e)
      go (gives b) e = cc
  under SinkAndCount onward e = no_some e
  under (Route target) onward e = cc

  above : (p : ReflectorPolicy) (onward : List ℕ) → OnwardUnder p payload onward → by_policy p ≡ Some onward
  above Echo onward e = ap given e
  above SinkAndCount onward e = absurd e
  above (Route target) onward e = ap Some (sym e)

  sent_is : (onward : List ℕ) → sent_on r payload ≡ Some onward → OnwardUnder r.config.policy payload onward
  sent_is onward e = go ends
    where
      go : Ends (answer_to r payload).outcome → OnwardUnder r.config.policy payload onward
      go (inl h) = absurd (no_some (sym h ∙ e))
      go (inr h) = under r.config.policy onward (sym h ∙ e)

  module _ (session : ReflectorSession) (k : Known r session) where
    by_type : gpdu_known r.config r.state session payload ≡ answer r.config r.state session_meant r.source r.message payload
    unfolding answer
    by_type = rw (eq-eqb r.message.message_type 255 k.is_gpdu, k.found, answer)

    known_answer : gpdu_known r.config r.state session payload ≡ answer_to r payload
    unfolding handle_datagram
    known_answer =
        by_type ∙ handling_passed (length r.sessions) r.used r.config r.state session_meant r.source r.message payload r.output (sym k.sound) k.room

    goes_on : sent_on r payload ≡ by_policy r.config.policy
    unfolding gpdu_known
    goes_on = ap (λ (a : Answer). onward_of a.outcome) (sym known_answer) ∙ gpdu_onward session

    uncopied : (target : RouteTarget) → r.config.policy ≡ Route target → Uncopied r target payload
    unfolding gpdu_known gpdu_outcome
    uncopied target p = record {
      action = ap (λ (a : Answer). action_of a.outcome) (sym known_answer) ∙ rw (p, gpdu_known);
      output = ap (λ (a : Answer). placed a.outcome r.output) (sym known_answer) ∙ rw (p, gpdu_known);
    }

pub payload_told : PayloadTold
payload_told r payload m e f =
    let h : Told r payload (gives (send m)) = rw e at (told r payload) in
    ap (onward_of r payload) e ∙ h f

pub route_copies_nothing : RouteCopiesNothing
route_copies_nothing r session k target p payload = uncopied r payload session k target p

pub sent_by_policy : SentByPolicy
sent_by_policy = record {
  known = λ r session k payload onward h. goes_on r payload session k ∙ above r payload r.config.policy onward h;
  only = sent_is;
}

-- ---- by some reflector

pub forwards_is : {p : ReflectorPolicy} {payload onward : List ℕ} → Forwards p payload onward → OnwardUnder p payload onward
forwards_is {payload = payload} {onward = onward} f = rw f.under at (sent_is f.reflector payload onward f.sent)

-- one with one session, whose TEID is that of the message
abbrev some_session : ReflectorSession
some_session = no_session

abbrev some_reflector : ReflectorPolicy → Reflector
some_reflector p = record {
  sessions = some_session ∷ [];
  used = 1;
  config = record { max_sessions = 1; recovery_counter = 0; policy = p };
  state = fresh;
  source = value_of no_session.peer_addr;
  message = record { message_type = 255; teid = 0; sequence_number = None };
  output = replicate 72 0;
}

some_known : (p : ReflectorPolicy) → Known (some_reflector p) some_session
unfolding table_outcome table_causes first_cause
some_known p = record { sound = refl; room = omega arith; is_gpdu = refl; found = refl }

pub forwards : (p : ReflectorPolicy) (payload onward : List ℕ) → OnwardUnder p payload onward → Forwards p payload onward
forwards p payload onward h = record {
  reflector = some_reflector p;
  under = refl;
  sent = sent_by_policy.known (some_reflector p) some_session (some_known p) payload onward h;
}
