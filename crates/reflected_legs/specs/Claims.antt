-- Demand 3's "routes included": a way through any reflectors is a way of demand 3 (`Travelled`), with an echo for each
-- reflector that echoes and none for one that routes. proofs/Claims.antt proves it.
use Rattle.std.specs.Prelude.{ℕ, ◌≤◌, ◌≡◌, List, length, Some}
use Rattle.error.specs.Outcome.{gives}
use Rattle.checksum.specs.Damage.{Turned}
use Rattle.measurement_damage.specs.Echo.{echo_of}
use Rattle.measurement_damage.specs.Claims.{Travelled}
use Rattle.gtpu.specs.Message.{gtpu_msg_gpdu}
use Rattle.reflector_sessions.specs.Judge.{table_outcome}
use Rattle.reflector_sessions.specs.Table.{table_of, used_rows, find}
use Rattle.reflector_sessions.specs.declared.ReflectorSession.{ReflectorSession}
use Rattle.reflector_answer.specs.Answer.{payload_bytes, Outbound, send}
use Rattle.reflector_answer.specs.Handle.{reflector_bytes, gpdu_sent}
use Rattle.reflector_answer.specs.declared.ReflectorPolicy.{ReflectorPolicy}
use Rattle.reflector_answer.specs.declared.ReflectorPolicy.TheVariants.{Echo, SinkAndCount, Route}
use Rattle.reflector_answer.specs.declared.ReflectorSendReason.TheVariants.{RoutedGpdu}
use Rattle.reflector_answer.specs.declared.RouteTarget.{RouteTarget}
use Rattle.reflected_legs.specs.Hop.{Reflector, answer_to, handled, output_after, sent_on}
use Rattle.reflected_legs.specs.Way.{Leg, Way}

-- What the answer tells its caller to send is the payload that is defined for it, for every G-PDU that goes out: the
-- bytes that were written, or the payload that came.
abbrev pub PayloadTold : Type 0
PayloadTold = (r : Reflector) (payload : List ℕ) (message : Outbound)
    → (answer_to r payload).outcome ≡ gives (send message) → message.message_type ≡ gtpu_msg_gpdu
    → sent_on r payload ≡ Some (payload_bytes payload message.payload)

-- A G-PDU of a known session, not refused by 30, 31 or 15.
pub record Known (r : Reflector) (session : ReflectorSession) : Type 0 where
  pub sound : table_outcome (length r.sessions) r.used r.config.max_sessions ≡ gives r.used
  pub room : reflector_bytes ≤ length r.output
  pub is_gpdu : r.message.message_type ≡ gtpu_msg_gpdu
  pub found : find r.message.teid (used_rows (table_of r.sessions r.used r.config.max_sessions))
      ≡ Some session

-- Under the policy route the answer to it says "routed", to the target, and nothing is written to the output.
pub record Uncopied (r : Reflector) (target : RouteTarget) (payload : List ℕ) : Type 0 where
  pub action : handled r payload ≡ gives (gpdu_sent RoutedGpdu target.destination target.teid 0)
  pub output : output_after r payload ≡ r.output

abbrev pub RouteCopiesNothing : Type 0
RouteCopiesNothing =
    (r : Reflector) (session : ReflectorSession) → Known r session
    → (target : RouteTarget) → r.config.policy ≡ Route target
    → (payload : List ℕ) → Uncopied r target payload

-- What goes on, by the policy: the echo, as `Travelled` has it; nothing; the payload that came.
abbrev pub OnwardUnder : ReflectorPolicy → List ℕ → List ℕ → Type 0
OnwardUnder Echo payload onward = echo_of payload ≡ gives onward
OnwardUnder SinkAndCount payload onward = ⊥
OnwardUnder (Route target) payload onward = onward ≡ payload

-- For a known session what `OnwardUnder` says does go on; and whatever the message and the reflector, nothing else
-- does.
pub record SentByPolicy : Type 0 where
  pub known : (r : Reflector) (session : ReflectorSession) → Known r session
      → (payload onward : List ℕ) → OnwardUnder r.config.policy payload onward
      → sent_on r payload ≡ Some onward
  pub only : (r : Reflector) (payload onward : List ℕ) → sent_on r payload ≡ Some onward
      → OnwardUnder r.config.policy payload onward

-- Routes keep the leg: with any number of them on it, its damage is that of a leg without one.
pub record LegsAreOne : Type 0 where
  pub turned : (routes : ℕ) (sent arrived : List ℕ) → Leg routes sent arrived → Turned sent arrived
  pub leg : (routes : ℕ) (sent arrived : List ℕ) → Turned sent arrived → Leg routes sent arrived

-- So the ways through reflectors are the ways of demand 3, with as many echoes as reflectors that echo.
pub record WaysAreTravelled : Type 0 where
  pub travelled : (sent : List ℕ) (n : ℕ) (arrived : List ℕ) → Way sent n arrived → Travelled sent n arrived
  pub way : (sent : List ℕ) (n : ℕ) (arrived : List ℕ) → Travelled sent n arrived → Way sent n arrived

pub record RoutesIncluded : Type 0 where
  pub payload_told : PayloadTold
  pub route_copies_nothing : RouteCopiesNothing
  pub sent_by_policy : SentByPolicy
  pub legs_are_one : LegsAreOne
  pub ways_are_travelled : WaysAreTravelled
