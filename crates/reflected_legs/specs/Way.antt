-- A T-PDU's way through reflectors that route and echo. Demand 3: bits turn "within one span of at most 16 neighbouring
-- bits on each leg (the whole way from building or echoing to the next echoing or reading, routes included), length
-- kept, and the span not 16 equal bits all turned".
use Rattle.std.specs.Prelude.{ℕ, suc, ◌≤◌, ◌≡◌, List, Bool, not, replicate}
use Rattle.checksum.specs.Damage.{bits_in, TurnedWithin}
use Rattle.reflector_answer.specs.declared.ReflectorPolicy.TheVariants.{Echo, Route}
use Rattle.reflector_answer.specs.declared.RouteTarget.{RouteTarget}
use Rattle.reflected_legs.specs.Hop.{Forwards}

-- The pieces of one leg, by the number of routes on it: from its start to the first route, from route to route, and
-- from the last to its end. Bits of the leg's span may turn on each piece, and turn again on the next.
pub data Pieces (from width : ℕ) : ℕ → List ℕ → List ℕ → Type 0 where
  last : {sent arrived : List ℕ} → TurnedWithin from width sent arrived → Pieces from width 0 sent arrived
  routed : {sent at_route onward arrived : List ℕ} {routes : ℕ} → TurnedWithin from width sent at_route
      → {target : RouteTarget} → Forwards (Route target) at_route onward → Pieces from width routes onward arrived
      → Pieces from width (suc routes) sent arrived

-- A leg: one span for all of its pieces.
pub record Leg (routes : ℕ) (sent arrived : List ℕ) : Type 0 where
  pub from : ℕ
  pub width : ℕ
  pub pieces : Pieces from width routes sent arrived
  pub short : width ≤ 16
  -- over the whole leg
  pub not_all : (b : Bool) → bits_in from width sent ≡ replicate 16 b
      → bits_in from width arrived ≡ replicate 16 (not b) → ⊥

-- A way, by the number of echoing reflectors on it: leg after leg.
pub data Way : List ℕ → ℕ → List ℕ → Type 0 where
  arrives : {sent arrived : List ℕ} {routes : ℕ} → Leg routes sent arrived → Way sent 0 arrived
  echoes : {sent at_echo echo arrived : List ℕ} {routes n : ℕ} → Leg routes sent at_echo → Forwards Echo at_echo echo
      → Way echo n arrived → Way sent (suc n) arrived
