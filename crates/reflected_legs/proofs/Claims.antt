-- The claims of specs/Claims.antt, proved.
use Prim.Native.Nat.{ℕ}
use mathlib.Core.List.{List}
use Rattle.measurement_damage.specs.Claims as measurement
use Rattle.measurement_damage.specs.Claims.{Travelled}
use Rattle.reflector_answer.specs.declared.ReflectorPolicy.TheVariants.{Echo}
use Rattle.reflected_legs.specs.Way.{Way, arrives, echoes}
use Rattle.reflected_legs.specs.Claims.{WaysAreTravelled, RoutesIncluded}
use Rattle.reflected_legs.proofs.Hops.{payload_told, route_copies_nothing, sent_by_policy, forwards_is, forwards}
use Rattle.reflected_legs.proofs.Legs.{legs_are_one}

way_travelled : {sent arrived : List ℕ} {n : ℕ} → Way sent n arrived → Travelled sent n arrived
way_travelled (arrives {sent = sent} {arrived = arrived} {routes = routes} g) = measurement.arrives (legs_are_one.turned routes sent arrived g)
way_travelled (echoes {sent = sent} {at_echo = at_echo} {echo = echo} {routes = routes} g f onward) =
    measurement.echoes (legs_are_one.turned routes sent at_echo g) (forwards_is f) (way_travelled onward)

travelled_way : {sent arrived : List ℕ} {n : ℕ} → Travelled sent n arrived → Way sent n arrived
travelled_way (measurement.arrives {sent = sent} {arrived = arrived} t) = arrives (legs_are_one.leg 0 sent arrived t)
travelled_way (measurement.echoes {sent = sent} {at_echo = at_echo} {echo = echo} t e onward) =
    echoes (legs_are_one.leg 0 sent at_echo t) (forwards Echo at_echo echo e) (travelled_way onward)

ways_are_travelled : WaysAreTravelled
ways_are_travelled = record { travelled = λ sent n arrived w. way_travelled w; way = λ sent n arrived t. travelled_way t }

pub routes_included : RoutesIncluded
routes_included = record {
  payload_told = payload_told;
  route_copies_nothing = route_copies_nothing;
  sent_by_policy = sent_by_policy;
  legs_are_one = legs_are_one;
  ways_are_travelled = ways_are_travelled;
}
