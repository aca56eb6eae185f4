-- The pieces of a leg are one piece: what turns on each lies in the leg's span, and so does what turns on all of them.
use Prim.Native.Nat.{ℕ, zero, suc, ◌+◌}
use mathlib.Core.Path.{◌≡◌, refl, ap, ◌∙◌}
use mathlib.Core.List.{List}
use lib.ListN.{length, take, drop}
use Rattle.field.specs.Field.{Bytes}
use Rattle.checksum.specs.Damage.{bits, Turned, TurnedWithin}
use Rattle.checksum.proofs.Spans.{every_span, only_spans}
use Rattle.reflector_answer.specs.declared.ReflectorPolicy.TheVariants.{Route}
use Rattle.reflected_legs.specs.Way.{Pieces, last, routed, Leg}
use Rattle.reflected_legs.specs.Claims.{LegsAreOne}
use Rattle.reflector_sessions.specs.Session.{no_session, value_of}
use Rattle.reflector_answer.specs.declared.RouteTarget.{RouteTarget}
use Rattle.reflected_legs.proofs.Hops.{forwards_is, forwards}

-- some target
abbrev no_target : RouteTarget
no_target = record { destination = value_of no_session.peer_addr; teid = 0 }

module _ (from width : ℕ) where
  -- the pieces as one
  one_piece : {routes : ℕ} {sent arrived : List ℕ} → Pieces from width routes sent arrived → TurnedWithin from width sent arrived
  one_piece (last t) = t
  one_piece (routed {at_route = x} {onward = y} t f p) =
      let rest = one_piece p in
      let same : y ≡ x = forwards_is f in
      record {
        same_length = rest.same_length ∙ ap length same ∙ t.same_length;
        bytes = rest.bytes;
        kept_before = rest.kept_before ∙ ap (λ (l : List ℕ). take from (bits l)) same ∙ t.kept_before;
        kept_behind = rest.kept_behind ∙ ap (λ (l : List ℕ). drop (from + width) (bits l)) same ∙ t.kept_behind;
      }

  -- no bit turns on any piece
  still : (routes : ℕ) (l : List ℕ) → Bytes l → Pieces from width routes l l
  still zero l b = last (record { same_length = refl; bytes = b; kept_before = refl; kept_behind = refl })
  still (suc routes) l b =
      routed (record { same_length = refl; bytes = b; kept_before = refl; kept_behind = refl }) (forwards (Route no_target) l l refl) (still routes l b)

  -- all bits turn on the first piece
  first_piece : (routes : ℕ) {sent arrived : List ℕ} → TurnedWithin from width sent arrived → Pieces from width routes sent arrived
  first_piece zero t = last t
  first_piece (suc routes) {sent} {arrived} t = routed t (forwards (Route no_target) arrived arrived refl) (still routes arrived t.bytes)

leg_turned : {routes : ℕ} {sent arrived : List ℕ} → Leg routes sent arrived → Turned sent arrived
leg_turned g =
    every_span (record { from = g.from; width = g.width; within = one_piece g.from g.width g.pieces; short = g.short; not_all = g.not_all })

turned_leg : (routes : ℕ) {sent arrived : List ℕ} → Turned sent arrived → Leg routes sent arrived
turned_leg routes t =
    let g = only_spans t in
    record { from = g.from; width = g.width; pieces = first_piece g.from g.width routes g.within; short = g.short; not_all = g.not_all }

pub legs_are_one : LegsAreOne
legs_are_one = record { turned = λ routes sent arrived g. leg_turned g; leg = λ routes sent arrived t. turned_leg routes t }
