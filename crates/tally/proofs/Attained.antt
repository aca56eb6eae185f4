-- The hypotheses of demand 3 are met.
use Prim.Native.Nat.{ℕ, zero, suc, ◌+◌, ◌*◌}
use native.Mathlib.Omega.{arith}
use mathlib.Core.Path.{◌≡◌, refl, ap, ◌∙◌}
use mathlib.Core.Bool.{Bool, true, false, not, ◌||◌}
use mathlib.Core.List.{List, [], ◌∷◌}
use lib.ListN.{replicate, length-replicate}
use Rattle.error.specs.Outcome.{Outcome, gives}
use Rattle.field.specs.Field.{same_bytes}
use Rattle.field.proofs.Fields.{same_as_itself}
use Rattle.checksum.proofs.Claims.{damage_is}
use Rattle.measurement.specs.Flow.{reversed_of, InRange}
use Rattle.measurement.specs.declared.InnerIpFlow.{InnerIpFlow}
use Rattle.measurement_packet.specs.Packet.{ip_header_length, build_of}
use Rattle.measurement_damage.specs.Claims.{Travelled, arrives, echoes, echoes_of}
use Rattle.measurement_damage.proofs.Claims.{echo_alone, reversed_in_range}
use Rattle.plan.specs.Plan.{time_at}
use Rattle.plan.proofs.Claims.{accepted_if_acceptable}
use Rattle.traffic.proofs.Claims.{room_decides}
use Rattle.tally.specs.Tally.{Tally}
use Rattle.tally.specs.Demand.{tpdu_call, message_call, some_leg_turned, bytes_given}
use Rattle.tally.specs.Attained.{PlansAccepted, RoomTakes, UndamagedComes, Attained}
use Rattle.tally.proofs.Entry.{entered, takes_all, needs_room}
use Rattle.tally.proofs.Examples.{build_bytes, hop_limit_comes, time_comes, checksum_comes, fragment_comes}
use Rattle.tally.proofs.Generated.{packets_generated}
use Rattle.tally.proofs.Returns.{echo_step, packet_in_range}

plans_accepted : PlansAccepted
plans_accepted flow plan next g h =
    let bytes : ℕ = plan.packet_count * (ip_header_length flow.version + 32) in
    record {
      in_range = g;
      buffer = replicate bytes 0;
      bytes = bytes;
      generated = (room_decides flow plan next (replicate bytes 0) (accepted_if_acceptable plan next h)).1 (omega (arith, length-replicate bytes zero));
    }

room_takes : RoomTakes
room_takes plan next o e = record {
  takes = λ h. takes_all plan next o e h;
  needs = λ t. needs_room plan next o t;
  plan_order = λ t. ap (λ (a : Tally). a.rows) (entered plan next o t).is;
}

-- ---- undamaged returns

record Coming (sent : List ℕ) (n : ℕ) : Type 0 where
  arrived : List ℕ
  echoed : echoes_of n sent ≡ gives arrived
  travelled : Travelled sent n arrived
  no_leg : some_leg_turned travelled ≡ false

coming : (n : ℕ) (f : InnerIpFlow) (s t : ℕ) → InRange f s t → Coming (build_of f s t) n
unfolding echoes_of
coming zero f s t g = record {
  arrived = build_of f s t;
  echoed = refl;
  travelled = arrives (damage_is.none (build_of f s t) (build_bytes f s t g));
  no_leg = ap not (same_as_itself (build_of f s t));
}
coming (suc n) f s t g =
    let onward = coming n (reversed_of f) s t (reversed_in_range g) in
    record {
      arrived = onward.arrived;
      echoed = echo_step n (build_of f s t) (build_of (reversed_of f) s t) (echo_alone f s t g) ∙ onward.echoed;
      travelled = echoes (damage_is.none (build_of f s t) (build_bytes f s t g)) (echo_alone f s t g) onward.travelled;
      no_leg = ap (λ (b : Bool). not b || some_leg_turned onward.travelled) (same_as_itself (build_of f s t)) ∙ onward.no_leg;
    }

undamaged_comes : UndamagedComes
undamaged_comes flow plan next a k n time h call =
    let c = coming n flow (next + k) (time_at plan k) (packet_in_range a k h) in
    record {
      return = record { packet_index = k; planned = h; echo_count = n; arrived = c.arrived; travelled = c.travelled; time = time; call = call };
      packet_is = refl;
      echoes_are = refl;
      time_is = refl;
      call_is = refl;
      echoed = c.echoed;
      not_on_a_leg = c.no_leg;
      not_at_the_end = ap (λ (x : Outcome (List ℕ)). not (same_bytes c.arrived (bytes_given x))) c.echoed ∙ ap not (same_as_itself c.arrived);
    }

pub attained : Attained
attained = record {
  plans_accepted = plans_accepted;
  packets_generated = packets_generated;
  room_takes = room_takes;
  undamaged_comes = undamaged_comes;
  damage_refused = time_comes plans_accepted;
  damage_accepted = hop_limit_comes plans_accepted tpdu_call [] true;
  damage_mended = hop_limit_comes plans_accepted tpdu_call (true ∷ []) false;
  checksum_lost = checksum_comes plans_accepted;
  fragment_refused = fragment_comes plans_accepted;
  message_returns = hop_limit_comes plans_accepted message_call (true ∷ []) true;
  two_echoes = hop_limit_comes plans_accepted tpdu_call (false ∷ true ∷ []) false;
}
