-- What a return of an accepted plan reads as: its own sequence, or a refusal; and made whole, its own sequence.
use Prim.Native.Nat.{ℕ, zero, suc, ◌+◌, ◌<◌}
use native.Mathlib.Omega.{arith}
use mathlib.Core.Path.{◌≡◌, refl, ap, ◌∙◌}
use mathlib.Core.List.{List}
use Rattle.error.specs.Outcome.{Outcome, refused, gives}
use Rattle.measurement.specs.Flow.{reversed_of, InRange}
use Rattle.measurement.specs.declared.DecodedTpdu.{DecodedTpdu}
use Rattle.measurement.specs.declared.InnerIpFlow.{InnerIpFlow}
use Rattle.measurement.specs.declared.MeasurementHeader.{MeasurementHeader}
use Rattle.measurement_packet.specs.Packet.{build_of}
use Rattle.measurement_reading.specs.Read.{read_of}
use Rattle.measurement_damage.specs.Echo.{echo_of}
use Rattle.measurement_damage.specs.Claims.{tpdu_built, built, RefusesOr, echoes_of, reversed_tpdu, reversals}
use Rattle.measurement_damage.proofs.Claims.{reads_back_alone, echo_alone, reversed_in_range, damage_found, legs_chained}
use Rattle.plan.specs.Plan.{time_at, packets_of, Judged}
use Rattle.plan.specs.Claims.{Acceptable}
use Rattle.plan.specs.declared.TrafficPlan.{TrafficPlan}
use Rattle.plan.proofs.Claims.{acceptable_if_accepted}
use Rattle.traffic.proofs.Claims.{success_is_complete}
use Rattle.tally.specs.Demand.{Accepted, packet, Return, bytes_given, whole_bytes}
use Rattle.tally.proofs.Steps.{Reads}

-- an undamaged echo, of any number of echoes, is the build of a flow, with the same sequence and time
pub record Whole (f : InnerIpFlow) (s t n : ℕ) : Type 0 where
  pub flow : InnerIpFlow
  pub in_range : InRange flow s t
  pub echoed : echoes_of n (build_of f s t) ≡ gives (build_of flow s t)

pub echo_step : (n : ℕ) (x y : List ℕ) → echo_of x ≡ gives y → echoes_of (suc n) x ≡ echoes_of n y
unfolding echoes_of
echo_step n x y e = rw (e, echoes_of)

pub whole : (n : ℕ) (f : InnerIpFlow) (s t : ℕ) → InRange f s t → Whole f s t n
unfolding echoes_of
whole zero f s t g = record { flow = f; in_range = g; echoed = refl }
whole (suc n) f s t g =
    let w = whole n (reversed_of f) s t (reversed_in_range g) in
    record { flow = w.flow; in_range = w.in_range; echoed = echo_step n (build_of f s t) (build_of (reversed_of f) s t) (echo_alone f s t g) ∙ w.echoed }

-- what refuses or is the one expected, whose sequence is s
reads_or : (x : Outcome DecodedTpdu) (d : DecodedTpdu) (s : ℕ) → d.measurement.sequence ≡ s → RefusesOr x (gives d) → Reads s x
reads_or (refused m) d s e h = tt
reads_or (gives c) d s e h = let same : c ≡ d = cc in ap (λ (x : DecodedTpdu). x.measurement.sequence) same ∙ e

-- an echo keeps sequence and time
kept : (n : ℕ) (d : DecodedTpdu) → (reversals n d).measurement ≡ d.measurement
kept zero d = refl
kept (suc n) d = kept n (reversed_tpdu d)

module _ {flow : InnerIpFlow} {plan : TrafficPlan} {next : ℕ} (a : Accepted flow plan next) where
  acceptable : Acceptable plan next
  acceptable =
      (acceptable_if_accepted plan next (packets_of plan next)
      (ap (λ (j : Judged). j.outcome) (success_is_complete flow plan next a.buffer a.bytes a.generated).judged)).0

  pub packet_in_range : (k : ℕ) → k < plan.packet_count → InRange flow (next + k) (time_at plan k)
  packet_in_range k h =
      let g = a.in_range in
      record {
        source = g.source;
        destination = g.destination;
        source_length = g.source_length;
        destination_length = g.destination_length;
        source_port = g.source_port;
        destination_port = g.destination_port;
        sequence = omega (arith, acceptable.sequences k h);
        time = omega (arith, acceptable.times k h);
      }

  module _ (r : Return flow plan next) where
    abbrev k : ℕ
    k = r.packet_index

    abbrev s : ℕ
    s = next + k

    abbrev t : ℕ
    t = time_at plan k

    pub undamaged : Whole flow s t r.echo_count
    undamaged = whole r.echo_count flow s t (packet_in_range k r.planned)

    abbrev whole_tpdu : DecodedTpdu
    whole_tpdu = tpdu_built undamaged.flow s t

    whole_bytes_lem : whole_bytes r ≡ build_of undamaged.flow s t
    whole_bytes_lem = ap bytes_given undamaged.echoed

    pub whole_read : read_of (whole_bytes r) ≡ gives whole_tpdu
    whole_read = ap read_of whole_bytes_lem ∙ reads_back_alone undamaged.flow s t undamaged.in_range

    pub whole_reads : Reads s (read_of (whole_bytes r))
    whole_reads = rw whole_read refl

    -- demand 3's first sentence, leg after leg
    pub arrived_reads : Reads s (read_of r.arrived)
    arrived_reads =
        let n = r.echo_count in
        let began : DecodedTpdu = tpdu_built flow s t in
        let c = legs_chained began (packet flow plan next k) r.arrived n (built flow s t (packet_in_range k r.planned)) r.travelled in
        reads_or (read_of r.arrived) (reversals n began) s (ap (λ (m : MeasurementHeader). m.sequence) (kept n began))
        (damage_found (reversals n began) c.whole r.arrived c.is_sent c.turned).reading
