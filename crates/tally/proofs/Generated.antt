-- Packet k stands at its place in the generator's buffer, and reads back.
use Prim.Native.Nat.{◌+◌, ◌*◌}
use native.Mathlib.Omega.{arith}
use mathlib.Core.Path.{◌≡◌, refl, ap, ◌∙◌}
use mathlib.Core.List.{◌++◌}
use lib.ListN.{length, take, drop}
use lib.Seq.{take_at}
use Rattle.measurement.specs.Flow.{InRange}
use Rattle.measurement_reading.specs.Read.{read_of}
use Rattle.measurement_damage.proofs.Claims.{reads_back}
use Rattle.measurement_build.proofs.Whole.{build_length}
use Rattle.plan.specs.Plan.{time_at, packets_of}
use Rattle.traffic.specs.Generate.{end_to_end, Generating, generate_of}
use Rattle.traffic.proofs.Packets.{size}
use Rattle.traffic.proofs.Claims.{success, standing}
use Rattle.tally.specs.Demand.{packet}
use Rattle.tally.specs.Attained.{PacketsGenerated}
use Rattle.tally.specs.Generated.{PacketsReadBack}

pub packets_generated : PacketsGenerated
unfolding packets_of
packets_generated flow plan next a k h =
    let whole = success flow plan next a.buffer a.bytes a.generated in
    let bytes = end_to_end flow (packets_of plan next) in
    let found = standing flow plan next plan.packet_count 0 k k (drop (length bytes) a.buffer) h (omega arith) in
    ap (λ (g : Generating). take (size flow) (drop (k * size flow) g.buffer)) whole.is
    ∙ ap (take (size flow)) found.is
    ∙ take_at (packet flow plan next k) found.others (size flow) (build_length flow (next + k) (time_at plan k) flow.version refl)

pub packets_read_back : PacketsReadBack
unfolding packets_of
packets_read_back flow plan next buffer g n e k h =
    let s = success flow plan next buffer n e in
    let b = end_to_end flow (packets_of plan next) in
    let at_exit : (generate_of flow plan next buffer).buffer ≡ b ++ drop (length b) buffer = ap (λ (x : Generating). x.buffer) s.is in
    let found = standing flow plan next plan.packet_count 0 k k (drop (length b) buffer) h (omega arith) in
    let range : InRange flow (next + k) (time_at plan k) = record {
      source = g.source;
      destination = g.destination;
      source_length = g.source_length;
      destination_length = g.destination_length;
      source_port = g.source_port;
      destination_port = g.destination_port;
      sequence = omega (arith, s.acceptable.sequences k h);
      time = omega (arith, s.acceptable.times k h);
    } in
    ap read_of (ap (drop (k * size flow)) at_exit ∙ found.is) ∙ reads_back flow (next + k) (time_at plan k) range found.others
