-- The UDP segment, computed from the pseudo-header's sum instead of its bytes. Only a private contract uses it; the
-- public one uses `udp`, and a law proves the two equal.
use Rattle.std.specs.Prelude.{ℕ, ◌+◌, ◌-◌, List}
use Rattle.checksum.specs.Sum.{sum_of, fold_of}
use Rattle.measurement_packet.specs.Packet.{nonzero, udp_segment}

unfoldable pub segment_over : ℕ → ℕ → ℕ → ℕ → ℕ → List ℕ
segment_over pseudo source_port destination_port sequence time =
    udp_segment (nonzero (65535 - fold_of (pseudo + sum_of (udp_segment 0 source_port destination_port sequence time))))
    source_port destination_port sequence time
