-- The claims of specs/Fragments.antt.
use Prim.Native.Nat.{ℕ, ◌%◌, ◌<◌}
use native.Mathlib.Omega.{arith}
use mathlib.Core.Path.{◌≡◌, refl, sym, ◌∙◌}
use mathlib.Core.List.{List, ◌++◌}
use Rattle.error.specs.Outcome.{Outcome, refused, gives}
use Rattle.error.proofs.Causes.{refused_gives}
use Rattle.measurement.specs.Flow.{address, InRange}
use Rattle.measurement.specs.declared.DecodedTpdu.{DecodedTpdu}
use Rattle.measurement.specs.declared.InnerIpFlow.{InnerIpFlow}
use Rattle.measurement.specs.declared.IpVersion.TheVariants.{V4}
use Rattle.measurement_packet.specs.Packet.{build_of}
use Rattle.measurement_reading.specs.Read.{read_of}
use Rattle.measurement_reading.proofs.Fragments.{fragments_not_read}
use Rattle.measurement_damage.specs.Claims.{tpdu_built}
use Rattle.measurement_damage.specs.Fragments.{packet_with, BuiltWithFlags, FragmentsNotEchoed}
use Rattle.measurement_damage.proofs.ReadBack.{fragment_refused, flagged_read}
use Rattle.measurement_damage.proofs.Claims.{echo_refused}

module _ (f : InnerIpFlow) (s t : ℕ) (g : InRange f s t) (e : f.version ≡ V4) (behind : List ℕ) (word : ℕ) (fits : word < 65536) where
  read_with : word % 16384 ≡ 0 → read_of (packet_with word (build_of f s t) ++ behind) ≡ gives (tpdu_built f s t)
  unfolding build_of address
  read_with h =
      rw e (flagged_read f.src f.dst f.src_port f.dst_port s t word behind g.source_port g.destination_port g.sequence g.time fits h)

  refused_with : (word % 16384 ≡ 0 → ⊥) → read_of (packet_with word (build_of f s t) ++ behind) ≡ refused 38
  unfolding build_of address
  refused_with h = rw e (fragment_refused f.src f.dst f.src_port f.dst_port s t word behind fits h)

pub built_with_flags : BuiltWithFlags
built_with_flags f s t g e behind = record {
  reserved_bit = read_with f s t g e behind 0x8000 (omega arith) (omega arith);
  dont_fragment = read_with f s t g e behind 0x4000 (omega arith) (omega arith);
  more_fragments = refused_with f s t g e behind 0x2000 (omega arith) (λ z. omega arith);
  offset_1 = refused_with f s t g e behind 0x0001 (omega arith) (λ z. omega arith);
  no_other_bit = read_with f s t g e behind;
  another_bit = refused_with f s t g e behind;
}

pub fragments_not_echoed : FragmentsNotEchoed
fragments_not_echoed p b v f echo e = by (read_of p) refl
  where
    by : (o : Outcome DecodedTpdu) → read_of p ≡ o → ⊥
    by (refused n) q = refused_gives (sym (echo_refused p n q) ∙ e)
    by (gives r) q = fragments_not_read p b v f r q
