-- What the generator leaves, from how the plan was judged.
use Prim.Native.Nat.{ℕ, ◌+◌, ◌*◌, ◌^◌, ◌<◌, ◌≤◌}
use native.Mathlib.Omega.{arith}
use native.Mathlib.Nat.{mul-le-mul}
use mathlib.Core.Path.{◌≡◌, sym, ap, ap₂, ◌∙◌}
use mathlib.Core.List.{List, ◌++◌}
use lib.ListN.{length, drop}
use borrow.Author.Tests.{lt-ltb, le-ltb}
use Rattle.error.specs.Answer.{number_of}
use Rattle.error.specs.Outcome.{refused, gives}
use Rattle.measurement.specs.Answer.{writing}
use Rattle.measurement.specs.declared.InnerIpFlow.{InnerIpFlow}
use Rattle.measurement.specs.declared.IpVersion.{IpVersion}
use Rattle.measurement.specs.declared.IpVersion.TheVariants.{V4, V6}
use Rattle.std.specs.Prelude as code
use Rattle.error.specs.declared.Refusal.{Refusal}
use Rattle.error.specs.declared.Refusal.TheVariants.{OutputTooShort}
use Rattle.measurement_packet.specs.Packet.{ip_header_length}
use Rattle.plan.specs.Plan.{top, Judged, packets_of, judge_plan}
use Rattle.plan.specs.Judge.{Judges}
use Rattle.plan.specs.Claims.{accepted}
use Rattle.plan.specs.declared.JudgedPlan.{JudgedPlan}
use Rattle.plan.specs.declared.TrafficPlan.{TrafficPlan}
use Rattle.plan.proofs.Answers.{next_is, answer_refused, answer_accepted, answer_planned}
use Rattle.traffic.specs.Generate.{end_to_end, placing, generate_of, generated}
use Rattle.traffic.specs.Fits.{Fits}
use Rattle.traffic.proofs.Packets.{size, packets_length}

-- bytes into a buffer
module _ (bytes : List ℕ) (next after : ℕ) (buffer : List ℕ) where
  pub placing_short : length buffer < length bytes → record { outcome = refused 15; next = next; buffer = buffer } ≡ placing bytes next after buffer
  unfolding placing writing
  placing_short h = rw (lt-ltb (length buffer) (length bytes) h, writing, placing)

  pub placing_fits : length bytes ≤ length buffer
      → record { outcome = gives (length bytes); next = after; buffer = bytes ++ drop (length bytes) buffer } ≡ placing bytes next after buffer
  unfolding placing writing
  placing_fits h = rw (le-ltb (length buffer) (length bytes) h, writing, placing)

-- room for the packets in numbers
header_short : (v : IpVersion) → ip_header_length v ≤ 40
unfolding ip_header_length
header_short V4 = omega arith
header_short V6 = omega arith

pub all_within : (v : IpVersion) (most n s : ℕ) → n ≤ most → s ≡ ip_header_length v + 32 → n * s ≤ most * 72
all_within v most n s h e =
    let l : s ≤ 72 = omega (arith, header_short v) in
    mul-le-mul h l

module _ (flow : InnerIpFlow) (plan : TrafficPlan) (next : ℕ) (buffer : List ℕ) where
  abbrev bytes_of : List ℕ
  bytes_of = end_to_end flow (packets_of plan next)

  pub bytes_length : length bytes_of ≡ plan.packet_count * size flow
  unfolding packets_of
  bytes_length = packets_length plan next flow plan.packet_count 0

  pub generate_refused : (n : ℕ) → (judge_plan plan next).outcome ≡ refused n
      → record { outcome = refused n; next = (judge_plan plan next).next; buffer = buffer } ≡ generate_of flow plan next buffer
  unfolding generate_of
  generate_refused n e = rw (e, generate_of)

  pub generate_accepted : judge_plan plan next ≡ accepted plan next → placing bytes_of next (next + plan.packet_count) buffer ≡ generate_of flow plan next buffer
  unfolding generate_of
  generate_accepted e =
      let given : (judge_plan plan next).outcome ≡ gives (packets_of plan next) = ap (λ (j : Judged). j.outcome) e in
      ap (λ (j : Judged). placing bytes_of next j.next buffer) (sym e) ∙ rw (given, generate_of)

  -- the code's answers
  module _ (r : JudgedPlan) (e : Judges plan r (judge_plan plan next)) where
    pub answer_refuses : (why : Refusal) → r.interval ≡ code.Err why
        → generated (code.Err why) r.next_sequence buffer ≡ generate_of flow plan next buffer
    answer_refuses why a =
        ap (λ (x : ℕ). record { outcome = refused (number_of why); next = x; buffer = buffer }) (next_is plan next r e) ∙ generate_refused (number_of why) (answer_refused plan next r e why a)

    module _ (i : ℕ) (a : r.interval ≡ code.Ok i) where
      count_fits : plan.packet_count ≤ 2048
      count_fits = (answer_accepted plan next r e i a).1.count_within

      pub length_fits : (s : ℕ) → s ≡ size flow → plan.packet_count * s < 2 ^ 64
      length_fits s es = omega (arith, all_within flow.version 2048 plan.packet_count s count_fits es)

      pub answer_short : (s : ℕ) → s ≡ size flow → length buffer < plan.packet_count * s
          → generated (code.Err OutputTooShort) next buffer ≡ generate_of flow plan next buffer
      answer_short s es h =
          placing_short bytes_of next (next + plan.packet_count) buffer (omega (arith, bytes_length, ap (λ (x : ℕ). plan.packet_count * x) es))
          ∙ generate_accepted (answer_accepted plan next r e i a).2

      pub answer_fits : (s : ℕ) → s ≡ size flow → next ≤ top → plan.packet_count * s ≤ length buffer → Fits flow plan i next buffer
      answer_fits s es low h =
          record { planned = answer_planned plan next r e i a low; room = omega (arith, ap (λ (x : ℕ). plan.packet_count * x) es) }

      pub answer_written : (s : ℕ) (whole : List ℕ) → s ≡ size flow → plan.packet_count * s ≤ length buffer
          → whole ≡ bytes_of ++ drop (plan.packet_count * size flow) buffer
          → generated (code.Ok (plan.packet_count * s)) r.next_sequence whole ≡ generate_of flow plan next buffer
      answer_written s whole es h ew =
          let t = (answer_accepted plan next r e i a).2 in
          let n : plan.packet_count * s ≡ plan.packet_count * size flow = ap (λ (x : ℕ). plan.packet_count * x) es in
          let after : r.next_sequence ≡ next + plan.packet_count = next_is plan next r e ∙ ap (λ (j : Judged). j.next) t in
          ap₂ (λ (x y : ℕ). record { outcome = gives x; next = y; buffer = whole }) (n ∙ sym bytes_length) after
          ∙ ap (λ (x : List ℕ). record { outcome = gives (length bytes_of); next = next + plan.packet_count; buffer = x })
          (ew ∙ ap (λ (x : ℕ). bytes_of ++ drop x buffer) (sym bytes_length))
          ∙ placing_fits bytes_of next (next + plan.packet_count) buffer (omega (arith, bytes_length))
          ∙ generate_accepted t
