-- The packets of a plan end to end: how long they are, and one more of them.
use Prim.Native.Nat.{ℕ, zero, suc, ◌+◌, ◌-◌, ◌*◌, ◌<◌, ◌≤◌}
use native.Mathlib.Omega.{arith}
use native.Mathlib.Nat.{zero-mul, suc-mul, mul-le-mul_right}
use native.Mathlib.Numerals.{add-one}
use mathlib.Core.Path.{◌≡◌, refl, sym, ap, ap₂, ◌∙◌}
use mathlib.Core.List.{List, [], ◌∷◌, ◌++◌, append_assoc, append-nil}
use lib.ListN.{length, take, drop, length-append, length-take, length-drop}
use Rattle.field.proofs.Parts.{laid}
use Rattle.measurement.specs.Answer.{Writing, writing, wrote}
use Rattle.measurement.specs.declared.InnerIpFlow.{InnerIpFlow}
use Rattle.measurement.specs.declared.MeasurementHeader.{MeasurementHeader}
use Rattle.std.specs.Prelude.{Result}
use Rattle.error.specs.declared.Refusal.{Refusal}
use Rattle.measurement_packet.specs.Packet.{ip_header_length, build_of}
use Rattle.measurement_build.proofs.Whole.{build_length, writing_fits}
use Rattle.plan.specs.Plan.{time_at, packet_at, packets_from, packets_of}
use Rattle.plan.specs.declared.TrafficPlan.{TrafficPlan}
use Rattle.plan.proofs.Answers.{planned_time}
use Rattle.traffic.specs.Generate.{end_to_end}
use Rattle.traffic.specs.Fits.{Fits}

abbrev pub size : InnerIpFlow → ℕ
size flow = ip_header_length flow.version + 32

pub end_to_end_append : (flow : InnerIpFlow) (a b : List MeasurementHeader) → end_to_end flow (a ++ b) ≡ end_to_end flow a ++ end_to_end flow b
unfolding end_to_end
end_to_end_append flow [] b = refl
end_to_end_append flow (p ∷ a) b =
    ap (λ (x : List ℕ). build_of flow p.sequence p.send_timestamp_ns ++ x) (end_to_end_append flow a b)
    ∙ sym (append_assoc (build_of flow p.sequence p.send_timestamp_ns) (end_to_end flow a) (end_to_end flow b))

module _ (plan : TrafficPlan) (next : ℕ) where
  packets_more : (n k : ℕ) → packets_from plan next (suc n) k ≡ packets_from plan next n k ++ packet_at plan next (k + n) ∷ []
  unfolding packets_from
  packets_more zero k = let e : k ≡ k + 0 = omega arith in ap (λ (x : ℕ). packet_at plan next x ∷ []) e
  packets_more (suc n) k =
      let e : suc k + n ≡ k + suc n = omega arith in
      ap (λ (x : List MeasurementHeader). packet_at plan next k ∷ x)
      (packets_more n (suc k) ∙ ap (λ (x : ℕ). packets_from plan next n (suc k) ++ packet_at plan next x ∷ []) e)

  module _ (flow : InnerIpFlow) where
    pub packets_length : (n k : ℕ) → length (end_to_end flow (packets_from plan next n k)) ≡ n * size flow
    unfolding packets_from end_to_end
    packets_length zero k = sym (zero-mul (size flow))
    packets_length (suc n) k =
        let b = build_of flow (next + k) (time_at plan k) in
        length-append b (end_to_end flow (packets_from plan next n (suc k)))
        ∙ ap₂ (λ (x y : ℕ). x + y) (build_length flow (next + k) (time_at plan k) flow.version refl) (packets_length n (suc k))
        ∙ omega (arith, suc-mul n (size flow))

    abbrev front : ℕ → List ℕ
    front k = end_to_end flow (packets_from plan next k 0)

    front_more : (k : ℕ) → front (k + 1) ≡ front k ++ build_of flow (next + k) (time_at plan k)
    unfolding end_to_end
    front_more k =
        let e : 0 + k ≡ k = omega arith in
        ap front (add-one k) ∙ ap (end_to_end flow) (packets_more k 0 ∙ ap (λ (x : ℕ). packets_from plan next k 0 ++ packet_at plan next x ∷ []) e)
        ∙ end_to_end_append flow (packets_from plan next k 0) (packet_at plan next k ∷ [])
        ∙ ap (λ (x : List ℕ). front k ++ x) (append-nil (build_of flow (next + k) (time_at plan k)))

    -- room for packet k
    pub room : (count k : ℕ) → k < count → k * size flow + size flow ≤ count * size flow
    room count k h = let a : suc k * size flow ≤ count * size flow = mul-le-mul_right (size flow) (omega arith) in omega (arith, suc-mul k (size flow))

    -- the place of packet k, and its time
    pub part_fits : (i k at s : ℕ) (out : List ℕ) → Fits flow plan i next out → s ≡ size flow → at ≡ k * s → k < plan.packet_count → at + s ≤ length out
    part_fits i k at s out f es ea h = omega (arith, room plan.packet_count k h, f.room, ap (λ (x : ℕ). k * x) es)

    pub time_is : (i k : ℕ) (out : List ℕ) → Fits flow plan i next out → plan.first_send_timestamp_ns + k * i ≡ time_at plan k
    time_is i k out f = planned_time f.planned k

    -- packet k is built behind those before it
    pub turn : (k at s time : ℕ) (out whole part : List ℕ) (r : Result ℕ Refusal) → time ≡ time_at plan k → s ≡ size flow → at ≡ k * s → at + s ≤ length out
        → whole ≡ front k ++ drop at out
        → wrote r part ≡ writing (build_of flow (next + k) time) (take (length whole - at) (drop at whole))
        → take at whole ++ (part ++ drop (length whole - at) (drop at whole)) ≡ front (k + 1) ++ drop (at + s) out
    turn k at s time out whole part r et es ea fits ew e =
        let b = build_of flow (next + k) (time_at plan k) in
        let lent = take (length whole - at) (drop at whole) in
        let lb : length b ≡ s = build_length flow (next + k) (time_at plan k) flow.version refl ∙ sym es in
        let lf : length (front k) ≡ at = packets_length k 0 ∙ ap (λ (x : ℕ). k * x) (sym es) ∙ sym ea in
        let lw : length whole ≡ length out = ap length ew ∙ simp (length-append, length-drop) (omega arith) in
        let ll : length b ≤ length lent = simp (length-take, length-drop) (omega arith) in
        let f = e ∙ ap (λ (t : ℕ). writing (build_of flow (next + k) t) lent) et ∙ sym (writing_fits b lent ll) in
        let p : part ≡ b ++ drop s lent = ap (λ (w : Writing). w.buffer) f ∙ ap (λ (n : ℕ). b ++ drop n lent) lb in
        laid (front k) b out part whole at s lf lb fits ew p ∙ ap (λ (x : List ℕ). x ++ drop (at + s) out) (sym (front_more k))

    pub all_written : (k at s : ℕ) (out whole : List ℕ) → s ≡ size flow → at ≡ k * s → k ≡ plan.packet_count → whole ≡ front k ++ drop at out
        → whole ≡ end_to_end flow (packets_of plan next) ++ drop (plan.packet_count * size flow) out
    unfolding packets_of
    all_written k at s out whole es ea ek ew =
        let e : at ≡ plan.packet_count * size flow = ea ∙ ap₂ (λ (x y : ℕ). x * y) ek es in
        ew ∙ ap₂ (λ (x y : ℕ). front x ++ drop y out) ek e
