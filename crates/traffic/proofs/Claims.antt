-- The claims of specs/Claims.antt, proved.
use Prim.Native.Nat.{ℕ, zero, suc, ◌+◌, ◌*◌, ◌<◌, ◌≤◌}
use native.Mathlib.Omega.{arith}
use native.Mathlib.Nat.{zero-mul, suc-mul}
use mathlib.Core.Path.{◌≡◌, refl, sym, ap, ap₂, ◌∙◌}
use mathlib.Core.List.{List, ◌++◌, append_assoc}
use mathlib.Core.Bool.{Bool, true, false}
use mathlib.Core.Logic.{◌⊎◌, inr}
use lib.Dec.{ltb}
use lib.ListN.{length, drop, length-append, length-drop}
use lib.Seq.{drop_at, drop-drop}
use borrow.Author.Tests.{ltb-true, ltb-false}
use Rattle.error.specs.Outcome.{Outcome, refused, gives}
use Rattle.error.proofs.Causes.{refused_gives}
use Rattle.measurement.specs.declared.InnerIpFlow.{InnerIpFlow}
use Rattle.measurement.specs.declared.MeasurementHeader.{MeasurementHeader}
use Rattle.measurement_packet.specs.Packet.{build_of}
use Rattle.measurement_build.proofs.Whole.{build_length}
use Rattle.plan.specs.Plan.{time_at, packets_from, packets_of, judge_plan}
use Rattle.plan.specs.Claims.{Acceptable, accepted}
use Rattle.plan.specs.declared.TrafficPlan.{TrafficPlan}
use Rattle.plan.proofs.Judged.{plan_accepted}
use Rattle.plan.proofs.Claims.{given, same_refusal, by_plan}
use Rattle.traffic.specs.Generate.{end_to_end, Generating, generate_of}
use Rattle.traffic.specs.Claims.{SuccessIsComplete, RoomDecides, RefusalLeaves}
use Rattle.traffic.proofs.Packets.{size}
use Rattle.traffic.proofs.Answers.{placing_short, placing_fits, bytes_length, generate_refused, generate_accepted}

-- what a success is
module _ (flow : InnerIpFlow) (plan : TrafficPlan) (next : ℕ) (buffer : List ℕ) where
  abbrev pub bytes : List ℕ
  bytes = end_to_end flow (packets_of plan next)

  pub record Success (n : ℕ) : Type 0 where
    pub acceptable : Acceptable plan next
    pub judged : judge_plan plan next ≡ accepted plan next
    pub room : length bytes ≤ length buffer
    pub number : n ≡ length bytes
    pub is : generate_of flow plan next buffer ≡ record { outcome = gives (length bytes); next = next + plan.packet_count; buffer = bytes ++ drop (length bytes) buffer }

  pub success : (n : ℕ) → (generate_of flow plan next buffer).outcome ≡ gives n → Success n
  success n e = judged_as (judge_plan plan next).outcome refl
    where
      placed_as : Acceptable plan next → judge_plan plan next ≡ accepted plan next → (b : Bool) → ltb (length buffer) (length bytes) ≡ b → Success n
      placed_as a j true t =
          let f = placing_short bytes next (next + plan.packet_count) buffer (ltb-true (length buffer) (length bytes) t) ∙ generate_accepted flow plan next buffer j in
          absurd (refused_gives (ap (λ (g : Generating). g.outcome) f ∙ e))
      placed_as a j false t =
          let l = ltb-false (length buffer) (length bytes) t in
          let f = placing_fits bytes next (next + plan.packet_count) buffer l ∙ generate_accepted flow plan next buffer j in
          record { acceptable = a; judged = j; room = l; number = sym (given (ap (λ (g : Generating). g.outcome) f ∙ e)); is = sym f }

      judged_as : (o : Outcome (List MeasurementHeader)) → (judge_plan plan next).outcome ≡ o → Success n
      judged_as (refused m) q = absurd (refused_gives (ap (λ (g : Generating). g.outcome) (generate_refused flow plan next buffer m q) ∙ e))
      judged_as (gives p) q = let h = plan_accepted plan next p q in placed_as h.0 h.1 (ltb (length buffer) (length bytes)) refl

pub success_is_complete : SuccessIsComplete
success_is_complete flow plan next buffer n e =
    let s = success flow plan next buffer n e in
    let b = end_to_end flow (packets_of plan next) in
    let at_exit : (generate_of flow plan next buffer).buffer ≡ b ++ drop (length b) buffer = ap (λ (g : Generating). g.buffer) s.is in
    record {
      judged = s.judged;
      bytes = s.number ∙ bytes_length flow plan next buffer;
      next_is = ap (λ (g : Generating). g.next) s.is;
      behind = ap₂ (λ (x : ℕ) (l : List ℕ). drop x l) s.number at_exit ∙ drop_at b (drop (length b) buffer) (length b) refl ∙ ap (λ (x : ℕ). drop x buffer) (sym s.number);
      same_length = ap length at_exit ∙ simp (length-append, length-drop) (omega (arith, s.room));
    }

pub room_decides : RoomDecides
room_decides flow plan next buffer j =
    let b = end_to_end flow (packets_of plan next) in
    let l = bytes_length flow plan next buffer in
    let g = generate_accepted flow plan next buffer j in (
      (λ h. sym (ap (λ (x : Generating). x.outcome) (placing_short b next (next + plan.packet_count) buffer (omega arith) ∙ g))),
      (λ h. sym (ap (λ (x : Generating). x.outcome) (placing_fits b next (next + plan.packet_count) buffer (omega arith) ∙ g)) ∙ ap gives l),
    )

-- the packet at its place: packet i is the one at place k of the packets from j on
module _ (flow : InnerIpFlow) (plan : TrafficPlan) (next : ℕ) where
  pub record Standing (l : List ℕ) (k : ℕ) : Type 0 where
    pub others : List ℕ
    pub is : l ≡ build_of flow (next + k) (time_at plan k) ++ others

  pub standing : (n j k i : ℕ) (behind : List ℕ) → k < n → i ≡ j + k → Standing (drop (k * size flow) (end_to_end flow (packets_from plan next n j) ++ behind)) i
  unfolding packets_from end_to_end
  standing zero j k i behind h e = absurd (omega arith)
  standing (suc n) j zero i behind h e =
      let same : i ≡ j = omega arith in
      let more = end_to_end flow (packets_from plan next n (suc j)) in
      record {
        others = more ++ behind;
        is = ap (λ (x : ℕ). drop x ((build_of flow (next + j) (time_at plan j) ++ more) ++ behind)) (zero-mul (size flow)) ∙ append_assoc (build_of flow (next + j) (time_at plan j)) more behind
            ∙ ap (λ (x : ℕ). build_of flow (next + x) (time_at plan x) ++ (more ++ behind)) (sym same);
      }
  standing (suc n) j (suc k) i behind h e =
      let b = build_of flow (next + j) (time_at plan j) in
      let more = end_to_end flow (packets_from plan next n (suc j)) in
      let rest = standing n (suc j) k i behind (omega arith) (omega arith) in
      let place : suc k * size flow ≡ size flow + k * size flow = omega (arith, suc-mul k (size flow)) in
      let past : drop (suc k * size flow) ((b ++ more) ++ behind) ≡ drop (k * size flow) (more ++ behind) =
      ap₂ (λ (x : ℕ) (l : List ℕ). drop x l) place (append_assoc b more behind) ∙ sym (drop-drop (k * size flow) (size flow) (b ++ (more ++ behind)))
      ∙ ap (drop (k * size flow)) (drop_at b (more ++ behind) (size flow) (build_length flow (next + j) (time_at plan j) flow.version refl)) in
      record { others = rest.others; is = past ∙ rest.is }

-- refusals
pub refusal_leaves : RefusalLeaves
refusal_leaves flow plan next buffer n e = judged_as (judge_plan plan next).outcome refl
  where
    placed_as : judge_plan plan next ≡ accepted plan next → (b : Bool) → ltb (length buffer) (length (end_to_end flow (packets_of plan next))) ≡ b
        → ((generate_of flow plan next buffer).buffer ≡ buffer) × ((n ≡ 19) ⊎ (n ≡ 20) ⊎ ((generate_of flow plan next buffer).next ≡ next))
    placed_as j true t =
        let f = placing_short (end_to_end flow (packets_of plan next)) next (next + plan.packet_count) buffer (ltb-true _ _ t) ∙ generate_accepted flow plan next buffer j in
        (sym (ap (λ (g : Generating). g.buffer) f), inr (inr (sym (ap (λ (g : Generating). g.next) f))))
    placed_as j false t =
        let f = placing_fits (end_to_end flow (packets_of plan next)) next (next + plan.packet_count) buffer (ltb-false _ _ t) ∙ generate_accepted flow plan next buffer j in
        absurd (refused_gives (sym e ∙ sym (ap (λ (g : Generating). g.outcome) f)))

    judged_as : (o : Outcome (List MeasurementHeader)) → (judge_plan plan next).outcome ≡ o
        → ((generate_of flow plan next buffer).buffer ≡ buffer) × ((n ≡ 19) ⊎ (n ≡ 20) ⊎ ((generate_of flow plan next buffer).next ≡ next))
    judged_as (refused m) q =
        let f = generate_refused flow plan next buffer m q in
        let same : m ≡ n = same_refusal (sym (ap (λ (g : Generating). g.outcome) f ∙ e)) in
        (sym (ap (λ (g : Generating). g.buffer) f), rw (sym (ap (λ (g : Generating). g.next) f)) (by_plan next plan n (q ∙ ap refused same)))
    judged_as (gives p) q = placed_as (plan_accepted plan next p q).1 (ltb (length buffer) (length (end_to_end flow (packets_of plan next)))) refl
