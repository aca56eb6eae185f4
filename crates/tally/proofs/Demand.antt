-- Demand 3, proved.
use Prim.Native.Nat.{ℕ}
use mathlib.Core.Path.{◌≡◌, refl, sym, ap, ◌∙◌, subst}
use mathlib.Core.Bool.{Bool, true, false}
use mathlib.Core.List.{List, [], ◌∷◌, map}
use Rattle.error.specs.Outcome.{Outcome, refused, gives}
use Rattle.evidence.specs.declared.PacketContinuityBudget.{PacketContinuityBudget}
use Rattle.measurement.specs.declared.DecodedTpdu.{DecodedTpdu}
use Rattle.measurement.specs.declared.InnerIpFlow.{InnerIpFlow}
use Rattle.measurement_reading.specs.Read.{read_of}
use Rattle.measurement_damage.proofs.Claims.{damage_found}
use Rattle.plan.specs.Plan.{packets_of}
use Rattle.plan.specs.declared.TrafficPlan.{TrafficPlan}
use Rattle.observer.specs.Counts.{with_used}
use Rattle.observer.specs.Observer.{Observer, rows}
use Rattle.observer.specs.declared.ObserverCounts.{ObserverCounts}
use Rattle.observer.proofs.Calls.{judged_well}
use Rattle.report.specs.Report.{report_of, reporting}
use Rattle.tally.specs.Tally.{Tally, tally_of, Fed, tally_return, tally_returns, counts_of, tally_report}
use Rattle.tally.specs.Demand.{Accepted, send_all, Takes, receive, receive_all, Return, handed, made_whole, fed, whole_bytes, damaged_on_a_leg, damaged_at_the_end, second_list, IsTally, Run, Demand3}
use Rattle.tally.proofs.Steps.{read_off, Ready, Answers, call_answers, call_refused, tally_given}
use Rattle.tally.proofs.Entry.{used_is, Entered, entered}
use Rattle.tally.proofs.Returns.{arrived_reads, whole_read, whole_reads}

-- ---- rows, counters and report

counts_are : {q n : ℕ} {o : Observer} → Ready q n o → o.counts ≡ counts_of (read_off o)
counts_are {o = o} i = ap (λ (u : ℕ). with_used u o.counts) (sym (used_is i))

report_is : {q n : ℕ} {o : Observer} → Ready q n o → (start end : ℕ) (budget : PacketContinuityBudget)
    → reporting o start end budget ≡ gives (tally_report (read_off o) start end budget)
unfolding reporting
report_is {o = o} i start end budget =
    sym (judged_well o (gives (report_of (rows o) o.counts start end budget)) i.well)
    ∙ ap (λ (c : ObserverCounts). gives (report_of (rows o) c start end budget)) (counts_are i)

is_tally : {q n : ℕ} {o : Observer} {a : Tally} → Ready q n o → read_off o ≡ a → IsTally o a
is_tally {o = o} i e =
    subst (λ (b : Tally). IsTally o b) e (record { used_rows = refl; counters = counts_are i; report = report_is i })

module _ {flow : InnerIpFlow} {plan : TrafficPlan} {next : ℕ} (a : Accepted flow plan next) where
  abbrev count : ℕ
  count = plan.packet_count

  -- ---- one return

  as_arrived : (o : Observer) → Ready next count o → (r : Return flow plan next)
      → Answers next count o (receive o (handed r)) (tally_return (read_off o) (fed r))
  as_arrived o i r = call_answers i r.time r.packet_index r.planned r.arrived r.call (arrived_reads a r)

  abbrev fed_whole : Return flow plan next → Fed
  fed_whole r = record { packet = r.packet_index; time = r.time; arrived = whole_bytes r }

  as_whole : (o : Observer) → Ready next count o → (r : Return flow plan next)
      → Answers next count o (receive o (made_whole r)) (tally_return (read_off o) (fed_whole r))
  as_whole o i r = call_answers i r.time r.packet_index r.planned (whole_bytes r) r.call (whole_reads a r)

  -- a return that the call does not refuse counts as it does when made whole
  counts_whole : (o : Observer) (b : Tally) (r : Return flow plan next) → (receive o (handed r)).refuses ≡ false → tally_return b (fed_whole r) ≡ tally_return b (fed r)
  counts_whole o b r e = go (read_of r.arrived) refl
    where
      go : (x : Outcome DecodedTpdu) → read_of r.arrived ≡ x → tally_return b (fed_whole r) ≡ tally_return b (fed r)
      go (refused m) f = absurd (call_refused o r.time r.arrived r.call m f e)
      go (gives d) f = sym (tally_given b (fed_whole r) _ (whole_read a r)) ∙ tally_given b (fed r) d f

  -- ---- all returns

  record Runs (o : Observer) (b : Tally) : Type 0 where
    ready : Ready next count o
    is : read_off o ≡ b

  all : (rs : List (Return flow plan next)) (o : Observer) → Ready next count o → Runs (receive_all o (map handed rs)) (tally_returns (read_off o) (map fed rs))
  all [] o i = record { ready = i; is = refl }
  all (r ∷ rs) o i =
      let s = as_arrived o i r in
      let onward = all rs (receive o (handed r)).observer s.ready in
      record { ready = onward.ready; is = onward.is ∙ ap (λ (b : Tally). tally_returns b (map fed rs)) s.is }

  -- ---- the second list, whatever is called damaged

  module _ (damaged : Return flow plan next → Bool) where
    -- the claim for the observers o and z, of the returns rs
    abbrev Follows : List (Return flow plan next) → Observer → Observer → Type 0
    Follows rs o z = Ready next count o → Ready next count z → read_off o ≡ read_off z
        → Runs (receive_all z (second_list damaged o rs)) (tally_returns (read_off o) (map fed rs))

    one_more_lem : (r : Return flow plan next) (rs : List (Return flow plan next)) (o z : Observer)
        → ((y : Observer) → Follows rs (receive o (handed r)).observer y) → Follows (r ∷ rs) o z
    one_more_lem r rs o z rest i j e = go (damaged r) (receive o (handed r)).refuses refl
      where
        s : Answers next count o (receive o (handed r)) (tally_return (read_off o) (fed r))
        s = as_arrived o i r

        onward : (y : Observer) → Ready next count y → read_off (receive o (handed r)).observer ≡ read_off y
            → Runs (receive_all y (second_list damaged (receive o (handed r)).observer rs)) (tally_returns (read_off o) (map fed (r ∷ rs)))
        onward y k f =
            let x = rest y s.ready k f in
            record { ready = x.ready; is = x.is ∙ ap (λ (b : Tally). tally_returns b (map fed rs)) s.is }

        go : (d x : Bool) → (receive o (handed r)).refuses ≡ x
            → Runs
            (receive_all z
            (elim d [
              | false ↦ handed r ∷ second_list damaged (receive o (handed r)).observer rs
              | true ↦ elim x [
                | true ↦ second_list damaged (receive o (handed r)).observer rs
                | false ↦ made_whole r ∷ second_list damaged (receive o (handed r)).observer rs
              ]
            ]))
            (tally_returns (read_off o) (map fed (r ∷ rs)))
        go false x f =
            let c = as_arrived z j r in
            onward (receive z (handed r)).observer c.ready (s.is ∙ ap (λ (b : Tally). tally_return b (fed r)) e ∙ sym c.is)
        go true true f = onward z j (ap read_off (s.unchanged f) ∙ e)
        go true false f =
            let c = as_whole z j r in
            onward (receive z (made_whole r)).observer c.ready
            (s.is ∙ sym (counts_whole o (read_off o) r f) ∙ ap (λ (b : Tally). tally_return b (fed_whole r)) e ∙ sym c.is)

    second : (rs : List (Return flow plan next)) (o z : Observer) → Follows rs o z
    second [] o z i j e = record { ready = j; is = sym e }
    second (r ∷ rs) o z i j e = one_more_lem r rs o z (λ y. second rs (receive o (handed r)).observer y) i j e

  -- ---- the run

  module _ (o z : Observer) (t : Takes plan next o) (u : Takes plan next z) (rs : List (Return flow plan next)) where
    abbrev packets : Tally
    packets = tally_of (packets_of plan next)

    first_entered : Entered plan next count (send_all o (packets_of plan next)) packets
    first_entered = entered plan next o t

    second_entered : Entered plan next count (send_all z (packets_of plan next)) packets
    second_entered = entered plan next z u

    from_packets : {x : Observer} → Runs x (tally_returns (read_off (send_all o (packets_of plan next))) (map fed rs)) → IsTally x (tally_returns packets (map fed rs))
    from_packets h = is_tally h.ready (h.is ∙ ap (λ (b : Tally). tally_returns b (map fed rs)) first_entered.is)

    by : (damaged : Return flow plan next → Bool)
        → IsTally (receive_all (send_all z (packets_of plan next)) (second_list damaged (send_all o (packets_of plan next)) rs)) (tally_returns packets (map fed rs))
    by damaged =
        from_packets (second damaged rs (send_all o (packets_of plan next)) (send_all z (packets_of plan next)) first_entered.ready second_entered.ready
        (first_entered.is ∙ sym second_entered.is))

    run : Run o z rs
    run = record {
      tally = from_packets (all rs (send_all o (packets_of plan next)) first_entered.ready);
      whole = by damaged_on_a_leg;
      whole_at_the_end = by damaged_at_the_end;
    }

pub demand3 : Demand3
demand3 = record { one_leg = damage_found; all_returns = λ flow plan next a o z t u rs. run a o z t u rs }
