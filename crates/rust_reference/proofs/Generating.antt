-- The generator: the Rust's loop gives the first cause of document 01's rows, or all packets.
use Rattle.std.proofs.Common.{◌≡◌, ℕ, zero, suc, ◌+◌, ◌*◌, ◌<◌, ◌≤◌, Bool, true, false, eqb, ltb, leb, List, [], ◌∷◌, ◌++◌, length, drop, sym, refl, ap, ◌∙◌, subst, ap₂, inl, inr, append_assoc, append-nil, arith, ltb-false, ltb-true, le-ltb, lt-ltb, eqb-true, leb-false, leb-true}
use borrow.Author.Tests.{eqb-false}
use Rattle.error.specs.Outcome.{refused, gives}
use Rattle.field.specs.Field.{Bytes}
use Rattle.measurement.specs.Flow.{InRange}
use Rattle.measurement.specs.declared.InnerIpFlow.{InnerIpFlow}
use Rattle.measurement.specs.declared.MeasurementHeader.{MeasurementHeader}
use Rattle.measurement_packet.specs.Packet.{build_of}
use Rattle.plan.specs.Plan.{top, interval, interval_of, time_at, packet_at, packets_from, packets_of, causes_at, causes_from, Judged, first_plan_cause, judge_packets, judge_plan}
use Rattle.traffic.specs.Generate.{end_to_end, Generating, placing, generate_of}
use Rattle.plan.specs.declared.TrafficPlan.{TrafficPlan}
use Rattle.plan.proofs.Judged.{rate_zero, rate_high, rate_good, plan_refused, plan_too_many, plan_judged, plan_timed}
use Rattle.traffic.proofs.Answers.{placing_short, placing_fits, generate_refused}
use Rattle.plan.proofs.Rows.{refused_at, here, later, refuses}
use Rattle.traffic.proofs.Packets.{end_to_end_append}
use Rattle.rust_reference.specs.Claims.{NoneAdded, IntervalNs, Generate}
use Rattle.rust_reference.specs.Error as error
use Rattle.rust_reference.specs.Error.{DataplaneTestkitError, Result, Ok, Err, Overflow}
use Rattle.rust_reference.specs.Number.{error_number, outcome_by, outcome_of}
use Rattle.rust_reference.specs.Answers.{rust_flow, vecs, headers_of, packets_in_buffer, told_generating}
use Rattle.rust_reference.specs.Traffic.{GeneratedPacket, Generated, attempted, checked, interval_ns, for_offset, generate}
use Rattle.rust_reference.proofs.Branches.{unless, AllOk, all, none}
use Rattle.rust_reference.proofs.Building.{vec_is}
use Rattle.rust_reference.proofs.Told.{error_told, told_as}

interval_is : (plan : TrafficPlan) → outcome_of (interval_ns plan) ≡ interval_of plan.target_rate_pps
unfolding interval_ns
interval_is plan =
    let rate = plan.target_rate_pps in
    unless (λ x. x) (eqb rate 0) _ _ _ (λ e. rate_zero rate (eqb-true rate 0 e))
    (λ e. unless (λ x. x) (eqb (interval rate) 0) _ _ _ (λ f. rate_high rate (eqb-false rate 0 e) (eqb-true (interval rate) 0 f))
    (λ f. rate_good rate (eqb-false rate 0 e) (eqb-false (interval rate) 0 f)))

pub interval_ns_lem : IntervalNs
interval_ns_lem plan = told_as (λ x. x) (interval_ns plan) (interval_is plan)

-- a packet without its bytes, and the Rust's answer as a judgement
abbrev header_of : GeneratedPacket → MeasurementHeader
header_of p = record { sequence = p.sequence; send_timestamp_ns = p.send_timestamp_ns }

abbrev judged_of : Generated → Judged
judged_of g = record { outcome = outcome_by headers_of g.result; next = g.next_sequence }

headers_append : (a b : List GeneratedPacket) → headers_of (a ++ b) ≡ headers_of a ++ headers_of b
headers_append [] b = refl
headers_append (p ∷ a) b = ap (λ (l : List MeasurementHeader). header_of p ∷ l) (headers_append a b)

vecs_append : (a b : List GeneratedPacket) → vecs (a ++ b) ≡ vecs a ++ vecs b
vecs_append [] b = refl
vecs_append (p ∷ a) b = ap (λ (l : List ℕ). p.tpdu ++ l) (vecs_append a b) ∙ sym (append_assoc p.tpdu (vecs a) (vecs b))

-- a number that fits, and one that does not
checked_fits : (n : ℕ) (e : DataplaneTestkitError) → leb n top ≡ true → checked n e ≡ Ok n
unfolding checked
checked_fits n e h = rw (h, checked)

checked_over : (n : ℕ) (e : DataplaneTestkitError) → leb n top ≡ false → checked n e ≡ Err e
unfolding checked
checked_over n e h = rw (h, checked)

module _ (flow : InnerIpFlow) (plan : TrafficPlan) (p : Bytes flow.src) (q : Bytes flow.dst) where
  abbrev i : ℕ
  i = interval plan.target_rate_pps

  abbrev first : ℕ
  first = plan.first_send_timestamp_ns

  abbrev packet : ℕ → ℕ → GeneratedPacket
  packet s k = record { sequence = s; send_timestamp_ns = first + k * i; tpdu = build_of flow s (first + k * i) }

  -- the ways of one turn
  module _ (n k s : ℕ) (acc : List GeneratedPacket) where
    abbrev turn : Generated
    turn = for_offset (suc n) k (rust_flow flow) plan i s acc

    turn_sequence : leb (s + 1) top ≡ false → turn ≡ record { result = Err (Overflow error.sequence); next_sequence = s }
    unfolding for_offset
    turn_sequence a = rw (checked_over (s + 1) (Overflow error.sequence) a)

    turn_product : leb (s + 1) top ≡ true → leb (k * i) top ≡ false → turn ≡ record { result = Err (Overflow error.send_timestamp_ns); next_sequence = s + 1 }
    unfolding for_offset
    turn_product a b = rw (checked_fits (s + 1) (Overflow error.sequence) a, checked_over (k * i) (Overflow error.send_timestamp_ns) b)

    turn_time : leb (s + 1) top ≡ true → leb (k * i) top ≡ true → leb (first + k * i) top ≡ false
        → turn ≡ record { result = Err (Overflow error.send_timestamp_ns); next_sequence = s + 1 }
    unfolding for_offset
    turn_time a b c =
        rw (checked_fits (s + 1) (Overflow error.sequence) a, checked_fits (k * i) (Overflow error.send_timestamp_ns) b, checked_over (first + k * i) (Overflow error.send_timestamp_ns) c)

    turn_on : leb (s + 1) top ≡ true → leb (k * i) top ≡ true → leb (first + k * i) top ≡ true
        → turn ≡ for_offset n (suc k) (rust_flow flow) plan i (s + 1) (acc ++ packet s k ∷ [])
    unfolding for_offset
    turn_on a b c =
        rw (checked_fits (s + 1) (Overflow error.sequence) a, checked_fits (k * i) (Overflow error.send_timestamp_ns) b, checked_fits (first + k * i) (Overflow error.send_timestamp_ns) c, vec_is flow s (first + k * i) p q)

  -- what the loop gives: a judgement, and bytes that are built from it
  record Comes (g : Generated) (j : Judged) : Type 0 where
    judged : judged_of g ≡ j
    built : AllOk (λ packets. vecs packets ≡ end_to_end flow (headers_of packets)) g.result

  module _ (next : ℕ) where
    abbrev given : ℕ → ℕ → ℕ → List GeneratedPacket → Judged
    given n k s acc = record { outcome = gives (headers_of acc ++ packets_from plan next n k); next = s + n }

    abbrev judgement : ℕ → ℕ → ℕ → List GeneratedPacket → Judged
    judgement n k s acc = first_plan_cause (causes_from plan next n k) (given n k s acc)

    over_sequence : (n k s : ℕ) (o : Judged) → s ≡ next + k → leb (s + 1) top ≡ false → refused_at 19 s ≡ first_plan_cause (causes_from plan next (suc n) k) o
    unfolding causes_from causes_at
    over_sequence n k s o e a = rw e (refuses o (here (lt-ltb top (next + k + 1) (omega (arith, leb-false (s + 1) top a)))))

    over_time : (n k s : ℕ) (o : Judged) → s ≡ next + k → leb (s + 1) top ≡ true → top < first + k * i
        → refused_at 20 (s + 1) ≡ first_plan_cause (causes_from plan next (suc n) k) o
    unfolding causes_from causes_at
    over_time n k s o e a b =
        rw e (refuses o (later (le-ltb top (next + k + 1) (omega (arith, leb-true (s + 1) top a))) (here (lt-ltb top (first + k * i) b))))

    in_both : (n k s : ℕ) (o : Judged) → s ≡ next + k → leb (s + 1) top ≡ true → first + k * i ≤ top
        → first_plan_cause (causes_from plan next n (suc k)) o ≡ first_plan_cause (causes_from plan next (suc n) k) o
    unfolding causes_from causes_at first_plan_cause
    in_both n k s o e a b = rw (le-ltb top (next + k + 1) (omega (arith, leb-true (s + 1) top a)), le-ltb top (first + k * i) b)

    -- one packet more
    pushed : (n k s : ℕ) (acc : List GeneratedPacket) → s ≡ next + k → given n (suc k) (s + 1) (acc ++ packet s k ∷ []) ≡ given (suc n) k s acc
    unfolding packets_from
    pushed n k s acc e =
        let rest = packets_from plan next n (suc k) in
        let head : header_of (packet s k) ≡ packet_at plan next k = ap (λ (m : ℕ). record { sequence = m; send_timestamp_ns = time_at plan k }) e in
        ap₂ (λ (l : List MeasurementHeader) (m : ℕ). record { outcome = gives l; next = m })
        (ap (λ (l : List MeasurementHeader). l ++ rest) (headers_append acc (packet s k ∷ [])) ∙ append_assoc (headers_of acc) (header_of (packet s k) ∷ []) rest
        ∙ ap (λ (h : MeasurementHeader). headers_of acc ++ h ∷ rest) head)
        (omega arith)

    pushed_bytes : (k s : ℕ) (acc : List GeneratedPacket) → vecs acc ≡ end_to_end flow (headers_of acc)
        → vecs (acc ++ packet s k ∷ []) ≡ end_to_end flow (headers_of (acc ++ packet s k ∷ []))
    unfolding end_to_end
    pushed_bytes k s acc e =
        vecs_append acc (packet s k ∷ []) ∙ ap (λ (l : List ℕ). l ++ ((packet s k).tpdu ++ [])) e
        ∙ sym (end_to_end_append flow (headers_of acc) (header_of (packet s k) ∷ [])) ∙ ap (end_to_end flow) (sym (headers_append acc (packet s k ∷ [])))

    loop : (n k s : ℕ) (acc : List GeneratedPacket) → s ≡ next + k → vecs acc ≡ end_to_end flow (headers_of acc)
        → Comes (for_offset n k (rust_flow flow) plan i s acc) (judgement n k s acc)
    unfolding for_offset causes_from first_plan_cause packets_from
    loop zero k s acc e v = record {
      judged = ap₂ (λ (l : List MeasurementHeader) (m : ℕ). record { outcome = gives l; next = m }) (sym (append-nil (headers_of acc))) (omega arith);
      built = all v;
    }
    loop (suc n) k s acc e v =
        by (leb (s + 1) top) refl (leb (k * i) top) refl (leb (first + k * i) top) refl
        (loop n (suc k) (s + 1) (acc ++ packet s k ∷ []) (omega arith) (pushed_bytes k s acc v))
      where
        goal : Type 0
        goal = Comes (for_offset (suc n) k (rust_flow flow) plan i s acc) (judgement (suc n) k s acc)

        at : (g : Generated) → turn n k s acc ≡ g → judged_of g ≡ judgement (suc n) k s acc
            → AllOk (λ packets. vecs packets ≡ end_to_end flow (headers_of packets)) g.result → goal
        at g t j b = subst (λ (x : Generated). Comes x (judgement (suc n) k s acc)) (sym t) (record { judged = j; built = b })

        by : (a : Bool) → leb (s + 1) top ≡ a → (b : Bool) → leb (k * i) top ≡ b → (c : Bool) → leb (first + k * i) top ≡ c
            → Comes (for_offset n (suc k) (rust_flow flow) plan i (s + 1) (acc ++ packet s k ∷ [])) (judgement n (suc k) (s + 1) (acc ++ packet s k ∷ [])) → goal
        by false a b' b c' c on = at _ (turn_sequence n k s acc a) (over_sequence n k s (given (suc n) k s acc) e a) none
        by true a false b c' c on =
            at _ (turn_product n k s acc a b) (over_time n k s (given (suc n) k s acc) e a (omega (arith, leb-false (k * i) top b))) none
        by true a true b false c on = at _ (turn_time n k s acc a b c) (over_time n k s (given (suc n) k s acc) e a (leb-false (first + k * i) top c)) none
        by true a true b true c on =
            at _ (turn_on n k s acc a b c)
            (on.judged ∙ ap (λ (o : Judged). first_plan_cause (causes_from plan next n (suc k)) o) (pushed n k s acc e)
            ∙ in_both n k s (given (suc n) k s acc) e a (leb-true (first + k * i) top c))
            on.built

-- what a judgement leaves in a buffer: `generate_of`, of any judgement
placed : InnerIpFlow → ℕ → List ℕ → Judged → Generating
placed flow next buffer j =
    elim j.outcome [
      | refused n ↦ record { outcome = refused n; next = j.next; buffer = buffer }
      | gives packets ↦ placing (end_to_end flow packets) next j.next buffer
    ]

-- what the claim asks of the Rust's answer
abbrev Generates : InnerIpFlow → TrafficPlan → ℕ → List ℕ → Generated → Type 0
Generates flow plan next buffer g =
    (packets_in_buffer g.result g.next_sequence buffer ≡ generate_of flow plan next buffer) × (outcome_by headers_of g.result ≡ (judge_plan plan next).outcome)

module _ (flow : InnerIpFlow) (next : ℕ) (buffer : List ℕ) where
  fits : (bytes : List ℕ) (after : ℕ) → NoneAdded (placing bytes next after buffer).outcome
      → record { outcome = gives (length bytes); next = after; buffer = bytes ++ drop (length bytes) buffer } ≡ placing bytes next after buffer
  fits bytes after added = by (ltb (length buffer) (length bytes)) refl
    where
      by : (t : Bool) → ltb (length buffer) (length bytes) ≡ t
          → record { outcome = gives (length bytes); next = after; buffer = bytes ++ drop (length bytes) buffer } ≡ placing bytes next after buffer
      by true e = absurd (added 15 (inl refl) (sym (ap (λ (g : Generating). g.outcome) (placing_short bytes next after buffer (ltb-true (length buffer) (length bytes) e)))))
      by false e = placing_fits bytes next after buffer (ltb-false (length buffer) (length bytes) e)

  in_buffer_lem : (r : Result (List GeneratedPacket)) (after : ℕ) → AllOk (λ packets. vecs packets ≡ end_to_end flow (headers_of packets)) r
      → NoneAdded (placed flow next buffer (judged_of (record { result = r; next_sequence = after }))).outcome
      → packets_in_buffer r after buffer ≡ placed flow next buffer (judged_of (record { result = r; next_sequence = after }))
  unfolding placed
  in_buffer_lem (Ok packets) after (all e) added = rw e (fits (end_to_end flow (headers_of packets)) after added)
  in_buffer_lem (Err x) after none added = refl

  -- where the judgement is the plan's
  as_judged : (plan : TrafficPlan) (g : Generated) → judged_of g ≡ judge_plan plan next → AllOk (λ packets. vecs packets ≡ end_to_end flow (headers_of packets)) g.result
      → NoneAdded (generate_of flow plan next buffer).outcome → Generates flow plan next buffer g
  unfolding generate_of placed
  as_judged plan g e b added =
      let whole : placed flow next buffer (judged_of g) ≡ generate_of flow plan next buffer = ap (placed flow next buffer) e in
      (in_buffer_lem g.result g.next_sequence b (λ n a f. added n a (ap (λ (x : Generating). x.outcome) (sym whole) ∙ f)) ∙ whole, ap (λ (j : Judged). j.outcome) e)

generated_is : (flow : InnerIpFlow) (plan : TrafficPlan) (next : ℕ) → InRange flow next plan.first_send_timestamp_ns → (buffer : List ℕ)
    → NoneAdded (generate_of flow plan next buffer).outcome → Generates flow plan next buffer (generate next (rust_flow flow) plan)
unfolding generate
generated_is flow plan next range buffer added = of (interval_ns plan) (interval_is plan)
  where
    answer : Result ℕ → Generated
    answer r = attempted r next (λ j. for_offset plan.packet_count 0 (rust_flow flow) plan j next [])

    looped : (j : ℕ) → gives j ≡ interval_of plan.target_rate_pps → plan.packet_count ≤ 2048
        → Generates flow plan next buffer (answer (Ok j))
    looped j e few =
        let same : j ≡ interval plan.target_rate_pps = (plan_timed plan next j e few).is in
        let comes = loop flow plan range.source range.destination next plan.packet_count 0 next [] (omega arith) (unfold end_to_end in refl) in
        rw same
        (as_judged flow next buffer plan (for_offset plan.packet_count 0 (rust_flow flow) plan (interval plan.target_rate_pps) next [])
        (comes.judged ∙ (unfold judge_packets packets_of in plan_judged plan next j e few)) comes.built added)

    of : (r : Result ℕ) → outcome_of r ≡ interval_of plan.target_rate_pps
        → Generates flow plan next buffer (answer r)
    of (Err x) e = as_judged flow next buffer plan (record { result = Err x; next_sequence = next }) (plan_refused plan next (error_number x) e) none added
    of (Ok j) e = by (ltb 2048 plan.packet_count) refl
      where
        by : (t : Bool) → ltb 2048 plan.packet_count ≡ t
            → Generates flow plan next buffer (answer (Ok j))
        by true f =
            let judged = plan_too_many plan next j e (ltb-true 2048 plan.packet_count f) in
            absurd (added 18 (inr (inl refl)) (sym (ap (λ (x : Generating). x.outcome) (generate_refused flow plan next buffer 18 (ap (λ (x : Judged). x.outcome) (sym judged))))))
        by false f = looped j e (ltb-false 2048 plan.packet_count f)

-- what the Rust leaves in a buffer is told as it is
packets_told : (r : Result (List GeneratedPacket)) (next : ℕ) (buffer : List ℕ) → packets_in_buffer r next buffer ≡ told_generating (packets_in_buffer r next buffer)
packets_told (Ok packets) next buffer = refl
packets_told (Err x) next buffer = ap (λ (n : ℕ). record { outcome = refused n; next = next; buffer = buffer }) (error_told x)

pub generated : Generate
generated flow plan next range buffer added =
    let g = generated_is flow plan next range buffer added in
    let rust : Generated = generate next (rust_flow flow) plan in
    (packets_told rust.result rust.next_sequence buffer ∙ ap told_generating g.0, told_as headers_of rust.result g.1)
