-- The report: the Rust's loops over its maps give document 01's numbers over the rows.
use Rattle.std.proofs.Common.{◌≡◌, ℕ, suc, ◌+◌, ◌-◌, ◌*◌, ◌/◌, ◌%◌, ◌<◌, ◌≤◌, min, max, Bool, true, false, eqb, ltb, List, [], ◌∷◌, ◌++◌, map, length, sym, refl, ap, ◌∙◌, subst, ap₂, append_assoc, le_trans, arith, lit≤, ltb-false, ltb-true, eq-eqb, ne_eqb}
use native.Mathlib.Nat.{div-le_of_le-mul, min-eq_left}
use lib.ListN.{length-map}
use Rattle.error.specs.Outcome.{gives}
use Rattle.evidence.specs.Latency.{latency_for}
use Rattle.std.specs.Prelude as code
use Rattle.evidence.specs.declared.LatencySummary.{LatencySummary}
use Rattle.evidence.specs.declared.PacketContinuityBudget.{PacketContinuityBudget}
use Rattle.evidence.specs.declared.PacketContinuityReport.{PacketContinuityReport}
use Rattle.observer.specs.Observer.{Row, Observer, rows, sequences_of}
use Rattle.columns.specs.Columns.{rising}
use Rattle.observer.proofs.Calls.{judged_well}
use Rattle.observer.proofs.Judging.{well}
use Rattle.observer.proofs.Keeping.{well_rows}
use Rattle.columns.proofs.Search.{rising_tail}
use Rattle.report.specs.Report as leaf
use Rattle.report.specs.Report.{latencies_of, total, greatest, least, runs, within_budget, reporting}
use Rattle.report.specs.Loops.{longest_in, outage_in, gap_of, since_of}
use Rattle.report.proofs.Runs.{longest_of_lem, outage_of}
use Rattle.rust_reference.specs.Compared.{told}
use Rattle.rust_reference.specs.Claims.{Report}
use Rattle.rust_reference.specs.Answers.{latency_of, report_of}
use Rattle.rust_reference.specs.Values.{u64_max, saturating_add, saturating_add_u128}
use Rattle.rust_reference.specs.Map.{Some, Entry, keys, values, contains}
use Rattle.rust_reference.specs.Sheet.{sent_of, received_of, ValuesFit, Same}
use Rattle.rust_reference.specs.Traffic.{ContinuityObserver, for_latency, latency_summary, GapSummary, for_sent, gap_summary, report}
use Rattle.rust_reference.proofs.Maps.{Below, Above, rising_above, contains_keys, contains_found}

-- ---- latencies

abbrev Fit : List ℕ → Type 0
Fit [] = Unit {0}
Fit (x ∷ xs) = (x ≤ u64_max) × Fit xs

values_fit : (m : List Entry) → ValuesFit m → Fit (values m)
values_fit [] f = tt
values_fit (e ∷ m) f = (f.0, values_fit m f.1)

total_bound : (xs : List ℕ) → Fit xs → total xs ≤ length xs * u64_max
total_bound [] f = omega arith
total_bound (x ∷ xs) f = omega (arith, f.0, total_bound xs f.1)

least_bound : (x : ℕ) (xs : List ℕ) → x ≤ u64_max → least x xs ≤ u64_max
least_bound x [] h = h
least_bound x (y ∷ ys) h = omega arith

-- the least so far
abbrev lows : ℕ → List ℕ → ℕ
lows low [] = low
lows low (x ∷ xs) = lows (min low x) xs

lows_is : (low x : ℕ) (xs : List ℕ) → lows low (x ∷ xs) ≡ min low (least x xs)
lows_is low x [] = refl
lows_is low x (y ∷ ys) = lows_is (min low x) y ys ∙ omega arith

-- 2,048 u64s stay below the top of a u128
below_top : (a b : ℕ) → a + b ≤ 37778931862957161707520 → saturating_add_u128 a b ≡ a + b
unfolding saturating_add_u128
below_top a b h = min-eq_left (le_trans h (lit≤ tt))

-- the loop, where neither the sum nor the count reaches the top of a u128
latency_loop : (xs : List ℕ) (low high sum count : ℕ) → Fit xs → sum ≤ count * u64_max → count + length xs ≤ 2048
    → for_latency xs low high sum count
    ≡ record { min_ns = lows low xs; max_ns = max high (greatest xs); avg_ns = (sum + total xs) / (count + length xs) % 18446744073709551616 }
unfolding for_latency
latency_loop [] low high sum count f h k =
    let a : high ≡ max high 0 = omega arith in
    let b : sum ≡ sum + 0 = omega arith in
    let c : count ≡ count + 0 = omega arith in
    ap₂ (λ (m s : ℕ). record { min_ns = low; max_ns = m; avg_ns = s / count % 18446744073709551616 }) a b
    ∙ ap (λ (n : ℕ). record { min_ns = low; max_ns = max high 0; avg_ns = (sum + 0) / n % 18446744073709551616 }) c
latency_loop (x ∷ xs) low high sum count f h k =
    let a : saturating_add_u128 sum x ≡ sum + x = below_top sum x (omega (arith, f.0)) in
    let b : saturating_add_u128 count 1 ≡ count + 1 = below_top count 1 (omega arith) in
    let c : max (max high x) (greatest xs) ≡ max high (greatest (x ∷ xs)) = omega arith in
    let d : sum + x + total xs ≡ sum + total (x ∷ xs) = omega arith in
    let e : count + 1 + length xs ≡ count + length (x ∷ xs) = omega arith in
    rw (a, b)
    (latency_loop xs (min low x) (max high x) (sum + x) (count + 1) f.1 (omega (arith, f.0)) (omega arith)
    ∙ ap₂ (λ (m s : ℕ). record { min_ns = lows (min low x) xs; max_ns = m; avg_ns = s / (count + 1 + length xs) % 18446744073709551616 }) c d
    ∙ ap (λ (n : ℕ). record { min_ns = lows (min low x) xs; max_ns = max high (greatest (x ∷ xs)); avg_ns = (sum + total (x ∷ xs)) / n % 18446744073709551616 }) e)

-- a mean of u64s is a u64
mean_fits : (xs : List ℕ) → Fit xs → total xs / length xs ≤ u64_max
mean_fits xs f = div-le_of_le-mul (length xs) (total_bound xs f)

summary_is : (xs : List ℕ) → Fit xs → length xs ≤ 2048 → latency_of (latency_summary xs) ≡ latency_for (leaf.latency_of xs)
unfolding latency_summary
summary_is [] f h = refl
summary_is (x ∷ xs) f h =
    let low : lows u64_max (x ∷ xs) ≡ least x xs = lows_is u64_max x xs ∙ omega (arith, least_bound x xs f.0) in
    let high : max 0 (greatest (x ∷ xs)) ≡ greatest (x ∷ xs) = omega arith in
    let sum : 0 + total (x ∷ xs) ≡ total (x ∷ xs) = omega arith in
    let count : 0 + length (x ∷ xs) ≡ length (x ∷ xs) = omega arith in
    let mean : total (x ∷ xs) / length (x ∷ xs) % 18446744073709551616 ≡ total (x ∷ xs) / length (x ∷ xs) = small (mean_fits (x ∷ xs) f) in
    ap (λ (s : LatencySummary). latency_of (Some s))
    (latency_loop (x ∷ xs) u64_max 0 0 0 f (omega arith) (omega arith)
    ∙ ap₂ (λ (l m : ℕ). record { min_ns = l; max_ns = m; avg_ns = (0 + total (x ∷ xs)) / (0 + length (x ∷ xs)) % 18446744073709551616 }) low high
    ∙ ap₂ (λ (s n : ℕ). record { min_ns = least x xs; max_ns = greatest (x ∷ xs); avg_ns = s / n % 18446744073709551616 }) sum count
    ∙ ap (λ (a : ℕ). record { min_ns = least x xs; max_ns = greatest (x ∷ xs); avg_ns = a }) mean)
  where
    small : {n : ℕ} → n ≤ u64_max → n % 18446744073709551616 ≡ n
    small h = omega arith

-- what was received are the latencies of the marked rows
values_are : (rs : List Row) → values (received_of rs) ≡ latencies_of rs
values_are [] = refl
values_are (r ∷ rs) = by (eqb r.mark 1) (values_are rs)
  where
    by : (t : Bool) → values (received_of rs) ≡ latencies_of rs
        → values (elim t [ true ↦ record { key = r.sequence; value = r.latency } ∷ received_of rs | false ↦ received_of rs ])
        ≡ elim t [ true ↦ r.latency ∷ latencies_of rs | false ↦ latencies_of rs ]
    by true ih = ap (λ (l : List ℕ). r.latency ∷ l) ih
    by false ih = ih

pub sent_length : (rs : List Row) → length (sent_of rs) ≡ length rs
sent_length [] = refl
sent_length (r ∷ rs) = ap suc (sent_length rs)

few_latencies : (rs : List Row) → length (latencies_of rs) ≤ length rs
few_latencies [] = omega arith
few_latencies (r ∷ rs) = by (eqb r.mark 1) (few_latencies rs)
  where
    by : (t : Bool) → length (latencies_of rs) ≤ length rs → length {A = ℕ} (elim t [ true ↦ r.latency ∷ latencies_of rs | false ↦ latencies_of rs ]) ≤ suc (length rs)
    by true ih = omega arith
    by false ih = omega arith

-- ---- runs

abbrev marks : List Row → List ℕ
marks rs = map (λ r. r.mark) rs

abbrev sends : List Row → List ℕ
sends rs = map (λ r. r.send_timestamp_ns) rs

-- the set of received sequences has those of the marked rows
abbrev Agrees : List ℕ → List Row → Type 0
Agrees received [] = Unit {0}
Agrees received (r ∷ rs) = (contains r.sequence received ≡ eqb r.mark 1) × Agrees received rs

above_at : (q : ℕ) (before : List Row) (r : Row) (after : List Row) → Above q (before ++ r ∷ after) → q < r.sequence
above_at q [] r after a = a.0
above_at q (x ∷ before) r after a = above_at q before r after a.1

rising_split : (before : List Row) (r : Row) (after : List Row) → rising (sequences_of (before ++ r ∷ after)) ≡ true
    → Below r.sequence before × Above r.sequence after
rising_split [] r after e = (tt, rising_above r.sequence after e)
rising_split (x ∷ before) r after e =
    let up = rising_above x.sequence (before ++ r ∷ after) e in
    let rest = rising_split before r after (rising_tail x.sequence (sequences_of (before ++ r ∷ after)) e) in
    ((above_at x.sequence before r after up, rest.0), rest.1)

agrees : (before rest : List Row) → rising (sequences_of (before ++ rest)) ≡ true → Agrees (keys (received_of (before ++ rest))) rest
agrees before [] e = tt
agrees before (r ∷ rest) e =
    let cut = rising_split before r rest e in
    let next : before ++ r ∷ [] ++ rest ≡ before ++ r ∷ rest = append_assoc before (r ∷ []) rest in (
      contains_keys r.sequence (received_of (before ++ r ∷ rest)) ∙ contains_found r.sequence before r rest cut.0 refl cut.1,
      subst (λ (l : List Row). Agrees (keys (received_of l)) rest) next
          (agrees (before ++ r ∷ []) rest (ap (λ (l : List Row). rising (sequences_of l)) next ∙ e)),
    )

-- outside a run it does not matter when one began
since_free : (end a b : ℕ) (ts ms : List ℕ) → outage_in end 0 a ts ms ≡ outage_in end 0 b ts ms
since_free end a b [] ms = refl
since_free end a b (t ∷ ts) [] = refl
since_free end a b (t ∷ ts) (m ∷ ms) = refl

-- the loop, in and outside a run
gap_loop : (rs : List Row) (received : List ℕ) (end n since most long : ℕ) → Agrees received rs → n + length rs ≤ 2048
    → for_sent (sent_of rs) received end n since most long
    ≡ record { max_count = max most (longest_in n (marks rs)); max_duration = max long (outage_in end n since (sends rs) (marks rs)) }
unfolding for_sent
gap_loop [] received end n since most long g h = by (ltb 0 n) refl
  where
    by : (t : Bool) → ltb 0 n ≡ t
        → ◌≡◌ {A = GapSummary}
        (elim t [
          | true ↦ record { max_count = max most n; max_duration = max long (end - since) }
          | false ↦ record { max_count = most; max_duration = long }
        ])
        (record { max_count = max most n; max_duration = max long (gap_of n since end) })
    by true e = rw (ne_eqb n 0 (λ z. omega (arith, ltb-true 0 n e)), gap_of)
    by false e =
        let z : n ≡ 0 = omega (arith, ltb-false 0 n e) in
        rw z (ap₂ (λ (c d : ℕ). record { max_count = c; max_duration = d }) (omega arith) (omega arith))
gap_loop (r ∷ rs) received end n since most long g h =
    by (eqb r.mark 1) g.0 (ltb 0 n) refl
    (λ (n since most long : ℕ) (k : n + length rs ≤ 2048). gap_loop rs received end n since most long g.1 k)
  where
    going : ℕ → ℕ → ℕ → ℕ → GapSummary
    going n since most long = for_sent (sent_of rs) received end n since most long

    came : ℕ → ℕ → ℕ → ℕ → GapSummary
    came n since most long = record { max_count = max most (longest_in n (marks rs)); max_duration = max long (outage_in end n since (sends rs) (marks rs)) }

    by : (t : Bool) → contains r.sequence received ≡ t → (u : Bool) → ltb 0 n ≡ u
        → ((n since most long : ℕ) → n + length rs ≤ 2048 → going n since most long ≡ came n since most long)
        → for_sent (sent_of (r ∷ rs)) received end n since most long
        ≡ record {
          max_count = max most (elim t [ true ↦ max n (longest_in 0 (marks rs)) | false ↦ longest_in (suc n) (marks rs) ]);
          max_duration = max long (elim t [
            | true ↦ max (gap_of n since r.send_timestamp_ns) (outage_in end 0 0 (sends rs) (marks rs))
            | false ↦ outage_in end (suc n) (since_of n since r.send_timestamp_ns) (sends rs) (marks rs)
          ]);
        }
    by true e true f ih =
        let gap : gap_of n since r.send_timestamp_ns ≡ r.send_timestamp_ns - since = rw (ne_eqb n 0 (λ z. omega (arith, ltb-true 0 n f)), gap_of) in
        let free = since_free end since 0 (sends rs) (marks rs) in
        rw (e, f, for_sent)
        (ih 0 since (max most n) (max long (r.send_timestamp_ns - since)) (omega arith)
        ∙ ap₂ (λ (c d : ℕ). record { max_count = c; max_duration = d }) (omega arith) (omega (arith, gap, free)))
    by true e false f ih =
        let z : n ≡ 0 = omega (arith, ltb-false 0 n f) in
        let gap : gap_of n since r.send_timestamp_ns ≡ 0 = rw (eq-eqb n 0 z, gap_of) in
        let free = since_free end since 0 (sends rs) (marks rs) in
        let at : outage_in end n since (sends rs) (marks rs) ≡ outage_in end 0 since (sends rs) (marks rs) = ap (λ (k : ℕ). outage_in end k since (sends rs) (marks rs)) z in
        let run : longest_in n (marks rs) ≡ longest_in 0 (marks rs) = ap (λ (k : ℕ). longest_in k (marks rs)) z in
        rw (e, f, for_sent)
        (ih n since most long (omega arith)
        ∙ ap₂ (λ (c d : ℕ). record { max_count = c; max_duration = d }) (omega (arith, run)) (omega (arith, gap, free, at)))
    by false e u f ih =
        let one : saturating_add n 1 ≡ suc n = unfold saturating_add in omega arith in
        rw (e, for_sent) (rw one (ih (suc n) (since_of n since r.send_timestamp_ns) most long (omega arith)))

gap_of_lem : (rs : List Row) (end : ℕ) → Agrees (keys (received_of rs)) rs → length rs ≤ 2048
    → gap_summary (sent_of rs) (received_of rs) end
    ≡ record { max_count = greatest (map (λ x. x.packets) (runs end rs)); max_duration = greatest (map (λ x. x.duration) (runs end rs)) }
unfolding gap_summary
gap_of_lem [] end g few = refl
gap_of_lem (r ∷ rs) end g few =
    gap_loop (r ∷ rs) (keys (received_of (r ∷ rs))) end 0 0 0 0 g (omega arith)
    ∙ ap₂ (λ (c d : ℕ). record { max_count = c; max_duration = d }) (omega (arith, longest_of_lem end (r ∷ rs))) (omega (arith, outage_of end (r ∷ rs)))

-- ---- the whole report

module _ (rust : ContinuityObserver) (o : Observer) (same : Same rust o) (start end : ℕ) (budget : PacketContinuityBudget) where
  abbrev rs : List Row
  rs = rows o

  -- the report on these numbers
  abbrev on : ℕ → ℕ → ℕ → ℕ → code.Option LatencySummary → ℕ → ℕ → ℕ → PacketContinuityReport
  on sent received run outage latency duplicates late indications = record {
    window_start_ns = start;
    window_end_ns = end;
    sent_packets = sent;
    received_packets = received;
    lost_packets = sent - received;
    duplicate_packets = duplicates;
    out_of_order_packets = late;
    gtpu_error_indications = indications;
    max_consecutive_lost_packets = run;
    max_gap_duration_ns = outage;
    latency = latency;
    budget = budget;
    forwarding_proven = ltb 0 received;
    packet_continuity_proven = within_budget budget (sent - received) run outage indications;
  }

  few : length rs ≤ 2048
  few = let w = well o same.well in omega (arith, w.fronts.count, w.room.most)

  sent_is : length rust.sent ≡ length rs
  sent_is = ap length same.sent ∙ sent_length rs

  values_same : values rust.received ≡ latencies_of rs
  values_same = ap values same.received ∙ values_are rs

  received_is : length rust.received ≡ length (latencies_of rs)
  received_is = sym (length-map rust.received (λ e. e.value)) ∙ ap length values_same

  latency_is : latency_of (latency_summary (values rust.received)) ≡ latency_for (leaf.latency_of (latencies_of rs))
  latency_is =
      ap (λ (l : List ℕ). latency_of (latency_summary l)) values_same
      ∙ summary_is (latencies_of rs) (subst Fit values_same (values_fit rust.received same.latencies)) (omega (arith, few, few_latencies rs))

  gap_is : gap_summary rust.sent rust.received end
      ≡ record { max_count = greatest (map (λ x. x.packets) (runs end rs)); max_duration = greatest (map (λ x. x.duration) (runs end rs)) }
  gap_is =
      ap₂ (λ (m : List Entry) (l : List Entry). gap_summary m l end) same.sent same.received
      ∙ gap_of_lem rs end (agrees [] rs (well_rows o same.well).rises) few

  report_is : report_of (report rust start end budget) ≡ leaf.report_of rs o.counts start end budget
  unfolding report leaf.report_of
  report_is =
      λ i. on (sent_is i) (received_is i) (gap_is i).max_count (gap_is i).max_duration (latency_is i) (same.duplicates i) (same.out_of_order i) (same.indications i)

pub report_same : Report
unfolding reporting
report_same rust o same start end budget =
    ap (λ (r : PacketContinuityReport). gives r) (report_is rust o same start end budget)
    ∙ ap told (judged_well o (gives (leaf.report_of (rows o) o.counts start end budget)) same.well)
