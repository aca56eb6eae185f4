-- The eight cases: by computation, call by call.
use Prim.Native.Nat.{ℕ, ◌<◌, ◌^◌}
use native.Mathlib.Omega.{arith}
use mathlib.Core.Path.{◌≡◌, refl, ap, ◌∙◌}
use mathlib.Core.List.{List, [], ◌∷◌}
use Rattle.error.specs.Outcome.{Outcome, refused, gives, first_cause}
use Rattle.checksum.specs.Sum.{sum_of, folding, fold_of, checksum_of}
use Rattle.evidence.specs.Budget.{zero_loss}
use Rattle.measurement.specs.Flow.{address_length, address, padded, InRange}
use Rattle.measurement.specs.Pseudo.{pseudo_header}
use Rattle.measurement.specs.Probe.{measurement_magic, probe}
use Rattle.measurement.specs.declared.DecodedTpdu.{DecodedTpdu}
use Rattle.measurement_packet.specs.Packet.{ipv4, ipv4_header, ipv6, ip_header, udp_segment, nonzero, udp, build_of}
use Rattle.measurement_reading.specs.Read.{payload, length_wrong, covered, sum_wrong, probe_causes, udp_causes, read_probe, read_udp, ipv6_causes, read_ipv6, tpdu_causes, read_of}
use Rattle.measurement_damage.specs.Echo.{echo_of}
use Rattle.plan.proofs.Claims.{intervals}
use Rattle.gtpu.specs.Element.{elements_of}
use Rattle.gtpu.specs.Claims.{EmptyList}
use Rattle.gtpu.proofs.Claims.{empty_list}
use Rattle.observer.specs.Observer.{Observer, capacity, rows, with_rows}
use Rattle.observer.specs.Judge.{well_formed, judged, after_reading}
use Rattle.columns.specs.Place.{holds}
use Rattle.observer.specs.Sending.{entered, sending_causes, record_sent}
use Rattle.observer.specs.Returning.{return_causes, after_return, record_return}
use Rattle.rows.specs.Columns.{columns_of}
use Rattle.observer.specs.Answer.{observer_of}
use Rattle.return_calls.specs.Returns.{sequence_read, record_received_tpdu}
use Rattle.report.specs.Report.{report_of, reporting}
use Rattle.tally.specs.Cases.{Figure, number, figures, ipv4_flow, sends, fresh_observer, sent_five, returns, longest, EightCases}
use Rattle.measurement_damage.proofs.Claims.{reads_back_alone}

-- ---- what is sent, built and read

range4 : (q t : ℕ) → q < 2 ^ 64 → t < 2 ^ 64 → InRange ipv4_flow q t
range4 q t g h = record {
  source = omega arith;
  destination = omega arith;
  source_length = refl;
  destination_length = refl;
  source_port = omega arith;
  destination_port = omega arith;
  sequence = g;
  time = h;
}

-- the observer of five rows, some of them used: sequences, send times, latencies, marks, arrival times
abbrev observed : List ℕ → List ℕ → List ℕ → List ℕ → List ℕ → ℕ → Observer
observed qs ts ls ms rs used =
    observer_of (columns_of qs ts ls ms rs) (record { used = used; duplicate_packets = 0; out_of_order_packets = 0; gtpu_error_indications = 0 })

abbrev one : Observer
one = observed (1 ∷ 9 ∷ 9 ∷ 9 ∷ 9 ∷ []) (0 ∷ 9 ∷ 9 ∷ 9 ∷ 9 ∷ []) (0 ∷ 9 ∷ 9 ∷ 9 ∷ 9 ∷ []) (0 ∷ 9 ∷ 9 ∷ 9 ∷ 9 ∷ []) (0 ∷ 9 ∷ 9 ∷ 9 ∷ 9 ∷ []) 1

abbrev two : Observer
two = observed (1 ∷ 2 ∷ 9 ∷ 9 ∷ 9 ∷ []) (0 ∷ 10 ∷ 9 ∷ 9 ∷ 9 ∷ []) (0 ∷ 0 ∷ 9 ∷ 9 ∷ 9 ∷ []) (0 ∷ 0 ∷ 9 ∷ 9 ∷ 9 ∷ []) (0 ∷ 0 ∷ 9 ∷ 9 ∷ 9 ∷ []) 2

abbrev three : Observer
three = observed (1 ∷ 2 ∷ 3 ∷ 9 ∷ 9 ∷ []) (0 ∷ 10 ∷ 20 ∷ 9 ∷ 9 ∷ []) (0 ∷ 0 ∷ 0 ∷ 9 ∷ 9 ∷ []) (0 ∷ 0 ∷ 0 ∷ 9 ∷ 9 ∷ []) (0 ∷ 0 ∷ 0 ∷ 9 ∷ 9 ∷ []) 3

abbrev four : Observer
four = observed (1 ∷ 2 ∷ 3 ∷ 4 ∷ 9 ∷ []) (0 ∷ 10 ∷ 20 ∷ 30 ∷ 9 ∷ []) (0 ∷ 0 ∷ 0 ∷ 0 ∷ 9 ∷ []) (0 ∷ 0 ∷ 0 ∷ 0 ∷ 9 ∷ []) (0 ∷ 0 ∷ 0 ∷ 0 ∷ 9 ∷ []) 4

abbrev five : List ℕ → List ℕ → List ℕ → Observer
five ls ms rs = observed (1 ∷ 2 ∷ 3 ∷ 4 ∷ 5 ∷ []) (0 ∷ 10 ∷ 20 ∷ 30 ∷ 40 ∷ []) ls ms rs 5

abbrev sent : Observer
sent = five (0 ∷ 0 ∷ 0 ∷ 0 ∷ 0 ∷ []) (0 ∷ 0 ∷ 0 ∷ 0 ∷ 0 ∷ []) (0 ∷ 0 ∷ 0 ∷ 0 ∷ 0 ∷ [])

abbrev with2 : Observer
with2 = five (0 ∷ 40 ∷ 0 ∷ 0 ∷ 0 ∷ []) (0 ∷ 1 ∷ 0 ∷ 0 ∷ 0 ∷ []) (0 ∷ 50 ∷ 0 ∷ 0 ∷ 0 ∷ [])

abbrev with2_and5 : Observer
with2_and5 = five (0 ∷ 40 ∷ 0 ∷ 0 ∷ 20 ∷ []) (0 ∷ 1 ∷ 0 ∷ 0 ∷ 1 ∷ []) (0 ∷ 50 ∷ 0 ∷ 0 ∷ 60 ∷ [])

sent_one : (record_sent fresh_observer 1 0).observer ≡ one
unfolding first_cause capacity rows with_rows well_formed judged holds entered sending_causes record_sent
sent_one = refl

sent_two : (record_sent one 2 10).observer ≡ two
unfolding first_cause capacity rows with_rows well_formed judged holds entered sending_causes record_sent
sent_two = refl

sent_three : (record_sent two 3 20).observer ≡ three
unfolding first_cause capacity rows with_rows well_formed judged holds entered sending_causes record_sent
sent_three = refl

sent_four : (record_sent three 4 30).observer ≡ four
unfolding first_cause capacity rows with_rows well_formed judged holds entered sending_causes record_sent
sent_four = refl

sent_five_lem : (record_sent four 5 40).observer ≡ sent
unfolding first_cause capacity rows with_rows well_formed judged holds entered sending_causes record_sent
sent_five_lem = refl

all_sent : sent_five ≡ sent
all_sent =
    ap (λ (o : Observer). sends o (2 ∷ 3 ∷ 4 ∷ 5 ∷ []) (10 ∷ 20 ∷ 30 ∷ 40 ∷ [])) sent_one
    ∙ ap (λ (o : Observer). sends o (3 ∷ 4 ∷ 5 ∷ []) (20 ∷ 30 ∷ 40 ∷ [])) sent_two
    ∙ ap (λ (o : Observer). sends o (4 ∷ 5 ∷ []) (30 ∷ 40 ∷ [])) sent_three
    ∙ ap (λ (o : Observer). sends o (5 ∷ []) (40 ∷ [])) sent_four
    ∙ sent_five_lem

-- a built packet is read as its sequence
read_as : (o : Observer) (q sent_at time : ℕ) → q < 2 ^ 64 → sent_at < 2 ^ 64 → returns o q sent_at time ≡ (record_return o time q).observer
unfolding record_received_tpdu sequence_read
read_as o q sent_at time g h =
    ap (λ (x : Outcome DecodedTpdu). (after_reading o (elim x as (λ (y : Outcome DecodedTpdu). Outcome ℕ) [ refused n ↦ refused n | gives t ↦ gives t.measurement.sequence ]) (record_return o time)).observer)
    (reads_back_alone ipv4_flow q sent_at (range4 q sent_at g h))

return_2 : (record_return sent 50 2).observer ≡ with2
unfolding first_cause capacity rows with_rows well_formed judged holds return_causes after_return record_return
return_2 = refl

return_5 : (record_return with2 60 5).observer ≡ with2_and5
unfolding first_cause capacity rows with_rows well_formed judged holds return_causes after_return record_return
return_5 = refl

returned_2 : returns sent_five 2 10 50 ≡ with2
returned_2 = ap (λ (o : Observer). returns o 2 10 50) all_sent ∙ read_as sent 2 10 50 (omega arith) (omega arith) ∙ return_2

returned_5 : returns (returns sent_five 2 10 50) 5 40 60 ≡ with2_and5
returned_5 = ap (λ (o : Observer). returns o 5 40 60) returned_2 ∙ read_as with2 5 40 60 (omega arith) (omega arith) ∙ return_5

-- ---- the reports

module _ (start end : ℕ) where
  case_5 : figures longest (reporting with2_and5 start end zero_loss) ≡ gives (number 2 ∷ number 20 ∷ [])
  unfolding first_cause capacity rows well_formed judged report_of reporting
  case_5 = refl

  case_6 : figures longest (reporting with2 start 100 zero_loss) ≡ gives (number 3 ∷ number 80 ∷ [])
  unfolding first_cause capacity rows well_formed judged report_of reporting
  case_6 = refl

  case_6_early : figures longest (reporting with2 start 15 zero_loss) ≡ gives (number 3 ∷ number 10 ∷ [])
  unfolding first_cause capacity rows well_formed judged report_of reporting
  case_6_early = refl

  abbrev longest_of : ℕ → Observer → Outcome (List Figure)
  longest_of until o = figures longest (reporting o start until zero_loss)

-- the rows of case 4
case_4 : {o x : Outcome ℕ} → o ≡ x → figures (λ i. number i ∷ []) o ≡ figures (λ i. number i ∷ []) x
case_4 e = ap (figures (λ i. number i ∷ [])) e

pub eight_cases : EightCases
unfolding EmptyList first_cause sum_of folding fold_of checksum_of address_length address padded ipv4 ipv4_header ipv6 ip_header pseudo_header measurement_magic probe udp_segment nonzero udp build_of payload length_wrong covered sum_wrong probe_causes udp_causes read_probe read_udp ipv6_causes read_ipv6 tpdu_causes read_of echo_of capacity rows well_formed judged report_of reporting
eight_cases start end =
    let five = ap (longest_of start end end) returned_5 ∙ case_5 start end in
    let six = ap (longest_of start end 100) returned_2 ∙ case_6 start end in
    let six_early = ap (longest_of start end 15) returned_2 ∙ case_6_early start end in
    let eight : figures (λ u. []) (elements_of []) ≡ refused 28 = ap (figures (λ u. [])) empty_list in
    (refl, (refl, (refl, (refl, (case_4 intervals.one, (case_4 intervals.too_fast, (case_4 intervals.third, (five, (six, (six_early, (refl, (eight, tt))))))))))))
