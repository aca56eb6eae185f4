-- The examples of specs/Attained.antt: returns whose hop limit is turned on any of their legs, by the laws of reading and of echoes; and two
-- returns without an echo, by computation.
use Prim.Native.Nat.{ℕ, ◌<◌}
use native.Mathlib.Omega.{arith}
use mathlib.Core.Path.{◌≡◌, refl, sym, ap, ◌∙◌}
use mathlib.Core.Bool.{Bool, true, false, not, ◌||◌}
use mathlib.Core.List.{List, [], ◌∷◌, ◌++◌, map}
use lib.ListN.{length, take, drop, replicate}
use Rattle.error.specs.Outcome.{Outcome, gives, refused, first_cause}
use Rattle.field.specs.Field.{Bytes, same_bytes}
use Rattle.field.proofs.Fields.{bytes_append, bytes_drop, same_as_itself}
use Rattle.checksum.specs.Sum.{sum_of, folding, fold_of, checksum_of}
use Rattle.checksum.specs.Damage.{is_one, low_bits, bits, Turned}
use Rattle.checksum.proofs.Claims.{damage_is, clipped}
use Rattle.measurement.specs.Flow.{address_length, address, padded, reversed_of, InRange}
use Rattle.measurement.specs.Pseudo.{pseudo_header}
use Rattle.measurement.specs.Probe.{measurement_magic, probe}
use Rattle.measurement.specs.declared.DecodedTpdu.{DecodedTpdu}
use Rattle.measurement.specs.declared.InnerIpFlow.{InnerIpFlow}
use Rattle.measurement.specs.declared.IpVersion.TheVariants.{V6}
use Rattle.measurement_packet.specs.Packet.{ipv4, ipv4_header, ipv6, ip_header, udp_segment, nonzero, udp, build_of}
use Rattle.measurement_reading.specs.Read.{read_of, tpdu_causes, ihl, is_fragment, ipv4_causes, read_ipv4, ipv6_causes, read_ipv6, read_udp, read_probe, udp_causes, probe_causes, sum_wrong, covered, length_wrong, payload}
use Rattle.measurement_damage.specs.Echo.{echo_of_tpdu, echo_of}
use Rattle.measurement_damage.specs.Claims.{tpdu_built, Travelled, arrives, echoes, echoes_of}
use Rattle.measurement_packet.proofs.Built.{packet_bytes}
use Rattle.measurement_damage.proofs.Claims.{reads_back_alone, echo_alone, reversed_in_range, zeros_are_bytes}
use Rattle.plan.specs.Plan.{packets_from, packets_of}
use Rattle.counter.specs.Counter.{one_more}
use Rattle.observer.specs.Observer.{Observer, capacity, rows, with_rows}
use Rattle.observer.specs.Judge.{well_formed, judged, Step, after_reading}
use Rattle.columns.specs.Place.{holds}
use Rattle.observer.specs.Sending as sending
use Rattle.observer.specs.Sending.{sending_causes, record_sent}
use Rattle.observer.specs.Returning as returning
use Rattle.observer.specs.Returning.{return_causes, record_return}
use Rattle.return_calls.specs.Kinds.{message_kind}
use Rattle.return_calls.specs.Returns.{sequence_read, record_received_tpdu, record_return_message, as_message}
use Rattle.return_calls.specs.Kinds.{MeasurementTpdu}
use Rattle.tally.specs.Tally.{is_refused}
use Rattle.tally.specs.Demand.{Accepted, send_all, Takes, Call, tpdu_call, message_call, some_leg_turned, bytes_given, receive}
use Rattle.tally.specs.Cases.{ipv4_flow, ipv6_flow}
use Rattle.tally.specs.Attained.{PlansAccepted, example_plan, example_observer, leg_ends, Comes, hop_limit, send_time, udp_checksum, flags_and_fragment_offset}
use Rattle.tally.proofs.Entry.{takes_all}
use Rattle.tally.proofs.Returns.{echo_step}

pub build_bytes : (f : InnerIpFlow) (s t : ℕ) → InRange f s t → Bytes (build_of f s t)
unfolding build_of address
build_bytes f s t g = packet_bytes f.version f.src f.dst f.src_port f.dst_port s t g.source g.destination

-- bits of one byte turned
turned_byte : (a b : ℕ) (before after : List Bool) (x : Bool) → b < 256 → bits (a ∷ []) ≡ before ++ (x ∷ after) → bits (b ∷ []) ≡ before ++ (not x ∷ after)
    → (ahead behind : List ℕ) → Bytes ahead → Bytes behind → Turned (ahead ++ ((a ∷ []) ++ behind)) (ahead ++ ((b ∷ []) ++ behind))
turned_byte a b before after x h p r ahead behind c d =
    clipped.behind ahead ((a ∷ []) ++ behind) ((b ∷ []) ++ behind) c
    (clipped.ahead behind (a ∷ []) (b ∷ []) d (damage_is.one_bit (a ∷ []) (b ∷ []) (h, tt) before after x p r))

-- ---- what a call answers, by what reading gives

abbrev sent : Observer
sent = send_all example_observer (packets_of example_plan 1)

-- the call's step, once the T-PDU is read as this
abbrev step_of : Outcome ℕ → Step
step_of x = after_reading sent x (record_return sent 5)

answer_of_lem : Call → Outcome ℕ → Bool
answer_of_lem tpdu_call x = is_refused (step_of x).outcome
answer_of_lem message_call x = is_refused (as_message MeasurementTpdu (step_of x)).outcome

answer_is : (call : Call) (tpdu : List ℕ) (x : Outcome ℕ) → sequence_read tpdu ≡ x
    → (receive sent (record { call = call; time = 5; tpdu = tpdu })).refuses ≡ answer_of_lem call x
unfolding record_received_tpdu record_return_message message_kind answer_of_lem
answer_is tpdu_call tpdu x e = ap (λ (y : Outcome ℕ). is_refused (step_of y).outcome) e
answer_is message_call tpdu x e = ap (λ (y : Outcome ℕ). is_refused (as_message MeasurementTpdu (step_of y)).outcome) e

takes_1 : (call : Call) → answer_of_lem call (gives 1) ≡ false
unfolding answer_of_lem first_cause packets_of packets_from capacity rows with_rows well_formed judged holds sending.entered sending_causes record_sent return_causes returning.after_return record_return one_more
takes_1 tpdu_call = refl
takes_1 message_call = refl

refuses_by : (n : ℕ) → answer_of_lem tpdu_call (refused n) ≡ true
unfolding answer_of_lem first_cause packets_of packets_from capacity rows with_rows well_formed judged holds sending.entered sending_causes record_sent return_causes returning.after_return record_return one_more
refuses_by n = refl

sequence_given : (tpdu : List ℕ) (d : DecodedTpdu) → read_of tpdu ≡ gives d → sequence_read tpdu ≡ gives d.measurement.sequence
unfolding sequence_read
sequence_given tpdu d e = rw (e, sequence_read)

sequence_refused : (tpdu : List ℕ) (n : ℕ) → read_of tpdu ≡ refused n → sequence_read tpdu ≡ refused n
unfolding sequence_read
sequence_refused tpdu n e = rw (e, sequence_read)

echo_given : (b : List ℕ) (d : DecodedTpdu) → read_of b ≡ gives d → echo_of b ≡ gives (echo_of_tpdu d)
unfolding echo_of
echo_given b d e = rw (e, echo_of)

-- ---- the plan and the observer

example_takes : Takes example_plan 1 example_observer
unfolding capacity
example_takes = takes_all example_plan 1 example_observer refl (omega arith)

example_accepted : PlansAccepted → (flow : InnerIpFlow) → InRange flow 1 0 → Accepted flow example_plan 1
example_accepted plans flow g = plans flow example_plan 1 g (record {
  rate_positive = omega arith;
  rate_within = omega arith;
  count_within = omega arith;
  sequences = λ k h. omega arith;
  times = λ k h. omega arith;
})

range_4 : InRange ipv4_flow 1 0
range_4 = record {
  source = omega arith;
  destination = omega arith;
  source_length = refl;
  destination_length = refl;
  source_port = omega arith;
  destination_port = omega arith;
  sequence = omega arith;
  time = omega arith;
}

range_6 : InRange ipv6_flow 1 0
range_6 = record {
  source = bytes_append (replicate 15 0) (1 ∷ []) (zeros_are_bytes 15) (omega arith, tt);
  destination = bytes_append (replicate 15 0) (2 ∷ []) (zeros_are_bytes 15) (omega arith, tt);
  source_length = refl;
  destination_length = refl;
  source_port = omega arith;
  destination_port = omega arith;
  sequence = omega arith;
  time = omega arith;
}

-- ---- the hop limit, turned or not on each leg

abbrev hop : Bool → List ℕ → List ℕ
hop false l = l
hop true l = take 7 l ++ (65 ∷ drop 8 l)

abbrev limit : Bool → ℕ
limit false = 64
limit true = 65

-- no cause and no value looks at it
hop_unread : (rest : List ℕ) → read_of (96 ∷ 0 ∷ 0 ∷ 0 ∷ 0 ∷ 32 ∷ 17 ∷ 65 ∷ rest) ≡ read_of (96 ∷ 0 ∷ 0 ∷ 0 ∷ 0 ∷ 32 ∷ 17 ∷ 64 ∷ rest)
unfolding read_of tpdu_causes read_ipv6 ipv6_causes
hop_unread rest = refl

hop_turned : (rest : List ℕ) → Bytes rest
    → Turned (96 ∷ 0 ∷ 0 ∷ 0 ∷ 0 ∷ 32 ∷ 17 ∷ 64 ∷ rest) (96 ∷ 0 ∷ 0 ∷ 0 ∷ 0 ∷ 32 ∷ 17 ∷ 65 ∷ rest)
unfolding bits low_bits is_one
hop_turned rest b =
    turned_byte 64 65 (false ∷ true ∷ false ∷ false ∷ false ∷ false ∷ false ∷ []) [] false (omega arith) refl refl
    (96 ∷ 0 ∷ 0 ∷ 0 ∷ 0 ∷ 32 ∷ 17 ∷ []) rest (omega arith) b

module _ (src dst : List ℕ) (sport dport : ℕ) where
  abbrev flow6 : InnerIpFlow
  flow6 = record { version = V6; src = src; dst = dst; src_port = sport; dst_port = dport }

  abbrev built6 : List ℕ
  built6 = build_of flow6 1 0

  abbrev behind6 : List ℕ
  behind6 = (address V6 src ++ address V6 dst) ++ udp (pseudo_header V6 (address V6 src) (address V6 dst) 32) sport dport 1 0

  built_is : built6 ≡ 96 ∷ 0 ∷ 0 ∷ 0 ∷ 0 ∷ 32 ∷ 17 ∷ 64 ∷ behind6
  unfolding build_of ip_header ipv6
  built_is = refl

  module _ (g : InRange flow6 1 0) where
    behind_bytes : Bytes behind6
    behind_bytes = rw built_is at (bytes_drop 8 built6 (build_bytes flow6 1 0 g))

    leg_turned : (b : Bool) → Turned built6 (hop b built6)
    leg_turned false = damage_is.none built6 (build_bytes flow6 1 0 g)
    leg_turned true = rw built_is (hop_turned behind6 behind_bytes)

    leg_read : (b : Bool) → read_of (hop b built6) ≡ gives (tpdu_built flow6 1 0)
    leg_read false = reads_back_alone flow6 1 0 g
    leg_read true =
        ap (λ (l : List ℕ). read_of (hop true l)) built_is ∙ hop_unread behind6 ∙ ap read_of (sym built_is) ∙ reads_back_alone flow6 1 0 g

    leg_echoed : (b : Bool) → echo_of (hop b built6) ≡ gives (build_of (reversed_of flow6) 1 0)
    leg_echoed b =
        echo_given (hop b built6) (tpdu_built flow6 1 0) (leg_read b)
        ∙ sym (echo_given built6 (tpdu_built flow6 1 0) (reads_back_alone flow6 1 0 g))
        ∙ echo_alone flow6 1 0 g

    leg_differs : (b : Bool) → not (same_bytes (hop b built6) built6) ≡ b
    leg_differs false = ap not (same_as_itself built6)
    leg_differs true = ap (λ (l : List ℕ). not (same_bytes (hop true l) l)) built_is

    leg_limit : (b : Bool) → hop_limit (hop b built6) ≡ limit b
    leg_limit false = ap hop_limit built_is
    leg_limit true = ap (λ (l : List ℕ). hop_limit (hop true l)) built_is

-- each leg but the last, and the last
abbrev some_turned : List Bool → Bool → Bool
some_turned [] last = last
some_turned (b ∷ legs) last = b || some_turned legs last

abbrev limits : List Bool → Bool → List ℕ
limits [] last = limit last ∷ []
limits (b ∷ legs) last = limit b ∷ limits legs last

record Journey (first : List ℕ) (legs : List Bool) (last : Bool) : Type 0 where
  whole : List ℕ
  echoed : echoes_of (length legs) first ≡ gives whole
  travelled : Travelled first (length legs) (hop last whole)
  on_a_leg : some_leg_turned travelled ≡ some_turned legs last
  at_leg_ends : map hop_limit (leg_ends travelled) ≡ limits legs last
  differs : not (same_bytes (hop last whole) whole) ≡ last
  sequence : sequence_read (hop last whole) ≡ gives 1

journey : (legs : List Bool) (last : Bool) (src dst : List ℕ) (sport dport : ℕ) → InRange (flow6 src dst sport dport) 1 0
    → Journey (built6 src dst sport dport) legs last
unfolding echoes_of
journey [] last src dst sport dport g = record {
  whole = built6 src dst sport dport;
  echoed = refl;
  travelled = arrives (leg_turned src dst sport dport g last);
  on_a_leg = leg_differs src dst sport dport g last;
  at_leg_ends = ap (λ (n : ℕ). n ∷ []) (leg_limit src dst sport dport g last);
  differs = leg_differs src dst sport dport g last;
  sequence = sequence_given (hop last (built6 src dst sport dport)) (tpdu_built (flow6 src dst sport dport) 1 0) (leg_read src dst sport dport g last);
}
journey (b ∷ legs) last src dst sport dport g =
    let onward = journey legs last dst src dport sport (reversed_in_range g) in
    record {
      whole = onward.whole;
      echoed = echo_step (length legs) (built6 src dst sport dport) (built6 dst src dport sport) (leg_echoed src dst sport dport g false) ∙ onward.echoed;
      travelled = echoes (leg_turned src dst sport dport g b) (leg_echoed src dst sport dport g b) onward.travelled;
      on_a_leg = rw (leg_differs src dst sport dport g b) (ap (λ (x : Bool). b || x) onward.on_a_leg);
      at_leg_ends = rw (leg_limit src dst sport dport g b) (ap (λ (l : List ℕ). limit b ∷ l) onward.at_leg_ends);
      differs = onward.differs;
      sequence = onward.sequence;
    }

pub hop_limit_comes : PlansAccepted → (call : Call) (legs : List Bool) (last : Bool)
    → Comes ipv6_flow call hop_limit (limits legs last) (record { on_a_leg = some_turned legs last; at_the_end = last; refused = false })
hop_limit_comes plans call legs last =
    let j = journey legs last ipv6_flow.src ipv6_flow.dst 1000 2000 range_6 in
    record {
      accepted = example_accepted plans ipv6_flow range_6;
      takes = example_takes;
      return = record { packet_index = 0; planned = omega arith; echo_count = length legs; arrived = hop last j.whole; travelled = j.travelled; time = 5; call = call };
      by = refl;
      at_leg_ends = j.at_leg_ends;
      on_a_leg = j.on_a_leg;
      at_the_end = ap (λ (x : Outcome (List ℕ)). not (same_bytes (hop last j.whole) (bytes_given x))) j.echoed ∙ j.differs;
      answer = answer_is call (hop last j.whole) (gives 1) j.sequence ∙ takes_1 call;
    }

-- ---- returns without an echo

one_leg_comes : PlansAccepted → (flow : InnerIpFlow) → InRange flow 1 0 → (part : List ℕ → ℕ) (sent_as arrived : List ℕ) (read : Outcome ℕ) (refuses : Bool)
    → build_of flow 1 0 ≡ sent_as → Turned sent_as arrived → same_bytes arrived sent_as ≡ false → sequence_read arrived ≡ read → answer_of_lem tpdu_call read ≡ refuses
    → Comes flow tpdu_call part (part arrived ∷ []) (record { on_a_leg = true; at_the_end = true; refused = refuses })
unfolding echoes_of
one_leg_comes plans flow g part sent_as arrived read refuses e turned differs r a =
    let differ : not (same_bytes arrived (build_of flow 1 0)) ≡ true = ap (λ (l : List ℕ). not (same_bytes arrived l)) e ∙ ap not differs in
    let whole_turned : Turned (build_of flow 1 0) arrived = rw e turned in
    record {
      accepted = example_accepted plans flow g;
      takes = example_takes;
      return = record { packet_index = 0; planned = omega arith; echo_count = 0; arrived = arrived; travelled = arrives whole_turned; time = 5; call = tpdu_call };
      by = refl;
      at_leg_ends = refl {a = part arrived ∷ []};
      on_a_leg = differ;
      at_the_end = differ;
      answer = answer_is tpdu_call arrived read r ∙ a;
    }

-- case 3's packet up to the last byte of the send time
abbrev udp_header : List ℕ
udp_header = 3 ∷ 232 ∷ 7 ∷ 208 ∷ 0 ∷ 32 ∷ 197 ∷ 216 ∷ []

abbrev probe_but1 : List ℕ
probe_but1 = 79 ∷ 80 ∷ 67 ∷ 68 ∷ 80 ∷ 84 ∷ 75 ∷ 49 ∷ 0 ∷ 0 ∷ 0 ∷ 0 ∷ 0 ∷ 0 ∷ 0 ∷ 1 ∷ 0 ∷ 0 ∷ 0 ∷ 0 ∷ 0 ∷ 0 ∷ 0 ∷ []

abbrev case3 : List ℕ
case3 = 96 ∷ 0 ∷ 0 ∷ 0 ∷ 0 ∷ 32 ∷ 17 ∷ 64 ∷ (replicate 15 0 ++ 1 ∷ (replicate 15 0 ++ 2 ∷ (udp_header ++ probe_but1)))

case3_is : build_of ipv6_flow 1 0 ≡ case3 ++ (0 ∷ [])
unfolding build_of address address_length ip_header ipv6 pseudo_header measurement_magic probe udp_segment nonzero udp sum_of folding fold_of checksum_of
case3_is = refl

case3_bytes : Bytes case3
case3_bytes =
    bytes_append (96 ∷ 0 ∷ 0 ∷ 0 ∷ 0 ∷ 32 ∷ 17 ∷ 64 ∷ []) (replicate 15 0 ++ 1 ∷ (replicate 15 0 ++ 2 ∷ (udp_header ++ probe_but1))) (omega arith)
    (bytes_append (replicate 15 0) (1 ∷ (replicate 15 0 ++ 2 ∷ (udp_header ++ probe_but1))) (zeros_are_bytes 15) (
      omega arith,
      bytes_append (replicate 15 0) (2 ∷ (udp_header ++ probe_but1)) (zeros_are_bytes 15)
          (omega arith, bytes_append udp_header probe_but1 (omega arith) (omega arith)),
    ))

time_turned : Turned (case3 ++ (0 ∷ [])) (case3 ++ (1 ∷ []))
unfolding bits low_bits is_one
time_turned =
    turned_byte 0 1 (false ∷ false ∷ false ∷ false ∷ false ∷ false ∷ false ∷ []) [] false (omega arith) refl refl case3 [] case3_bytes tt

time_refused : read_of (case3 ++ (1 ∷ [])) ≡ refused 12
unfolding sum_of folding fold_of checksum_of read_of tpdu_causes ipv6_causes read_ipv6 read_udp read_probe udp_causes probe_causes sum_wrong covered length_wrong payload padded pseudo_header measurement_magic first_cause
time_refused = refl

pub time_comes : PlansAccepted → Comes ipv6_flow tpdu_call send_time (1 ∷ []) (record { on_a_leg = true; at_the_end = true; refused = true })
time_comes plans =
    one_leg_comes plans ipv6_flow range_6 send_time (case3 ++ (0 ∷ [])) (case3 ++ (1 ∷ [])) (refused 12) true case3_is time_turned refl
    (sequence_refused (case3 ++ (1 ∷ [])) 12 time_refused) (refuses_by 12)

-- case 1's packet, in front of the UDP checksum and behind it
abbrev front4 : List ℕ
front4 =
    69 ∷ 0 ∷ 0 ∷ 52 ∷ 0 ∷ 0 ∷ 0 ∷ 0 ∷ 64 ∷ 17 ∷ 102 ∷ 183 ∷ 10 ∷ 0 ∷ 0 ∷ 1 ∷ 10 ∷ 0 ∷ 0 ∷ 2 ∷ 3 ∷ 232 ∷ 7 ∷ 208 ∷ 0 ∷ 32 ∷ []

abbrev behind4 : List ℕ
behind4 = probe_but1 ++ (0 ∷ [])

case1_is : build_of ipv4_flow 1 0 ≡ front4 ++ ((177 ∷ 216 ∷ []) ++ behind4)
unfolding build_of address address_length ip_header ipv4 ipv4_header pseudo_header measurement_magic probe udp_segment nonzero udp sum_of folding fold_of checksum_of
case1_is = refl

-- all 16 bits are in the span, which is not 16 equal bits
checksum_bits : Turned (177 ∷ 216 ∷ []) (0 ∷ 0 ∷ [])
unfolding bits low_bits is_one
checksum_bits = record {
  same_length = refl;
  bytes = omega arith;
  before = [];
  span = bits (177 ∷ 216 ∷ []);
  turned = bits (0 ∷ 0 ∷ []);
  after = [];
  sent_bits = refl;
  arrived_bits = refl;
  same_span = refl;
  short = omega arith;
  not_all = λ b e f. mixed b e;
}
  where
    mixed : (b : Bool) → bits (177 ∷ 216 ∷ []) ≡ replicate 16 b → ⊥
    mixed b e =
        let first : true ≡ b = cc in
        let second : false ≡ b = cc in
        let z : ◌≡◌ {A = ℕ} 0 1 = cc in
        omega arith

checksum_turned : Turned (front4 ++ ((177 ∷ 216 ∷ []) ++ behind4)) (front4 ++ ((0 ∷ 0 ∷ []) ++ behind4))
checksum_turned =
    clipped.behind front4 ((177 ∷ 216 ∷ []) ++ behind4) ((0 ∷ 0 ∷ []) ++ behind4) (omega arith)
    (clipped.ahead behind4 (177 ∷ 216 ∷ []) (0 ∷ 0 ∷ []) (omega arith) checksum_bits)

checksum_unread : read_of (front4 ++ ((0 ∷ 0 ∷ []) ++ behind4)) ≡ gives (tpdu_built ipv4_flow 1 0)
unfolding sum_of folding fold_of checksum_of read_of tpdu_causes ihl is_fragment ipv4_causes read_ipv4 read_udp read_probe udp_causes probe_causes sum_wrong covered length_wrong payload padded pseudo_header measurement_magic first_cause address address_length
checksum_unread = refl

pub checksum_comes : PlansAccepted → Comes ipv4_flow tpdu_call udp_checksum (0 ∷ []) (record { on_a_leg = true; at_the_end = true; refused = false })
checksum_comes plans =
    one_leg_comes plans ipv4_flow range_4 udp_checksum (front4 ++ ((177 ∷ 216 ∷ []) ++ behind4)) (front4 ++ ((0 ∷ 0 ∷ []) ++ behind4)) (gives 1) false case1_is
    checksum_turned refl (sequence_given (front4 ++ ((0 ∷ 0 ∷ []) ++ behind4)) (tpdu_built ipv4_flow 1 0) checksum_unread) (takes_1 tpdu_call)

-- case 1's packet, in front of the byte with its flags and behind it
abbrev front_flags : List ℕ
front_flags = 69 ∷ 0 ∷ 0 ∷ 52 ∷ 0 ∷ 0 ∷ []

abbrev behind_flags : List ℕ
behind_flags = drop 7 front4 ++ ((177 ∷ 216 ∷ []) ++ behind4)

flags_turned : Turned (front_flags ++ (0 ∷ behind_flags)) (front_flags ++ (32 ∷ behind_flags))
unfolding bits low_bits is_one
flags_turned =
    turned_byte 0 32 (false ∷ false ∷ []) (false ∷ false ∷ false ∷ false ∷ false ∷ []) false (omega arith) refl refl front_flags behind_flags (omega arith)
    (bytes_append (drop 7 front4) ((177 ∷ 216 ∷ []) ++ behind4) (omega arith) (omega arith))

-- the header checksum finds it
flags_refused : read_of (front_flags ++ (32 ∷ behind_flags)) ≡ refused 7
unfolding sum_of folding fold_of checksum_of read_of tpdu_causes ihl ipv4_causes read_ipv4 first_cause
flags_refused = refl

pub fragment_comes : PlansAccepted → Comes ipv4_flow tpdu_call flags_and_fragment_offset (0x2000 ∷ []) (record { on_a_leg = true; at_the_end = true; refused = true })
fragment_comes plans =
    one_leg_comes plans ipv4_flow range_4 flags_and_fragment_offset (front_flags ++ (0 ∷ behind_flags)) (front_flags ++ (32 ∷ behind_flags)) (refused 7) true case1_is flags_turned refl
    (sequence_refused (front_flags ++ (32 ∷ behind_flags)) 7 flags_refused) (refuses_by 7)
