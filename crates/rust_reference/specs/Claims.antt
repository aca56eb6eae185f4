-- Demand 2: "where no refusal marked added is due, the results equal the Rust's". Each ported function of the Rust has
-- a claim of its name: its result, with errors as numbers, is that of document 01's definition, which our call's
-- contract names. Compared.antt says what is compared, which since document 02, jobs 1 and 6, is not every T-PDU.
-- proofs/ proves each claim.
use Rattle.std.specs.Prelude.{◌≡◌, ℕ, ◌%◌, ◌≤◌, Bool, true, ◌⊎◌, List, [], ◌∷◌, ◌++◌, map, length, ◌≢◌}
use mathlib.Core.List.{flatten}
use Rattle.error.specs.Number.{output_too_short, too_many_packets, malformed_observer, observer_full}
use Rattle.error.specs.Number.{invalid_reflector_capacity, malformed_reflector_table}
use Rattle.error.specs.Number.{invalid_ipv4_ihl, truncated_ipv4_udp_packet}
use Rattle.error.specs.Outcome.{Outcome, refused, gives}
use Rattle.gtpu.specs.Element.{elements_of}
use Rattle.gtpu.specs.Message.{gtpu_msg_gpdu}
use Rattle.field.specs.Field.{Bytes}
use Rattle.checksum.specs.Sum.{checksum_of}
use Rattle.measurement.specs.Probe.{probe}
use Rattle.measurement.specs.Flow.{reversed_of, InRange}
use Rattle.measurement.specs.Answer.{writing, writing_of}
use Rattle.measurement.specs.declared.InnerIpFlow.{InnerIpFlow}
use Rattle.measurement.specs.declared.IpVersion.{IpVersion}
use Rattle.measurement.specs.declared.IpVersion.TheVariants.{V4}
use Rattle.measurement.specs.declared.MeasurementHeader.{MeasurementHeader}
use Rattle.measurement_packet.specs.Packet.{build_of}
use Rattle.measurement_reading.specs.Fragments.{IsIpv4, Fragment}
use Rattle.measurement_reading.specs.Padding.{ReachesUdp, part_in, LengthRight, Carries, padded4}
use Rattle.measurement_reading.specs.Read.{read_of}
use Rattle.measurement_damage.specs.Echo.{echo_of}
use Rattle.plan.specs.Plan.{interval_of, judge_plan}
use Rattle.traffic.specs.Generate.{first_sequence, generate_of}
use Rattle.plan.specs.declared.TrafficPlan.{TrafficPlan}
use Rattle.rows.specs.Columns.{column_lengths, EachHas}
use Rattle.observer.specs.Counts.{fresh}
use Rattle.observer.specs.Judge.{well_formed}
use Rattle.observer.specs.Observer.{Observer, rows}
use Rattle.observer.specs.Sending.{record_sent}
use Rattle.return_calls.specs.Returns.{record_received_tpdu, record_return_message}
use Rattle.return_calls.specs.Kinds.{Kind}
use Rattle.report.specs.Report.{reporting}
use Rattle.evidence.specs.Budget.{zero_loss}
use Rattle.evidence.specs.declared.PacketContinuityBudget.{PacketContinuityBudget}
use Rattle.reflector_answer.specs.Handle.{placed}
use Rattle.gtpu.specs.declared.GtpuMessage.{GtpuMessage}
use Rattle.reflector_answer.specs.declared.MultiSessionReflectorConfig.{MultiSessionReflectorConfig}
use Rattle.reflector_answer.specs.declared.ReflectorPolicy.{ReflectorPolicy}
use Rattle.reflector_answer.specs.declared.ReflectorPolicy.TheVariants.{Echo, SinkAndCount, Route}
use Rattle.reflector_answer.specs.declared.RouteTarget.{RouteTarget}
use Rattle.reflector_sessions.specs.Register.{register_session}
use Rattle.reflector_sessions.specs.Remove.{remove_session}
use Rattle.reflector_sessions.specs.declared.ReflectorSession.{ReflectorSession}
use Rattle.reflector_sessions.specs.declared.SocketAddr.{SocketAddr}
use Rattle.rust_reference.specs.Error.{DataplaneTestkitError, Result, Ok, Err, InvalidReflectorCapacity}
use Rattle.rust_reference.specs.Values.{u64_max}
use Rattle.rust_reference.specs.Sheet.{received_of, ValuesFit, Same, rust_observer}
use Rattle.rust_reference.specs.Runs.{Call, Typed, answer_to, after_call, answers_to, after, rust_answers_to}
use Rattle.rust_reference.specs.Runs.{rust_after}
use Rattle.rust_reference.specs.Map.{Option}
use Rattle.rust_reference.specs.Number.{error_number, outcome_by, outcome_of}
use Rattle.rust_reference.specs.Compared.{Filled, Compared, ComparedReturn, ComparedMessage, due_of_a_fragment}
use Rattle.rust_reference.specs.Compared.{as_the_rust_tells, told}
use Rattle.rust_reference.specs.Answers.{rust_flow, tpdu_of, in_buffer, told_writing, headers_of, packets_in_buffer}
use Rattle.rust_reference.specs.Answers.{told_generating, report_of}
use Rattle.rust_reference.specs.Sessions.{Reflector, table_in, with_table, with_state, fresh_reflector, handling}
use Rattle.rust_reference.specs.Sessions.{rust_address, rust_session, rust_config, rust_reflector, rust_message}
use Rattle.rust_reference.specs.Sessions.{rust_removed, rust_action, outcome_to, in_output, IsMade, SequenceFits}
use Rattle.rust_reference.specs.Evidence as evidence
use Rattle.rust_reference.specs.Gtpu as gtpu
use Rattle.rust_reference.specs.Measurement as measurement
use Rattle.rust_reference.specs.Reflector as reflector
use Rattle.rust_reference.specs.Reflecting as reflecting
use Rattle.rust_reference.specs.Traffic as traffic

-- The numbers that the card marks "added".
abbrev pub Added : ℕ → Type 0
Added n =
    (n ≡ output_too_short) ⊎ (n ≡ too_many_packets) ⊎ (n ≡ malformed_observer) ⊎ (n ≡ observer_full)
    ⊎ (n ≡ malformed_reflector_table)

-- What is added is ours: no error of the Rust has such a number. A number of the Rust's among them would take what it
-- refuses out of every claim.
abbrev pub AddedIsOurs : Type 0
AddedIsOurs = (error : DataplaneTestkitError) → Added (error_number error) → ⊥

-- "where no refusal marked added is due"
abbrev pub NoneAdded : {A : Type 0} → Outcome A → Type 0
NoneAdded o = (n : ℕ) → Added n → o ≢ refused n

-- ---- what is compared

-- Not an IPv4 fragment, by the packet's bytes.
abbrev pub NoFragment : List ℕ → Type 0
NoFragment tpdu = IsIpv4 tpdu → Fragment tpdu → ⊥

-- Compared is every T-PDU that is not an IPv4 fragment and whose UDP length fills its part, alone, in a message that
-- returns and in one that is echoed: so every built packet, whatever stands behind it, and every T-PDU that is refused
-- before its UDP part is judged. Compared are also every payload of at most 65,535 bytes in a message that is routed,
-- and every other message, whatever its payload. Not compared is any fragment, any padded packet, and any packet whose
-- UDP length is under 8 or past its part. 39 is compared as 4, and each other of our numbers as itself.
pub record WhatIsCompared : Type 0 where
  pub every_tpdu : (tpdu : List ℕ) → Bytes tpdu → NoFragment tpdu → Filled tpdu → Compared tpdu
  pub no_fragment : (tpdu : List ℕ) → Compared tpdu → NoFragment tpdu
  pub no_padding : (v : IpVersion) (source destination segment padding tpdu : List ℕ)
      → Carries v source destination segment padding tpdu → Compared tpdu → padding ≡ []
  pub no_wrong_length : (v : IpVersion) (tpdu : List ℕ) → ReachesUdp v tpdu → (LengthRight (part_in v tpdu) → ⊥)
      → Compared tpdu → ⊥
  pub every_built : (flow : InnerIpFlow) (sequence time : ℕ) → InRange flow sequence time
      → (behind : List ℕ) → Bytes behind → Compared (build_of flow sequence time ++ behind)
  pub every_unjudged : (tpdu : List ℕ) → Bytes tpdu → NoFragment tpdu → ((v : IpVersion) → ReachesUdp v tpdu → ⊥)
      → Compared tpdu
  pub every_return : (message_type : ℕ) (payload : List ℕ) → Bytes payload → NoFragment payload → Filled payload
      → ComparedReturn message_type payload
  pub every_echoed : (message : GtpuMessage) (payload : List ℕ) → Bytes payload → NoFragment payload → Filled payload
      → ComparedMessage Echo message payload
  pub every_routed : (target : RouteTarget) (message : GtpuMessage) (payload : List ℕ) → length payload ≤ 65535
      → ComparedMessage (Route target) message payload
  pub every_other_return : (message_type : ℕ) (payload : List ℕ) → (message_type ≢ gtpu_msg_gpdu)
      → ComparedReturn message_type payload
  pub every_other_message : (policy : ReflectorPolicy) (message : GtpuMessage) (payload : List ℕ)
      → (message.message_type ≢ gtpu_msg_gpdu) → ComparedMessage policy message payload
  pub every_sunk_message : (message : GtpuMessage) (payload : List ℕ) → ComparedMessage SinkAndCount message payload
  pub cut_as_ihl : as_the_rust_tells truncated_ipv4_udp_packet ≡ invalid_ipv4_ihl
  pub every_other_refusal : (n : ℕ) → (n ≢ truncated_ipv4_udp_packet) → as_the_rust_tells n ≡ n

-- ---- evidence.rs

abbrev pub ZeroLoss : Type 0
ZeroLoss = evidence.zero_loss ≡ zero_loss

-- ---- measurement.rs

-- Every flow.
abbrev pub Reversed : Type 0
Reversed = (flow : InnerIpFlow) → measurement.reversed (rust_flow flow) ≡ rust_flow (reversed_of flow)

-- Every header.
abbrev pub Encode : Type 0
Encode = (header : MeasurementHeader)
    → measurement.encode header ≡ probe header.sequence header.send_timestamp_ns

-- Every part but the last has an even length: the Rust pads each part to whole words.
abbrev pub WholeWords : List (List ℕ) → Type 0
WholeWords [] = Unit {0}
WholeWords (last ∷ []) = Unit {0}
WholeWords (part ∷ next ∷ parts) = (length part % 2 ≡ 0) × WholeWords (next ∷ parts)

-- Parts end to end, of at most 131,074 bytes: from 131,075 on the Rust's u32 may wrap.
abbrev pub Checksum : Type 0
Checksum = (parts : List (List ℕ)) → WholeWords parts → Bytes (flatten parts) → length (flatten parts) ≤ 131074
    → measurement.checksum parts ≡ checksum_of (flatten parts)

-- Every flow, sequence and time.
abbrev pub BuildMeasurementTpdu : Type 0
BuildMeasurementTpdu = (flow : InnerIpFlow) (sequence time : ℕ) → InRange flow sequence time → (buffer : List ℕ)
    → NoneAdded (writing (build_of flow sequence time) buffer).outcome
    → in_buffer (measurement.build_measurement_tpdu (rust_flow flow) sequence time) buffer
    ≡ told_writing (writing (build_of flow sequence time) buffer)

abbrev pub DecodeMeasurementTpdu : Type 0
DecodeMeasurementTpdu = (tpdu : List ℕ) → Compared tpdu
    → outcome_by tpdu_of (measurement.decode_measurement_tpdu tpdu) ≡ told (read_of tpdu)

-- Of the fragments, which are not compared, only the refusal by 38 is ours: by 1 to 7 both refuse alike.
abbrev pub DecodeFragment : Type 0
DecodeFragment = (tpdu : List ℕ) → Bytes tpdu → IsIpv4 tpdu → Fragment tpdu
    → due_of_a_fragment (outcome_by tpdu_of (measurement.decode_measurement_tpdu tpdu)) ≡ told (read_of tpdu)

-- A padded packet, which is not compared, is read as the Rust reads a packet with the same addresses and the same UDP
-- segment and no padding, which is compared.
abbrev pub DecodePadded : Type 0
DecodePadded = (v : IpVersion) (source destination segment padding tpdu whole : List ℕ)
    → Carries v source destination segment padding tpdu → Carries v source destination segment [] whole
    → Compared whole × (outcome_by tpdu_of (measurement.decode_measurement_tpdu whole) ≡ told (read_of tpdu))

-- In IPv4 the Rust refuses a UDP length that is under 8 or past its part, which is not compared, by 10 as we do. In
-- IPv6 it judges 11 and 12 first.
abbrev pub DecodeWrongLength : Type 0
DecodeWrongLength = (tpdu : List ℕ) → Bytes tpdu → ReachesUdp V4 tpdu → (LengthRight (part_in V4 tpdu) → ⊥)
    → outcome_by tpdu_of (measurement.decode_measurement_tpdu tpdu) ≡ told (read_of tpdu)

-- Two packets of `PaddingExamples`: we read the first and refuse the second by 12, and the Rust does the reverse.
pub record DecodeDiffers : Type 0 where
  pub refused_by_the_rust : outcome_by tpdu_of (measurement.decode_measurement_tpdu (padded4 32 0x6f83)) ≡ refused 12
  pub read_by_the_rust : outcome_by tpdu_of (measurement.decode_measurement_tpdu (padded4 32 0x6f92))
      ≡ read_of (padded4 32 0x6f83)

abbrev pub EchoTpdu : Type 0
EchoTpdu = (tpdu : List ℕ) → Compared tpdu → (buffer : List ℕ) → NoneAdded (writing_of (echo_of tpdu) buffer).outcome
    → in_buffer (measurement.echo_tpdu tpdu) buffer ≡ writing_of (told (echo_of tpdu)) buffer

-- ---- gtpu.rs

-- Every payload.
abbrev pub ValidateErrorIndicationIes : Type 0
ValidateErrorIndicationIes = (payload : List ℕ)
    → outcome_of (gtpu.validate_error_indication_ies payload) ≡ told (elements_of payload)

-- ---- traffic.rs

-- Every rate.
abbrev pub IntervalNs : Type 0
IntervalNs = (plan : TrafficPlan) → outcome_of (traffic.interval_ns plan) ≡ told (interval_of plan.target_rate_pps)

-- Both ways to make an engine, by the sequence that it starts at.
abbrev pub Engines : Type 0
Engines = ((traffic.TrafficEngine_new).next_sequence ≡ first_sequence)
    × ((first : ℕ) → (traffic.with_first_sequence first).next_sequence ≡ first)

-- Every flow, plan and next sequence: the answer, the engine's next sequence and every byte of the buffer; and each
-- packet's sequence and time.
abbrev pub Generate : Type 0
Generate = (flow : InnerIpFlow) (plan : TrafficPlan) (next : ℕ) → InRange flow next plan.first_send_timestamp_ns
    → (buffer : List ℕ) → NoneAdded (generate_of flow plan next buffer).outcome
    → let rust : traffic.Generated = traffic.generate next (rust_flow flow) plan in
    (packets_in_buffer rust.result rust.next_sequence buffer ≡ told_generating (generate_of flow plan next buffer))
    × (outcome_by headers_of rust.result ≡ told (judge_plan plan next).outcome)

-- `Same` relates the Rust's observer and a sheet. A fresh sheet of any columns is related to the Rust's new observer,
-- and each call on related ones has the same answer and leaves them related.
abbrev pub New : Type 0
New = (o : Observer) → o.counts ≡ fresh → Same traffic.new o

-- Every sheet on which 21 is not due, and whose latencies are u64s, is related to an observer of the Rust, whether or
-- not calls lead there.
abbrev pub EverySheet : Type 0
EverySheet = (o : Observer) → well_formed o ≡ true → ValuesFit (received_of (rows o)) → Same (rust_observer o) o

-- The Rust's `record_sent` answers nothing.
abbrev pub RecordSent : Type 0
RecordSent = (rust : traffic.ContinuityObserver) (o : Observer) → Same rust o → (sequence time : ℕ)
    → NoneAdded (record_sent o sequence time).outcome
    → (gives tt ≡ told (record_sent o sequence time).outcome)
    × Same (traffic.record_sent rust sequence time) (record_sent o sequence time).observer

-- Neither return call has an added refusal: 21 is not due on a related sheet.
abbrev pub RecordReceivedTpdu : Type 0
RecordReceivedTpdu = (rust : traffic.ContinuityObserver) (o : Observer) → Same rust o → (time : ℕ) → time ≤ u64_max
    → (tpdu : List ℕ) → Compared tpdu
    → let after : traffic.Recorded (Unit {0}) = traffic.record_received_tpdu rust time tpdu in
    (outcome_of after.result ≡ told (record_received_tpdu o time tpdu).outcome)
    × Same after.observer (record_received_tpdu o time tpdu).observer

abbrev pub RecordReturnGtpuDatagram : Type 0
RecordReturnGtpuDatagram = (rust : traffic.ContinuityObserver) (o : Observer) → Same rust o
    → (time : ℕ) → time ≤ u64_max → (message_type : ℕ) (payload : List ℕ) → ComparedReturn message_type payload
    → let after : traffic.Recorded Kind =
    traffic.record_return_gtpu_datagram rust time message_type payload in
    (outcome_of after.result ≡ told (record_return_message o time message_type payload).outcome)
    × Same after.observer (record_return_message o time message_type payload).observer

-- Every window and budget.
abbrev pub Report : Type 0
Report = (rust : traffic.ContinuityObserver) (o : Observer) → Same rust o
    → (window_start window_end : ℕ) (budget : PacketContinuityBudget)
    → gives (report_of (traffic.report rust window_start window_end budget))
    ≡ told (reporting o window_start window_end budget)

-- ---- whole runs

abbrev pub AllTyped : List Call → Type 0
AllTyped [] = Unit {0}
AllTyped (call ∷ calls) = Typed call × AllTyped calls

-- No refusal marked added is due at any call of the list.
abbrev pub NoneAddedIn : Observer → List Call → Type 0
NoneAddedIn o [] = Unit {0}
NoneAddedIn o (call ∷ calls) = NoneAdded (answer_to o call) × NoneAddedIn (after_call o call) calls

-- Every answer of a run is the Rust's, each report on the way too, and the observers that are left hold the same.
abbrev pub SameRun : Observer → List Call → Type 0
SameRun o calls =
    (rust_answers_to traffic.new calls ≡ map told (answers_to o calls))
    × Same (rust_after traffic.new calls) (after o calls)

-- Every list of calls on a fresh sheet of any columns.
abbrev pub Runs : Type 0
Runs = (o : Observer) → o.counts ≡ fresh → (calls : List Call) → AllTyped calls → NoneAddedIn o calls → SameRun o calls

-- "runs up to 2,048 sequences": with columns of 2,048 entries or more it is enough that the Rust's map of what was sent
-- ends with at most 2,048 entries.
abbrev pub RunsUpTo2048 : Type 0
RunsUpTo2048 = (o : Observer) → o.counts ≡ fresh → EachHas 2048 (column_lengths o.columns) → (calls : List Call)
    → AllTyped calls → length (rust_after traffic.new calls).sent ≤ 2048 → SameRun o calls

-- ---- reflector.rs

-- A call refuses by 30 where `new_multi` makes no reflector of the configuration, and nowhere else.
abbrev pub RefusesAsNewMulti : {A : Type 0} → MultiSessionReflectorConfig → Outcome A → Type 0
RefusesAsNewMulti config o =
    ((error : DataplaneTestkitError) → reflector.new_multi (rust_config config) ≡ Err error
    → told o ≡ refused invalid_reflector_capacity)
    × (told o ≡ refused invalid_reflector_capacity
    → reflector.new_multi (rust_config config) ≡ Err InvalidReflectorCapacity)

-- The Rust judges 30 once, when it makes a reflector; here each call does, on every table and for every session, TEID,
-- message and output.
pub record NewMulti : Type 0 where
  -- What it makes holds what the fresh reflector holds, whatever slice is lent.
  pub makes : (sessions : List ReflectorSession) (config : MultiSessionReflectorConfig) (made : reflector.GtpuReflector)
      → reflector.new_multi (rust_config config) ≡ Ok made → made ≡ rust_reflector (fresh_reflector sessions config)
  pub register_session : (r : Reflector) (session : ReflectorSession)
      → RefusesAsNewMulti r.config (register_session (table_in r) session).outcome
  pub remove_session : (r : Reflector) (teid : ℕ)
      → RefusesAsNewMulti r.config (remove_session (table_in r) teid).outcome
  pub handle_datagram : (r : Reflector) (source : SocketAddr) (message : GtpuMessage) (payload buffer : List ℕ)
      → RefusesAsNewMulti r.config (handling r source message payload buffer).outcome

-- Every reflector and session: the answer, and what the Rust's reflector then holds.
abbrev pub RegisterSession : Type 0
RegisterSession = (r : Reflector) → IsMade r → (session : ReflectorSession)
    → NoneAdded (register_session (table_in r) session).outcome
    → let after : reflector.Called (Result Bool) =
    reflector.register_session (rust_reflector r) (rust_session session) in
    (outcome_of after.result ≡ told (register_session (table_in r) session).outcome)
    × (after.reflector ≡ rust_reflector (with_table (register_session (table_in r) session).table r))

-- Every TEID: the session that was removed, or none.
abbrev pub RemoveSession : Type 0
RemoveSession = (r : Reflector) → IsMade r → (teid : ℕ) → NoneAdded (remove_session (table_in r) teid).outcome
    → let after : reflector.Called (Option reflector.ReflectorSession) =
    reflector.remove_session (rust_reflector r) teid in
    (gives after.result ≡ outcome_to rust_removed (told (remove_session (table_in r) teid).outcome))
    × (after.reflector ≡ rust_reflector (with_table (remove_session (table_in r) teid).table r))

-- Every message, from every sender: the action, with the payload of what is sent; every byte of the output; and the
-- Rust's reflector, with its counts and its error sequence.
abbrev pub HandleDatagram : Type 0
HandleDatagram = (r : Reflector) → IsMade r → SequenceFits r
    → (source : SocketAddr) (message : GtpuMessage) (payload : List ℕ)
    → ComparedMessage r.config.policy message payload
    → (buffer : List ℕ) → NoneAdded (handling r source message payload buffer).outcome
    → let after : reflector.Called (Result reflector.ReflectorAction) =
    reflector.handle_datagram (rust_reflector r) (rust_address source) (rust_message message payload) in
    (outcome_of after.result
    ≡ outcome_to (rust_action payload) (told (handling r source message payload buffer).outcome))
    × (in_output after.result buffer ≡ placed (handling r source message payload buffer).outcome buffer)
    × (after.reflector ≡ rust_reflector (with_state (handling r source message payload buffer).state r))

abbrev pub AllCallsTyped : ReflectorPolicy → List reflecting.Call → Type 0
AllCallsTyped policy [] = Unit {0}
AllCallsTyped policy (call ∷ calls) = reflecting.Typed policy call × AllCallsTyped policy calls

abbrev pub NoneAddedInCalls : Reflector → List reflecting.Call → Type 0
NoneAddedInCalls r [] = Unit {0}
NoneAddedInCalls r (call ∷ calls) =
    NoneAdded (reflecting.answer_to r call).outcome × NoneAddedInCalls (reflecting.after_call r call) calls

-- Every answer and every output of a run is the Rust's, and so is what is left.
abbrev pub SameReflectorRun : reflector.GtpuReflector → Reflector → List reflecting.Call → Type 0
SameReflectorRun made r calls =
    (reflecting.rust_answers_to made calls ≡ map reflecting.told_answer (reflecting.answers_to r calls))
    × (reflecting.rust_after made calls ≡ rust_reflector (reflecting.after r calls))

-- Every list of calls on what `new_multi` made, and on a fresh reflector with any slice.
abbrev pub ReflectorRuns : Type 0
ReflectorRuns =
    (sessions : List ReflectorSession) (config : MultiSessionReflectorConfig) (made : reflector.GtpuReflector)
    → reflector.new_multi (rust_config config) ≡ Ok made → (calls : List reflecting.Call)
    → AllCallsTyped config.policy calls → NoneAddedInCalls (fresh_reflector sessions config) calls
    → SameReflectorRun made (fresh_reflector sessions config) calls

abbrev pub AllOutputsFit : List reflecting.Call → Type 0
AllOutputsFit [] = Unit {0}
AllOutputsFit (call ∷ calls) = reflecting.OutputFits call × AllOutputsFit calls

-- `ReflectorRuns` where the slice has at least as many rows as the maximum and each output at least 72 bytes: then
-- neither 31 nor 15 is ever due.
abbrev pub ReflectorRunsWithRoom : Type 0
ReflectorRunsWithRoom = (sessions : List ReflectorSession) (config : MultiSessionReflectorConfig)
    → (made : reflector.GtpuReflector) → reflector.new_multi (rust_config config) ≡ Ok made
    → config.max_sessions ≤ length sessions → (calls : List reflecting.Call)
    → AllCallsTyped config.policy calls → AllOutputsFit calls
    → SameReflectorRun made (fresh_reflector sessions config) calls

-- All of it, by the Rust's names.
pub record EqualsTheRust : Type 0 where
  pub compared : WhatIsCompared
  pub added : AddedIsOurs
  pub zero_loss : ZeroLoss
  pub reversed : Reversed
  pub encode : Encode
  pub checksum : Checksum
  pub build_measurement_tpdu : BuildMeasurementTpdu
  pub decode_measurement_tpdu : DecodeMeasurementTpdu
  pub decode_fragment : DecodeFragment
  pub decode_padded : DecodePadded
  pub decode_wrong_length : DecodeWrongLength
  pub decode_differs : DecodeDiffers
  pub echo_tpdu : EchoTpdu
  pub validate_error_indication_ies : ValidateErrorIndicationIes
  pub interval_ns : IntervalNs
  pub engines : Engines
  pub generate : Generate
  pub new : New
  pub every_sheet : EverySheet
  pub record_sent : RecordSent
  pub record_received_tpdu : RecordReceivedTpdu
  pub record_return_gtpu_datagram : RecordReturnGtpuDatagram
  pub report : Report
  pub runs : Runs
  pub runs_up_to_2048 : RunsUpTo2048
  pub new_multi : NewMulti
  pub register_session : RegisterSession
  pub remove_session : RemoveSession
  pub handle_datagram : HandleDatagram
  pub reflector_runs : ReflectorRuns
  pub reflector_runs_with_room : ReflectorRunsWithRoom
