-- Whole runs: call by call, both sides stay related and answer alike.
use Rattle.std.proofs.Common.{◌≡◌, ℕ, suc, ◌≤◌, Bool, true, false, ◌||◌, eqb, ltb, List, [], ◌∷◌, ◌++◌, map, length, sym, refl, ap, ◌∙◌, ap₂, arith, length-append}
use Rattle.error.specs.Outcome.{Outcome, refused, gives}
use Rattle.error.proofs.Tests.{true_not_false}
use Rattle.observer.specs.Observer.{Observer, capacity, rows, sent_row}
use Rattle.observer.specs.Place.{was_sent}
use Rattle.observer.specs.Sending.{record_sent}
use Rattle.return_calls.specs.Returns.{record_received_tpdu, record_return_message}
use Rattle.report.specs.Report.{reporting}
use Rattle.observer.proofs.Judging.{well}
use Rattle.observer.proofs.Keeping.{well_rows}
use Rattle.rows.specs.Columns.{column_lengths}
use Rattle.rows.proofs.Within.{holds_2048}
use Rattle.observer.specs.Counts.{fresh}
use Rattle.rust_reference.specs.Claims.{NoneAdded, AllTyped, NoneAddedIn, Runs, RunsUpTo2048}
use Rattle.rust_reference.specs.Sheet.{sent_of, Same}
use Rattle.return_calls.specs.Kinds.{Kind, MeasurementTpdu, ErrorIndication, EchoResponse, Ignored}
use Rattle.rust_reference.specs.Compared.{told}
use Rattle.rust_reference.specs.Error as error
use Rattle.rust_reference.specs.Error.{Result, Ok, Err, InvalidPacket, TimestampReversed}
use Rattle.rust_reference.specs.Map.{Option, None, Some, Entry, get, contains_key, insert}
use Rattle.rust_reference.specs.Gtpu.{validate_error_indication_ies}
use Rattle.rust_reference.specs.Measurement as measurement
use Rattle.rust_reference.specs.Runs.{Call, sending, receiving, returning, reporting_on, Typed, Answer, done, message, reported, answering, answer_to, after_call, answers_to, after, rust_answer_to, rust_after_call, rust_answers_to, rust_after}
use Rattle.rust_reference.specs.Traffic as traffic
use Rattle.rust_reference.specs.Traffic.{ContinuityObserver, new, Recorded, tried, ok_or, checked_sub, duplicate, first_return, error_indication, record_return_gtpu_datagram}
use Rattle.rust_reference.proofs.Observing.{new_same, sending_kept, sending_same, arriving, received_step, received_same, message_step, message_same}
use Rattle.rust_reference.proofs.Maps.{Located, found, absent, locate, insert_absent}
use Rattle.rust_reference.proofs.Reporting.{sent_length, report_same}

-- an answer is told as its outcome is
told_answering : {A : Type 0} (answer : A → Answer) (o : Outcome A) → answering answer (told o) ≡ told (answering answer o)
told_answering answer (refused n) = refl
told_answering answer (gives x) = refl

call_same : (rust : ContinuityObserver) (o : Observer) → Same rust o → (call : Call) → Typed call → NoneAdded (answer_to o call)
    → (rust_answer_to rust call ≡ told (answer_to o call)) × Same (rust_after_call rust call) (after_call o call)
call_same rust o same (sending q t) typed added =
    let s = sending_same rust o same q t (λ n a e. added n a (ap (answering (λ u. done)) e)) in
    (ap (answering (λ u. done)) s.0 ∙ told_answering (λ (u : Unit {0}). done) (record_sent o q t).outcome, s.1)
call_same rust o same (receiving t tpdu) typed added =
    let s = received_same rust o same t typed.0 tpdu typed.1 in (ap (answering (λ u. done)) s.0 ∙ told_answering (λ (u : Unit {0}). done) (record_received_tpdu o t tpdu).outcome, s.1)
call_same rust o same (returning t ty payload) typed added =
    let s = message_same rust o same t typed.0 ty payload typed.1 in (ap (answering message) s.0 ∙ told_answering message (record_return_message o t ty payload).outcome, s.1)
call_same rust o same (reporting_on start end budget) typed added =
    (ap (answering reported) (report_same rust o same start end budget) ∙ told_answering reported (reporting o start end budget), same)

abbrev RunsAlike : ContinuityObserver → Observer → List Call → Type 0
RunsAlike rust o calls = (rust_answers_to rust calls ≡ map told (answers_to o calls)) × Same (rust_after rust calls) (after o calls)

-- one call, then the rest
one_more_lem : (rust : ContinuityObserver) (o : Observer) (call : Call) (calls : List Call) → rust_answer_to rust call ≡ told (answer_to o call)
    → RunsAlike (rust_after_call rust call) (after_call o call) calls → RunsAlike rust o (call ∷ calls)
one_more_lem rust o call calls answer rest = (ap₂ (λ (x : Outcome Answer) (l : List (Outcome Answer)). x ∷ l) answer rest.0, rest.1)

related : (rust : ContinuityObserver) (o : Observer) → Same rust o → (calls : List Call) → AllTyped calls → NoneAddedIn o calls → RunsAlike rust o calls
related rust o same [] typed added = (refl, same)
related rust o same (call ∷ calls) typed added =
    let s = call_same rust o same call typed.0 added.0 in
    one_more_lem rust o call calls s.0 (related (rust_after_call rust call) (after_call o call) s.1 calls typed.1 added.1)

pub runs_same : Runs
runs_same o fresh calls typed added = related new o (new_same o fresh) calls typed added

-- ---- up to 2,048 sequences

-- an insertion makes a map no shorter
insert_grows : (q t : ℕ) (m : List Entry) → length m ≤ length (insert q t m)
insert_grows q t [] = omega arith
insert_grows q t (e ∷ m) = by (ltb q e.key) (eqb q e.key) (insert_grows q t m)
  where
    by : (a b : Bool) → length m ≤ length (insert q t m)
        → suc (length m) ≤ length {A = Entry} (elim a [
          | true ↦ record { key = q; value = t } ∷ e ∷ m
          | false ↦ elim b [ true ↦ record { key = q; value = t } ∷ m | false ↦ e ∷ insert q t m ]
        ])
    by true b ih = omega arith
    by false true ih = omega arith
    by false false ih = omega arith

-- a return leaves what was sent
module _ (rust : ContinuityObserver) (t : ℕ) where
  arriving_keeps : (q : ℕ) → (arriving rust t q).observer.sent ≡ rust.sent
  unfolding duplicate first_return
  arriving_keeps q = by (get q rust.sent)
    where
      last : (l : ℕ) (b : Bool) → Recorded (Unit {0})
      last l b = elim b [ true ↦ record { result = Ok tt; observer = duplicate rust } | false ↦ record { result = Ok tt; observer = first_return rust q l } ]

      last_keeps : (l : ℕ) (b : Bool) → (last l b).observer.sent ≡ rust.sent
      last_keeps l true = refl
      last_keeps l false = refl

      second : (d : Option ℕ) → (tried (ok_or d TimestampReversed) rust (λ l. last l (contains_key q rust.received))).observer.sent ≡ rust.sent
      second None = refl
      second (Some l) = last_keeps l (contains_key q rust.received)

      by : (g : Option ℕ)
          → (tried (ok_or g (InvalidPacket error.received_sequence_was_not_sent)) rust
          (λ s. tried (ok_or (checked_sub t s) TimestampReversed) rust (λ l. last l (contains_key q rust.received)))).observer.sent
          ≡ rust.sent
      by None = refl
      by (Some s) = second (checked_sub t s)

  received_keeps : (tpdu : List ℕ) → (traffic.record_received_tpdu rust t tpdu).observer.sent ≡ rust.sent
  unfolding traffic.record_received_tpdu
  received_keeps tpdu = by (measurement.decode_measurement_tpdu tpdu)
    where
      by : (x : Result measurement.DecodedTpdu) → (tried x rust (λ d. arriving rust t d.measurement.sequence)).observer.sent ≡ rust.sent
      by (Ok d) = arriving_keeps d.measurement.sequence
      by (Err x) = refl

  message_keeps : (ty : ℕ) (payload : List ℕ) → (record_return_gtpu_datagram rust t ty payload).observer.sent ≡ rust.sent
  unfolding record_return_gtpu_datagram error_indication
  message_keeps ty payload = by (eqb ty 255) (eqb ty 26) (eqb ty 2) (eqb ty 254 || eqb ty 31)
    where
      received : Recorded (Unit {0})
      received = traffic.record_received_tpdu rust t payload

      as_return : (r : Result (Unit {0})) → (tried r received.observer (λ u. record { result = Ok MeasurementTpdu; observer = received.observer })).observer.sent ≡ rust.sent
      as_return (Ok u) = received_keeps payload
      as_return (Err x) = received_keeps payload

      as_indication : (r : Result (Unit {0})) → (tried r rust (λ u. record { result = Ok ErrorIndication; observer = error_indication rust })).observer.sent ≡ rust.sent
      as_indication (Ok u) = refl
      as_indication (Err x) = refl

      answered : (a b c d : Bool) → Recorded Kind
      answered a b c d =
          elim a [
            | true ↦ tried received.result received.observer (λ u. record { result = Ok MeasurementTpdu; observer = received.observer })
            | false ↦ elim b [
              | true ↦ tried (validate_error_indication_ies payload) rust (λ u. record { result = Ok ErrorIndication; observer = error_indication rust })
              | false ↦ elim c [
                | true ↦ record { result = Ok EchoResponse; observer = rust }
                | false ↦ elim d [
                  | true ↦ record { result = Ok (Ignored ty); observer = rust }
                  | false ↦ record { result = Err (InvalidPacket error.unsupported_GTP_U_return_message_type); observer = rust }
                ]
              ]
            ]
          ]

      by : (a b c d : Bool) → (answered a b c d).observer.sent ≡ rust.sent
      by true b c d = as_return received.result
      by false true c d = as_indication (validate_error_indication_ies payload)
      by false false true d = refl
      by false false false true = refl
      by false false false false = refl

call_grows : (rust : ContinuityObserver) (call : Call) → length rust.sent ≤ length (rust_after_call rust call).sent
unfolding traffic.record_sent
call_grows rust (sending q t) = insert_grows q t rust.sent
call_grows rust (receiving t tpdu) = omega (arith, ap length (received_keeps rust t tpdu))
call_grows rust (returning t ty payload) = omega (arith, ap length (message_keeps rust t ty payload))
call_grows rust (reporting_on start end budget) = omega arith

grows : (rust : ContinuityObserver) (calls : List Call) → length rust.sent ≤ length (rust_after rust calls).sent
grows rust [] = omega arith
grows rust (call ∷ calls) = omega (arith, call_grows rust call, grows (rust_after_call rust call) calls)

-- a row is free for a new sequence where the map stays within 2,048
free_row : (rust : ContinuityObserver) (o : Observer) → Same rust o → capacity o ≡ 2048 → (q t : ℕ) → length (insert q t rust.sent) ≤ 2048
    → was_sent q (rows o) ≡ false → o.counts.used ≡ capacity o → ⊥
free_row rust o same room q t h w full = by (locate q (rows o) (well_rows o same.well).rises)
  where
    by : Located q (rows o) → ⊥
    by (found before r after e b s a p known) = true_not_false (sym known ∙ w)
    by (absent before after e b a p known) =
        let grown : insert q t rust.sent ≡ sent_of (before ++ sent_row q t ∷ after) = ap (insert q t) (same.sent ∙ ap sent_of e) ∙ insert_absent q before after b a t in
        omega (
          arith,
          ap length grown,
          sent_length (before ++ sent_row q t ∷ after),
          length-append before (sent_row q t ∷ after),
          length-append before after,
          ap length e,
          (well o same.well).fronts.count,
          full,
          room,
          h,
        )

call_free : (rust : ContinuityObserver) (o : Observer) → Same rust o → capacity o ≡ 2048 → (call : Call) → Typed call → length (rust_after_call rust call).sent ≤ 2048
    → (rust_answer_to rust call ≡ told (answer_to o call)) × Same (rust_after_call rust call) (after_call o call) × (capacity (after_call o call) ≡ capacity o)
unfolding traffic.record_sent
call_free rust o same room (sending q t) typed h =
    let s = sending_kept rust o same q t (free_row rust o same room q t h) in (ap (λ (x : Outcome (Unit {0})). told (answering (λ u. done) x)) s.0, s.1, s.2)
call_free rust o same room (receiving t tpdu) typed h =
    let s = received_step rust o same t typed.0 tpdu typed.1 in
    (ap (answering (λ u. done)) s.answer ∙ told_answering (λ (u : Unit {0}). done) (record_received_tpdu o t tpdu).outcome, s.same, s.room)
call_free rust o same room (returning t ty payload) typed h =
    let s = message_step rust o same t typed.0 ty payload typed.1 in
    (ap (answering message) s.answer ∙ told_answering message (record_return_message o t ty payload).outcome, s.same, s.room)
call_free rust o same room (reporting_on start end budget) typed h =
    (ap (answering reported) (report_same rust o same start end budget) ∙ told_answering reported (reporting o start end budget), same, refl)

related_free : (rust : ContinuityObserver) (o : Observer) → Same rust o → capacity o ≡ 2048 → (calls : List Call) → AllTyped calls
    → length (rust_after rust calls).sent ≤ 2048 → RunsAlike rust o calls
related_free rust o same room [] typed h = (refl, same)
related_free rust o same room (call ∷ calls) typed h =
    let s = call_free rust o same room call typed.0 (omega (arith, grows (rust_after_call rust call) calls, h)) in
    one_more_lem rust o call calls s.0 (related_free (rust_after_call rust call) (after_call o call) s.1 (s.2 ∙ room) calls typed.1 h)

pub runs_of_2048 : RunsUpTo2048
unfolding capacity
runs_of_2048 o fresh long calls typed h = related_free new o (new_same o fresh) (holds_2048 (column_lengths o.columns) long) calls typed h
