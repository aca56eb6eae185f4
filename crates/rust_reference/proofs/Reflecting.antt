-- Lists of the reflector's calls: call by call, both sides answer alike and hold the same.
use Rattle.std.proofs.Common.{◌≡◌, ℕ, List, [], ◌∷◌, map, refl, ap, ◌∙◌, ap₂, arith}
use Rattle.error.specs.Outcome.{Outcome}
use Rattle.reflector_answer.specs.declared.MultiSessionReflectorConfig.{MultiSessionReflectorConfig}
use Rattle.reflector_sessions.specs.Register.{register_session}
use Rattle.reflector_sessions.specs.Remove.{remove_session}
use Rattle.reflector_sessions.specs.declared.ReflectorSession.{ReflectorSession}
use Rattle.rust_reference.specs.Claims.{NoneAdded, AllCallsTyped, NoneAddedInCalls, AllOutputsFit, ReflectorRuns, ReflectorRunsWithRoom}
use Rattle.rust_reference.specs.Compared.{told}
use Rattle.rust_reference.specs.Error.{Ok}
use Rattle.rust_reference.specs.Map.{Option}
use Rattle.rust_reference.specs.Reflecting.{Call, register, remove, handle, Typed, OutputFits, Given, registered, removed, acted, Answer, answer_to, after_call, answers_to, told_answer, after, rust_answer_to, rust_after_call, rust_answers_to, rust_after}
use Rattle.rust_reference.specs.Reflector as rust
use Rattle.rust_reference.specs.Sessions.{Reflector, table_in, handling, fresh_reflector, rust_config, rust_reflector, rust_session, rust_removed, rust_action, outcome_to, SequenceFits}
use Rattle.rust_reference.proofs.Capacity.{Fits, made_is}
use Rattle.rust_reference.proofs.Handling.{handle_ready, handled_in, handled_fits}
use Rattle.rust_reference.proofs.Registering.{SoundIn, register_sound, registered_in}
use Rattle.rust_reference.proofs.Removing.{remove_sound, removed_in}
use Rattle.rust_reference.proofs.Told.{told_as, told_to}

-- a refusal is one in any terms
none_before : {A B : Type 0} (value : A → B) (o : Outcome A) → NoneAdded (outcome_to value o) → NoneAdded o
none_before value o added n a e = added n a (ap (outcome_to value) e)

-- the answer and what is left; 30 and 31 still pass, and the error sequence is still a u16
record CallSame (r : Reflector) (call : Call) : Type 0 where
  pub answer : rust_answer_to (rust_reflector r) call ≡ told_answer (answer_to r call)
  pub left : rust_after_call (rust_reflector r) call ≡ rust_reflector (after_call r call)
  pub sound : SoundIn (after_call r call)
  pub sequence : SequenceFits (after_call r call)

abbrev answer_of_lem : Outcome Given → List ℕ → Answer
answer_of_lem outcome output = record { outcome = outcome; output = output }

call_same : (r : Reflector) → SoundIn r → SequenceFits r → (call : Call) → Typed r.config.policy call → OutputFits call → CallSame r call
unfolding register_session remove_session
call_same r s sequence (register session) typed long =
    let c = registered_in r session s in
    record {
      answer = ap (λ (o : Outcome Given). answer_of_lem o []) (ap (outcome_to registered) (told_as (λ x. x) (rust.register_session (rust_reflector r) (rust_session session)).result c.0) ∙ told_to registered (register_session (table_in r) session).outcome);
      left = c.1;
      sound = c.2;
      sequence = sequence;
    }
call_same r s sequence (remove teid) typed long =
    let c = removed_in r teid s in
    record {
      answer = ap (λ (o : Outcome Given). answer_of_lem o []) (ap (λ (o : Outcome (Option rust.ReflectorSession)). told (outcome_to removed o)) c.0);
      left = c.1;
      sound = c.2;
      sequence = sequence;
    }
call_same r s sequence (handle source message payload buffer) typed long =
    let c = handled_in r source message payload buffer s long sequence typed in
    let ours = (handling r source message payload buffer).outcome in
    record {
      answer = ap₂ answer_of_lem (ap (outcome_to acted) (c.0 ∙ told_to (rust_action payload) ours) ∙ told_to acted (outcome_to (rust_action payload) ours)) c.1;
      left = c.2;
      sound = s;
      sequence = handled_fits r source message payload buffer s long sequence;
    }

-- 30, 31 and 15 pass where none of them is due
call_ready : (r : Reflector) → Fits r.config.max_sessions → (call : Call) → NoneAdded (answer_to r call).outcome → SoundIn r × OutputFits call
call_ready r fits (register session) added = (register_sound r fits session (none_before registered (register_session (table_in r) session).outcome added), tt)
call_ready r fits (remove teid) added =
    let o = (remove_session (table_in r) teid).outcome in
    (remove_sound r fits teid (none_before rust_removed o (none_before removed (outcome_to rust_removed o) added)), tt)
call_ready r fits (handle source message payload buffer) added =
    let o = (handling r source message payload buffer).outcome in
    handle_ready r source message payload buffer fits (none_before (rust_action payload) o (none_before acted (outcome_to (rust_action payload) o) added))

abbrev RunsAlike : Reflector → List Call → Type 0
RunsAlike r calls = (rust_answers_to (rust_reflector r) calls ≡ map told_answer (answers_to r calls)) × (rust_after (rust_reflector r) calls ≡ rust_reflector (after r calls))

-- one call, then the rest
one_more_lem : (r : Reflector) (call : Call) (calls : List Call) → CallSame r call → RunsAlike (after_call r call) calls → RunsAlike r (call ∷ calls)
one_more_lem r call calls c rest = (
  ap₂ (λ (x : Answer) (l : List Answer). x ∷ l) c.answer (ap (λ (g : rust.GtpuReflector). rust_answers_to g calls) c.left ∙ rest.0),
  ap (λ (g : rust.GtpuReflector). rust_after g calls) c.left ∙ rest.1,
)

-- no call changes the policy
typed_after : (r : Reflector) (call : Call) (calls : List Call) → AllCallsTyped r.config.policy calls → AllCallsTyped (after_call r call).config.policy calls
typed_after r (register session) calls typed = typed
typed_after r (remove teid) calls typed = typed
typed_after r (handle source message payload buffer) calls typed = typed

related : (r : Reflector) → Fits r.config.max_sessions → SequenceFits r → (calls : List Call) → AllCallsTyped r.config.policy calls → NoneAddedInCalls r calls → RunsAlike r calls
related r fits sequence [] typed added = (refl, refl)
related r fits sequence (call ∷ calls) typed added =
    let ready = call_ready r fits call added.0 in
    let c = call_same r ready.0 sequence call typed.0 ready.1 in
    one_more_lem r call calls c (related (after_call r call) (c.sound.above, c.sound.most) c.sequence calls (typed_after r call calls typed.1) added.1)

related_in_room : (r : Reflector) → SoundIn r → SequenceFits r → (calls : List Call) → AllCallsTyped r.config.policy calls → AllOutputsFit calls → RunsAlike r calls
related_in_room r s sequence [] typed long = (refl, refl)
related_in_room r s sequence (call ∷ calls) typed long =
    let c = call_same r s sequence call typed.0 long.0 in
    one_more_lem r call calls c (related_in_room (after_call r call) c.sound c.sequence calls (typed_after r call calls typed.1) long.1)

-- where `new_multi` makes a reflector, 30 is not due, and it is the fresh one
module _ (sessions : List ReflectorSession) (config : MultiSessionReflectorConfig) (made : rust.GtpuReflector) (e : rust.new_multi (rust_config config) ≡ Ok made) where
  abbrev fresh_one : Reflector
  fresh_one = fresh_reflector sessions config

  fresh_is : Fits config.max_sessions × (made ≡ rust_reflector fresh_one)
  fresh_is = made_is sessions config made e

  -- what holds of the fresh one holds of what was made
  made_alike : (calls : List Call) → RunsAlike fresh_one calls → (rust_answers_to made calls ≡ map told_answer (answers_to fresh_one calls)) × (rust_after made calls ≡ rust_reflector (after fresh_one calls))
  made_alike calls c = (ap (λ (g : rust.GtpuReflector). rust_answers_to g calls) fresh_is.1 ∙ c.0, ap (λ (g : rust.GtpuReflector). rust_after g calls) fresh_is.1 ∙ c.1)

  first_fits : SequenceFits fresh_one
  first_fits = omega arith

pub reflector_runs_same : ReflectorRuns
reflector_runs_same sessions config made e calls typed added =
    made_alike sessions config made e calls (related (fresh_reflector sessions config) (fresh_is sessions config made e).0 (first_fits sessions config made e) calls typed added)

pub reflector_runs_in_room : ReflectorRunsWithRoom
reflector_runs_in_room sessions config made e room calls typed long =
    let fits = (fresh_is sessions config made e).0 in
    let s : SoundIn (fresh_reflector sessions config) = record { above = fits.0; most = fits.1; enough = omega arith; room = room } in
    made_alike sessions config made e calls (related_in_room (fresh_reflector sessions config) s (first_fits sessions config made e) calls typed long)
