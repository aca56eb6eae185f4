-- 30: what `new_multi` makes of a configuration, and that each call judges its maximum alike.
use Rattle.std.proofs.Common.{◌≡◌, ℕ, ◌<◌, ◌≤◌, Bool, true, false, not, ◌||◌, eqb, ltb, ◌⊎◌, List, [], ◌∷◌, length, sym, refl, ap, ◌∙◌, inl, inr, arith, ltb-false, ltb-true, eqb-true}
use Rattle.std.specs.Prelude.{Option, Some, None}
use borrow.Author.Tests.{eqb-false, not-true}
use Rattle.error.specs.Outcome.{Outcome, refused, gives, ◌⇒◌, first_cause}
use Rattle.error.proofs.Among.{of_each}
use Rattle.error.proofs.Causes.{Refuses, refuses, passes, refused_gives}
use Rattle.measurement.specs.declared.DecodedTpdu.{DecodedTpdu}
use Rattle.measurement_reading.specs.Read.{read_of}
use Rattle.measurement_reading.proofs.Numbers.{reading_numbers, read_by}
use Rattle.measurement_damage.specs.Echo.{echo_of_tpdu, echo_of}
use Rattle.reflector.specs.Handle.{handle_datagram}
use Rattle.reflector_answer.specs.Answer.{handed_on, Action, noop, gpdu, reflected, gpdu_outcome, gpdu_known, gpdu_unknown, echo_request_outcome, echo_request, other_message, gpdu_answer, Answer, answer}
use Rattle.gtpu.specs.declared.GtpuMessage.{GtpuMessage}
use Rattle.reflector_answer.specs.declared.MultiSessionReflectorConfig.{MultiSessionReflectorConfig}
use Rattle.reflector_answer.specs.declared.ReflectorNoopReason.TheVariants.{GpduSunk}
use Rattle.reflector_answer.specs.declared.ReflectorPolicy.{ReflectorPolicy}
use Rattle.reflector_answer.specs.declared.ReflectorPolicy.TheVariants.{Echo, SinkAndCount, Route}
use Rattle.reflector_answer.specs.declared.ReflectorSendReason.TheVariants.{RoutedGpdu}
use Rattle.reflector_answer.proofs.Answers.{handling_refused, handling_short, handling_passed}
use Rattle.reflector_sessions.specs.Judge.{table_causes, table_outcome}
use Rattle.reflector_sessions.specs.Register.{session_outcome, register_outcome, register_session}
use Rattle.reflector_sessions.specs.Remove.{remove_outcome, remove_session}
use Rattle.reflector_sessions.specs.Session.{same_session}
use Rattle.reflector_sessions.specs.Table.{find, used_rows}
use Rattle.reflector_sessions.specs.declared.ReflectorSession.{ReflectorSession}
use Rattle.reflector_sessions.specs.declared.SocketAddr.{SocketAddr}
use Rattle.reflector_sessions.proofs.Judging.{Sound, is_30, is_31, is_sound, capacity_refused, table_sound}
use Rattle.rust_reference.specs.Claims.{RefusesAsNewMulti, NewMulti}
use Rattle.rust_reference.specs.Compared.{as_the_rust_tells, told}
use Rattle.rust_reference.specs.Error.{DataplaneTestkitError, Result, Ok, Err, InvalidReflectorCapacity, return_if, ◌>>◌}
use Rattle.rust_reference.specs.Number.{outcome_of}
use Rattle.rust_reference.specs.Reflector as rust
use Rattle.rust_reference.specs.Sessions.{Reflector, table_in, handling, fresh_reflector, rust_config, rust_reflector, IsMade}
use Rattle.rust_reference.proofs.Told.{told_not_by}

-- ---- what `new_multi` makes

abbrev pub Fits : ℕ → Type 0
Fits maximum = (0 < maximum) × (maximum ≤ 4096)

abbrev Unfit : ℕ → Type 0
Unfit maximum = (maximum ≡ 0) ⊎ (4096 < maximum)

pub data Capacity (sessions : List ReflectorSession) (config : MultiSessionReflectorConfig) : Type 0 where
  unfit : Unfit config.max_sessions → rust.new_multi (rust_config config) ≡ Err InvalidReflectorCapacity → Capacity sessions config
  fit : Fits config.max_sessions → rust.new_multi (rust_config config) ≡ Ok (rust_reflector (fresh_reflector sessions config)) → Capacity sessions config

pub capacity : (sessions : List ReflectorSession) (config : MultiSessionReflectorConfig) → Capacity sessions config
unfolding rust.new_multi
capacity sessions config = by (eqb maximum 0) (ltb 4096 maximum) refl refl
  where
    maximum : ℕ
    maximum = config.max_sessions

    judged : Bool → Result rust.GtpuReflector
    judged t = ◌>>◌ (return_if t InvalidReflectorCapacity) (Ok (rust_reflector (fresh_reflector sessions config)))

    by : (a b : Bool) → eqb maximum 0 ≡ a → ltb 4096 maximum ≡ b → Capacity sessions config
    by true b e f = unfit (inl (eqb-true maximum 0 e)) (ap (λ (t : Bool). judged (t || ltb 4096 maximum)) e)
    by false true e f = unfit (inr (ltb-true 4096 maximum f)) (ap (λ (t : Bool). judged (t || ltb 4096 maximum)) e ∙ ap judged f)
    by false false e f =
        fit (let above = eqb-false maximum 0 e in omega arith, ltb-false 4096 maximum f) (ap (λ (t : Bool). judged (t || ltb 4096 maximum)) e ∙ ap judged f)

err_ok : {A : Type 0} {error : DataplaneTestkitError} {x : A} → Err error ≡ Ok x → ⊥
err_ok e = refused_gives (ap outcome_of e)

-- what was made
pub made_is : (sessions : List ReflectorSession) (config : MultiSessionReflectorConfig) (made : rust.GtpuReflector) → rust.new_multi (rust_config config) ≡ Ok made
    → Fits config.max_sessions × (made ≡ rust_reflector (fresh_reflector sessions config))
made_is sessions config made e = by (capacity sessions config)
  where
    by : Capacity sessions config → Fits config.max_sessions × (made ≡ rust_reflector (fresh_reflector sessions config))
    by (unfit h f) = absurd (err_ok (sym f ∙ e))
    by (fit h f) = let g : Ok made ≡ Ok (rust_reflector (fresh_reflector sessions config)) = sym e ∙ f in (h, cc)

pub made_fits : (r : Reflector) → IsMade r → Fits r.config.max_sessions
made_fits r m = (made_is r.sessions r.config m.0 m.1).0

-- told as something else than 30
abbrev Not30 : {A : Type 0} → Outcome A → Type 0
Not30 o = told o ≡ refused 30 → ⊥

-- a call that judges the maximum first
as_new_multi : {A : Type 0} (config : MultiSessionReflectorConfig) (o : Outcome A) → (Unfit config.max_sessions → refused 30 ≡ o)
    → (Fits config.max_sessions → Not30 o) → RefusesAsNewMulti config o
as_new_multi config o first never = by (capacity [] config)
  where
    by : Capacity [] config → RefusesAsNewMulti config o
    by (unfit h f) = (λ error e. ap told (sym (first h)), λ e. f)
    by (fit h f) = (λ error e. absurd (err_ok (sym e ∙ f)), λ e. absurd (never h e))

-- ---- a table whose maximum fits is refused by 31, or sound

fitting : (rows used maximum : ℕ) → Fits maximum → Sound rows used maximum ⊎ Refuses (table_causes rows used maximum) 31
fitting rows used maximum fits = by (ltb maximum used) (ltb rows maximum) refl refl
  where
    by : (a b : Bool) → ltb maximum used ≡ a → ltb rows maximum ≡ b → Sound rows used maximum ⊎ Refuses (table_causes rows used maximum) 31
    by true b e f = inr (is_31 rows used maximum fits.0 fits.1 (inl (ltb-true maximum used e)))
    by false true e f = inr (is_31 rows used maximum fits.0 fits.1 (inr (ltb-true rows maximum f)))
    by false false e f = inl (record { above = fits.0; most = fits.1; enough = ltb-false maximum used e; room = ltb-false rows maximum f })

pub sound_table : {A : Type 0} (rows used maximum : ℕ) (onward : Outcome A) → 0 < maximum → maximum ≤ 4096
    → (first_cause (table_causes rows used maximum) onward ≡ refused 31 → ⊥) → Sound rows used maximum
sound_table rows used maximum onward above most added = by (fitting rows used maximum (above, most))
  where
    by : Sound rows used maximum ⊎ Refuses (table_causes rows used maximum) 31 → Sound rows used maximum
    by (inl s) = s
    by (inr r) = absurd (added (sym (refuses onward r)))

-- ---- no other refusal is by 30

other_number : {A : Type 0} {n : ℕ} {o : Outcome A} → (as_the_rust_tells n ≡ 30 → ⊥) → refused n ≡ o → Not30 o
other_number {n = n} differ e f = let same : refused (as_the_rust_tells n) ≡ refused 30 = ap told e ∙ f in differ cc

table_not_30 : {A : Type 0} (rows used maximum : ℕ) (onward : Outcome A) → Fits maximum → Not30 onward
    → Not30 (first_cause (table_causes rows used maximum) onward)
table_not_30 rows used maximum onward fits h e = by (fitting rows used maximum fits)
  where
    by : Sound rows used maximum ⊎ Refuses (table_causes rows used maximum) 31 → ⊥
    by (inl s) = h (ap told (passes onward (is_sound rows used maximum s)) ∙ e)
    by (inr r) = other_number (λ z. omega arith) (refuses onward r) e

-- no refusal of a T-PDU is told as 30
read_not_30 : (p : List ℕ) (n : ℕ) → read_of p ≡ refused n → as_the_rust_tells n ≡ 30 → ⊥
read_not_30 p n e =
    eqb-false (as_the_rust_tells n) 30 (not-true (eqb (as_the_rust_tells n) 30) (of_each (λ m. not (eqb (as_the_rust_tells m) 30)) reading_numbers refl n (read_by p n e)))

echo_not_30 : (session : ReflectorSession) (p : List ℕ) → Not30 (reflected session (echo_of p))
unfolding echo_of
echo_not_30 session p = by (read_of p) refl
  where
    by : (o : Outcome DecodedTpdu) → read_of p ≡ o
        → Not30 (reflected session (elim o [ refused n ↦ refused n | gives t ↦ gives (echo_of_tpdu t) ]))
    by (refused n) e f = let same : as_the_rust_tells n ≡ 30 = cc in read_not_30 p n e same
    by (gives t) e f = refused_gives (sym f)

-- a message
abbrev AnswersNot30 : Answer → Type 0
AnswersNot30 a = Not30 a.outcome

either_not_30 : (t : Bool) (a b : Answer) → AnswersNot30 a → AnswersNot30 b → AnswersNot30 (elim t as (λ u. Answer) [ true ↦ a | false ↦ b ])
either_not_30 true a b f g = f
either_not_30 false a b f g = g

answer_not_30 : (r : Reflector) (session : Option ReflectorSession) (source : SocketAddr) (message : GtpuMessage) (payload : List ℕ)
    → AnswersNot30 (answer r.config r.state session source message payload)
unfolding answer gpdu_known gpdu_outcome gpdu_unknown echo_request echo_request_outcome other_message
answer_not_30 r session source message payload =
    either_not_30 (eqb message.message_type 255) _ _ (gpdu_not session)
    (either_not_30 (eqb message.message_type 1) _ _ (told_not_by 30 _ _ refl (λ e. refused_gives (sym e)))
    (either_not_30 (eqb message.message_type 2) _ _ (λ e. refused_gives (sym e))
    (either_not_30 (eqb message.message_type 26) _ _ (λ e. refused_gives (sym e))
    (either_not_30 (eqb message.message_type 254) _ _ (λ e. refused_gives (sym e))
    (either_not_30 (eqb message.message_type 31) _ _ (λ e. refused_gives (sym e)) (other_number {n = 37} (λ z. omega arith) refl))))))
  where
    by_policy_lem : (session : ReflectorSession) (policy : ReflectorPolicy)
        → Not30 {A = Action} (elim policy [
          | Echo ↦ reflected session (echo_of payload)
          | SinkAndCount ↦ gives (noop GpduSunk)
          | Route target ↦ gives (gpdu RoutedGpdu target.destination target.teid handed_on)
        ])
    by_policy_lem session Echo = echo_not_30 session payload
    by_policy_lem session SinkAndCount = λ e. refused_gives (sym e)
    by_policy_lem session (Route target) = λ e. refused_gives (sym e)

    gpdu_not : (session : Option ReflectorSession) → AnswersNot30 (gpdu_answer r.config r.state session source message.teid payload)
    gpdu_not (Some session) = by_policy_lem session r.config.policy
    gpdu_not None = λ e. refused_gives (sym e)

-- ---- the calls

module _ (r : Reflector) where
  abbrev rows : ℕ
  rows = length r.sessions

  abbrev maximum : ℕ
  maximum = r.config.max_sessions

  registering : (session : ReflectorSession) → RefusesAsNewMulti r.config (register_session (table_in r) session).outcome
  unfolding register_session register_outcome session_outcome
  registering session =
      as_new_multi r.config (register_session (table_in r) session).outcome (λ h. refuses _ (is_30 rows r.used maximum h))
      (λ h. table_not_30 rows r.used maximum _ h (told_not_by 30 _ _ refl (onward (find session.local_teid (used_rows (table_in r))))))
    where
      onward : (existing : Option ReflectorSession)
          → Not30 {A = Bool} (elim existing [
            | Some other ↦ first_cause ((not (same_session other session) ⇒ 33) ∷ []) (gives false)
            | None ↦ first_cause ((eqb r.used maximum ⇒ 34) ∷ []) (gives true)
          ])
      onward (Some other) = told_not_by 30 _ _ refl (λ e. refused_gives (sym e))
      onward None = told_not_by 30 _ _ refl (λ e. refused_gives (sym e))

  removing : (teid : ℕ) → RefusesAsNewMulti r.config (remove_session (table_in r) teid).outcome
  unfolding remove_session remove_outcome
  removing teid =
      as_new_multi r.config (remove_session (table_in r) teid).outcome (λ h. refuses _ (is_30 rows r.used maximum h))
      (λ h. table_not_30 rows r.used maximum _ h (λ e. refused_gives (sym e)))

  handled : (source : SocketAddr) (message : GtpuMessage) (payload buffer : List ℕ) → RefusesAsNewMulti r.config (handling r source message payload buffer).outcome
  unfolding handle_datagram table_outcome
  handled source message payload buffer =
      as_new_multi r.config (handling r source message payload buffer).outcome
      (λ h. ap outcome (handling_refused rows r.used r.config r.state session source message payload buffer (capacity_refused rows r.used maximum h)))
      (λ h. by (fitting rows r.used maximum h) (ltb (length buffer) 72) refl)
    where
      outcome : Answer → Outcome Action
      outcome a = a.outcome

      session : Option ReflectorSession
      session = find message.teid (used_rows (table_in r))

      by : Sound rows r.used maximum ⊎ Refuses (table_causes rows r.used maximum) 31 → (t : Bool) → ltb (length buffer) 72 ≡ t
          → Not30 (handling r source message payload buffer).outcome
      by (inr u) t e =
          other_number (λ z. omega arith)
          (ap outcome (handling_refused rows r.used r.config r.state session source message payload buffer (refuses (gives r.used) u)))
      by (inl s) true e =
          other_number (λ z. omega arith)
          (ap outcome (handling_short rows r.used r.config r.state session source message payload buffer (table_sound rows r.used maximum s) (ltb-true (length buffer) 72 e)))
      by (inl s) false e = λ f.
          answer_not_30 r session source message payload
          (ap (λ (a : Answer). told a.outcome) (handling_passed rows r.used r.config r.state session source message payload buffer (table_sound rows r.used maximum s) (ltb-false (length buffer) 72 e)) ∙ f)

pub new_multi_lem : NewMulti
new_multi_lem = record {
  makes = λ sessions config made e. (made_is sessions config made e).1;
  register_session = registering;
  remove_session = removing;
  handle_datagram = handled;
}
