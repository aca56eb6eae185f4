-- What each way out of the two calls leaves: the answer and the table are those of the definitions.
use Rattle.std.proofs.Common.{ℕ, ◌≡◌, ◌-◌, ◌<◌, Bool, true, false, Option, Some, None, Result, Ok, Err, sym, ap, ◌∙◌, arith, length, get_or, set}
use Rattle.std.proofs.lemmas.List.{get_or_default}
use borrow.Author.Tests.{eq-eqb, ne_eqb}
use Rattle.error.specs.Answer.{answered, number_of}
use Rattle.error.specs.Outcome.{Outcome, refused, gives, first_cause}
use Rattle.error.specs.declared.Refusal.{Refusal}
use Rattle.error.specs.declared.Refusal.TheVariants as refusal
use Rattle.error.proofs.Causes.{refuses, passes}
use Rattle.reflector_sessions.specs.Register.{invalid_session, session_outcome, register_outcome, register_session, registered_table, registration_means, Registers}
use Rattle.reflector_sessions.specs.Remove.{remove_outcome, remove_session, removed_table, Removes}
use Rattle.reflector_sessions.specs.Session.{no_session, same_session}
use Rattle.reflector_sessions.specs.Table.{Table, table_of, used_rows, find, place_of, appended, swap_removed, judged_table}
use Rattle.reflector_sessions.specs.declared.Registration.{Registration}
use Rattle.reflector_sessions.specs.declared.Registration.TheVariants.{Added, Unchanged}
use Rattle.reflector_sessions.specs.declared.ReflectorSession.{ReflectorSession}
use Rattle.reflector_sessions.proofs.Judging.{judged_refused, is_sound}
use Rattle.reflector_sessions.proofs.Search.{SoundTable}

-- ---- registering
module _ (t : Table) (session : ReflectorSession) where
  abbrev existing : Option ReflectorSession
  existing = find session.local_teid (used_rows t)

  -- an answer that means the outcome
  registers : (r : Result Registration Refusal) → registration_means r ≡ register_outcome (length t.sessions) t.used t.maximum existing session
      → Registers r (registered_table (registration_means r) session t) (register_session t session)
  unfolding register_session
  registers r e = record { outcome = e; table = ap (λ o. registered_table o session t) e }

  pub unsound_refused : (r : Refusal) → refused (number_of r) ≡ judged_table t → Registers (Err r) t (register_session t session)
  unfolding register_outcome
  unsound_refused r e = registers (Err r) (refuses _ (judged_refused (length t.sessions) t.used t.maximum e))

  module _ (sound : SoundTable t) where
    passed : {o : Outcome Bool} → o ≡ session_outcome t.used t.maximum existing session → o ≡ register_outcome (length t.sessions) t.used t.maximum existing session
    unfolding register_outcome
    passed e = e ∙ passes _ (is_sound (length t.sessions) t.used t.maximum sound)

    pub invalid_refused : invalid_session session ≡ true → Registers (Err refusal.InvalidReflectorSession) t (register_session t session)
    unfolding session_outcome first_cause
    invalid_refused e = registers (Err refusal.InvalidReflectorSession) (passed (rw (e, session_outcome)))

    module _ (valid : invalid_session session ≡ false) where
      pub same_kept : (other : ReflectorSession) → existing ≡ Some other → same_session other session ≡ true → Registers (Ok Unchanged) t (register_session t session)
      unfolding session_outcome first_cause
      same_kept other f e = registers (Ok Unchanged) (passed (rw (valid, f, e, session_outcome)))

      pub other_refused : (other : ReflectorSession) → existing ≡ Some other → same_session other session ≡ false
          → Registers (Err refusal.ReflectorSessionConflict) t (register_session t session)
      unfolding session_outcome first_cause
      other_refused other f e = registers (Err refusal.ReflectorSessionConflict) (passed (rw (valid, f, e, session_outcome)))

      pub full_refused : existing ≡ None → t.used ≡ t.maximum → Registers (Err refusal.ReflectorSessionCapacityExceeded) t (register_session t session)
      unfolding session_outcome first_cause
      full_refused f e = registers (Err refusal.ReflectorSessionCapacityExceeded) (passed (rw (valid, f, eq-eqb t.used t.maximum e, session_outcome)))

      pub added : existing ≡ None → (t.used ≡ t.maximum → ⊥) → Registers (Ok Added) (appended session t) (register_session t session)
      unfolding session_outcome first_cause
      added f e = registers (Ok Added) (passed (rw (valid, f, ne_eqb t.used t.maximum e, session_outcome)))

-- ---- removal
module _ (t : Table) (teid : ℕ) where
  removes : (r : Result (Option ReflectorSession) Refusal) → answered r ≡ remove_outcome (length t.sessions) t.used t.maximum (find teid (used_rows t))
      → Removes r (removed_table (answered r) (place_of teid (used_rows t)) t) (remove_session t teid)
  unfolding remove_session
  removes r e = record { outcome = e; table = ap (λ o. removed_table o (place_of teid (used_rows t)) t) e }

  pub removal_refused : (r : Refusal) → refused (number_of r) ≡ judged_table t → Removes (Err r) t (remove_session t teid)
  unfolding remove_outcome
  removal_refused r e = removes (Err r) (refuses _ (judged_refused (length t.sessions) t.used t.maximum e))

  module _ (sound : SoundTable t) where
    passes_removal : (o : Option ReflectorSession) → find teid (used_rows t) ≡ o → gives o ≡ remove_outcome (length t.sessions) t.used t.maximum (find teid (used_rows t))
    unfolding remove_outcome
    passes_removal o e = ap gives (sym e) ∙ passes _ (is_sound (length t.sessions) t.used t.maximum sound)

    pub none_removed : find teid (used_rows t) ≡ None → Removes (Ok None) t (remove_session t teid)
    none_removed e = removes (Ok None) (passes_removal None e)

    -- the last used row goes into the hole; past the rows reads any `d`
    pub removed : (place : ℕ) (session d : ReflectorSession) → place ≡ place_of teid (used_rows t) → place < t.used → find teid (used_rows t) ≡ Some session
        → Removes (Ok (Some session)) (table_of (set t.sessions place (get_or t.sessions (t.used - 1) d)) (t.used - 1) t.maximum) (remove_session t teid)
    removed place session d p l e =
        let r = removes (Ok (Some session)) (passes_removal (Some session) e) in
        let last : t.used - 1 < length t.sessions = let enough = sound.enough in let room = sound.room in omega arith in
        record {
          outcome = r.outcome;
          table = ap (λ x. table_of (set t.sessions place x) (t.used - 1) t.maximum) (get_or_default t.sessions (t.used - 1) d no_session last)
              ∙ ap (λ n. swap_removed n t) p ∙ r.table;
        }
