-- What the code's values mean: the observer that lent columns and counts form, and what a call answers and leaves.
use Rattle.std.specs.Prelude.{ℕ, ◌≡◌, Result}
use denote.Triple.Both.{Both}
use Rattle.std.specs.Borrow.{MutBor}
use Rattle.error.specs.Answer.{answered}
use Rattle.error.specs.Outcome.{Outcome, refused, gives}
use Rattle.error.specs.declared.Refusal.{Refusal}
use Rattle.rows.specs.Columns.{Columns, Sheet}
use Rattle.rows.specs.declared.Arrival.{Arrival}
use Rattle.rows.specs.declared.Arrival.TheVariants as arrival
use Rattle.observer.specs.Counts.{with_used, one_duplicate, one_out_of_order}
use Rattle.observer.specs.Observer.{Observer}
use Rattle.observer.specs.Judge.{Step}
use Rattle.observer.specs.declared.ObserverCounts.{ObserverCounts}

-- The observer of these columns and the counts beside them.
abbrev pub observer_of : Columns → ObserverCounts → Observer
observer_of columns c = record { columns = columns; counts = c }

-- Whether a call was taken. The Rust answers a first return and a duplicate alike, with Ok(()), and so does this.
abbrev pub taken : {A : Type 0} → Outcome A → Outcome (Unit {0})
taken (refused n) = refused n
taken (gives x) = gives tt

-- What a call answered, and the columns and counts as it left them.
abbrev pub recorded : Outcome (Unit {0}) → ObserverCounts → Columns → Step
recorded outcome c columns = record { outcome = outcome; observer = observer_of columns c }

-- The counts after sending, by how many rows are then in use. A refusal leaves them.
abbrev pub after_entry : ObserverCounts → Outcome ℕ → ObserverCounts
after_entry c (refused n) = c
after_entry c (gives used) = with_used used c

-- The counts after a return, by what became of the sequence. A refusal leaves them.
abbrev pub after_arrival : ObserverCounts → Outcome Arrival → ObserverCounts
after_arrival c (refused n) = c
after_arrival c (gives arrival.InOrder) = c
after_arrival c (gives arrival.OutOfOrder) = one_out_of_order c
after_arrival c (gives arrival.Duplicate) = one_duplicate c

-- ---- in contracts

-- The counts that a call is lent, when it begins and when it returns.
abbrev pub Counts : Type 0
Counts = Both (MutBor ObserverCounts) (MutBor ObserverCounts)

-- The observer that a call is lent: its columns, with these counts.
abbrev pub lent : Sheet → ObserverCounts → Observer
lent s c = observer_of s.entry c

-- The answer, the counts and the columns when a call returns are what the definition gives for the observer that it was
-- lent.
abbrev pub records : Sheet → Counts → Result (Unit {0}) Refusal → (Observer → Step) → Type 0
records s c answer definition =
    recorded (answered answer) c.exit.now s.exit ≡ definition (lent s c.entry.now)
