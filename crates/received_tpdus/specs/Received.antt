-- A list of T-PDUs that came back, taken in one call: 21, and then the single call of each, in turn. The Rust has no
-- such call.
use Rattle.std.specs.Prelude.{ℕ, min, ◌≡◌, List, [], ◌∷◌, ◌++◌, map, length, take, drop, Result}
use denote.Triple.Both.{Both}
use Rattle.std.specs.Borrow.{MutBor}
use Rattle.error.specs.Answer.{answered}
use Rattle.error.specs.Outcome.{Outcome, refused, gives}
use Rattle.error.specs.declared.Refusal.{Refusal}
use Rattle.observer.specs.Observer.{Observer}
use Rattle.observer.specs.Judge.{judged, Step}
use Rattle.observer.specs.InTurn.{Steps, in_turn}
use Rattle.rows.specs.Columns.{Sheet}
use Rattle.observer.specs.Answer.{Counts, observer_of, lent}
use Rattle.return_calls.specs.Returns.{sequence_read, record_received_tpdu}

-- T-PDUs of these lengths, end to end. Where the bytes end first, the last ones are shorter, and the reader judges them
-- as they are.
abbrev pub tpdus_of : List ℕ → List ℕ → List (List ℕ)
tpdus_of [] bytes = []
tpdus_of (n ∷ lengths) bytes = take n bytes ∷ tpdus_of lengths (drop n bytes)

-- A T-PDU that came back, and its time.
pub record Received : Type 0 where
  pub time : ℕ
  pub tpdu : List ℕ

abbrev pub received_of : List ℕ → List (List ℕ) → List Received
received_of [] tpdus = []
received_of (t ∷ ts) [] = []
received_of (t ∷ ts) (tpdu ∷ tpdus) = record { time = t; tpdu = tpdu } ∷ received_of ts tpdus

abbrev pub record_received : Observer → Received → Step
record_received o r = record_received_tpdu o r.time r.tpdu

-- How many returns there are: as many as the shortest of the columns has.
abbrev pub returns_in : List ℕ → List ℕ → List ℕ → List ℕ → ℕ
returns_in times lengths returned numbers =
    min (length times) (min (length lengths) (min (length returned) (length numbers)))

-- What a list of returns gives: how many there were, or a refusal of the whole list; and the two columns that are lent
-- for it, and the observer, as the call leaves them.
pub record ReturnsTaken : Type 0 where
  pub outcome : Outcome ℕ
  pub returned : List ℕ
  pub numbers : List ℕ
  pub observer : Observer

-- what is given stands at the front of a lent column
abbrev pub at_front : List ℕ → List ℕ → List ℕ
at_front front column = front ++ drop (length front) column

-- The sequence that a T-PDU reads as, 0 beside a refusal of the reader.
abbrev pub sequence_or_0 : Outcome ℕ → ℕ
sequence_or_0 (refused n) = 0
sequence_or_0 (gives q) = q

-- The T-PDUs return one after the other. The sequence that each reads as, 0 beside a refusal of the reader, and the
-- number of each return are written to their columns.
abbrev pub take_returns : Observer → List ℕ → List (List ℕ) → List ℕ → List ℕ → ReturnsTaken
take_returns o times tpdus returned numbers =
    let s : Steps = in_turn record_received o (received_of times tpdus) in
    record {
      outcome = gives (length s.numbers);
      returned = at_front (map (λ tpdu. sequence_or_0 (sequence_read tpdu)) tpdus) returned;
      numbers = at_front s.numbers numbers;
      observer = s.observer;
    }

-- "Every call .. judges 21 first", for an empty list too. That refusal leaves all as it was.
unfoldable pub record_received_tpdus : Observer → List ℕ → List ℕ → List ℕ → List ℕ → List ℕ → ReturnsTaken
record_received_tpdus o times lengths bytes returned numbers =
    let tpdus : List (List ℕ) = take (returns_in times lengths returned numbers) (tpdus_of lengths bytes) in
    elim (judged o (gives (take_returns o times tpdus returned numbers))) [
      | refused n ↦ record { outcome = refused n; returned = returned; numbers = numbers; observer = o }
      | gives taken ↦ taken
    ]

-- ---- in contracts

-- A column of numbers that a call may write, when it begins and when it returns.
abbrev pub WrittenColumn : Type 0
WrittenColumn = Both (MutBor (List ℕ)) (MutBor (List ℕ))

-- In a contract: `records` of the observer's calls, for a list of returns and its two columns.
abbrev pub records_returns : Sheet → Counts → Result ℕ Refusal → WrittenColumn → WrittenColumn
    → (Observer → List ℕ → List ℕ → ReturnsTaken) → Type 0
records_returns s c answer returned numbers definition =
    record {
      outcome = answered answer;
      returned = returned.exit.now;
      numbers = numbers.exit.now;
      observer = observer_of s.exit c.exit.now;
    }
    ≡ definition (lent s c.entry.now) returned.entry.now numbers.entry.now
