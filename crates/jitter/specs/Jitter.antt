-- Interarrival jitter: RFC 3550, section 6.4.1, "with the integer form of its appendix A.8, in nanoseconds" (document
-- 02, job 2). The record is the declared struct of the code.
use Rattle.std.specs.Prelude.{ℕ, ◌+◌, ◌-◌, ◌/◌, min, List, [], ◌∷◌}
use Rattle.jitter.specs.Integer.{Integer, less, size}
use Rattle.jitter.specs.declared.JitterState.{JitterState}

-- "The difference D of two first returns, in order of arrival, is the later latency minus the earlier one, with its
-- sign."
abbrev pub difference : ℕ → ℕ → Integer
difference earlier later = less later earlier

-- 2^59
abbrev pub largest_size : ℕ
largest_size = 576460752303423488

-- "Its size is taken as at most 2^59."
unfoldable pub size_taken : ℕ → ℕ → ℕ
size_taken earlier later = min (size (difference earlier later)) largest_size

-- "The state .. adds the size of D and takes off (old state + 8) divided by 16, rounded down." Appendix A.8:
-- `s->jitter += d - ((s->jitter + 8) >> 4)`.
unfoldable pub stepped : ℕ → ℕ → ℕ
stepped state d = state + d - (state + 8) / 16

-- "The state holds 16 times the jitter, starts at 0"; the earlier latency does too.
abbrev pub fresh_jitter : JitterState
fresh_jitter = record { scaled_jitter_ns = 0; earlier_latency_ns = 0 }

-- "The first return only sets the earlier latency."
abbrev pub after_first : ℕ → JitterState → JitterState
after_first latency j = record { scaled_jitter_ns = j.scaled_jitter_ns; earlier_latency_ns = latency }

-- Every later one makes the step, and then sets it.
abbrev pub after_later : ℕ → JitterState → JitterState
after_later latency j = record {
  scaled_jitter_ns = stepped j.scaled_jitter_ns (size_taken j.earlier_latency_ns latency);
  earlier_latency_ns = latency;
}

-- "The report shows the state divided by 16, rounded down." Appendix A.8: `s->jitter >> 4`.
abbrev pub jitter_shown : JitterState → ℕ
jitter_shown j = j.scaled_jitter_ns / 16

-- ---- over a whole list of latencies, in order of arrival

-- What 16 times the jitter becomes, with this latency before the list.
abbrev pub scaled_through : ℕ → ℕ → List ℕ → ℕ
scaled_through state earlier [] = state
scaled_through state earlier (later ∷ latencies) =
    scaled_through (stepped state (size_taken earlier later)) later latencies

-- the last of a latency and the list behind it
abbrev pub last_of : ℕ → List ℕ → ℕ
last_of latency [] = latency
last_of latency (later ∷ latencies) = last_of later latencies

-- The state after these latencies and no others. The first of the list is the first return.
abbrev pub jitter_of : List ℕ → JitterState
jitter_of [] = fresh_jitter
jitter_of (first ∷ latencies) =
    record { scaled_jitter_ns = scaled_through 0 first latencies; earlier_latency_ns = last_of first latencies }
