-- One more latency at the end of a list: the state of the list makes one step.
use Prim.Native.Nat.{ℕ, ◌≤◌}
use mathlib.Core.Path.{◌≡◌, refl, ap₂}
use mathlib.Core.List.{List, [], ◌∷◌, ◌++◌}
use native.Mathlib.Omega.{arith}
use Rattle.jitter.specs.Jitter.{size_taken, stepped, after_later, scaled_through, last_of, jitter_of}
use Rattle.jitter.specs.Claims.{greatest_state}
use Rattle.jitter.proofs.Steps.{size_bounded, step_bounded}

scaled_through_more : (state earlier : ℕ) (latencies : List ℕ) (later : ℕ)
    → scaled_through state earlier (latencies ++ later ∷ [])
    ≡ stepped (scaled_through state earlier latencies) (size_taken (last_of earlier latencies) later)
scaled_through_more state earlier [] later = refl
scaled_through_more state earlier (next ∷ latencies) later =
    scaled_through_more (stepped state (size_taken earlier next)) next latencies later

last_of_more : (latency : ℕ) (latencies : List ℕ) (later : ℕ) → last_of latency (latencies ++ later ∷ []) ≡ later
last_of_more latency [] later = refl
last_of_more latency (next ∷ latencies) later = last_of_more next latencies later

-- behind a list that has a first latency
pub jitter_of_more : (first : ℕ) (latencies : List ℕ) (later : ℕ)
    → jitter_of (first ∷ latencies ++ later ∷ []) ≡ after_later later (jitter_of (first ∷ latencies))
jitter_of_more first latencies later =
    ap₂ (λ (s e : ℕ). record { scaled_jitter_ns = s; earlier_latency_ns = e }) (scaled_through_more 0 first latencies later) (last_of_more first latencies later)

through_bounded : (state earlier : ℕ) (latencies : List ℕ) → state ≤ greatest_state → scaled_through state earlier latencies ≤ greatest_state
through_bounded state earlier [] h = h
through_bounded state earlier (later ∷ latencies) h =
    through_bounded (stepped state (size_taken earlier later)) later latencies (step_bounded state (size_taken earlier later) h (size_bounded earlier later))

pub list_bounded : (latencies : List ℕ) → (jitter_of latencies).scaled_jitter_ns ≤ greatest_state
list_bounded [] = omega arith
list_bounded (first ∷ latencies) = through_bounded 0 first latencies (omega arith)
