-- What a caller knows of a T-PDU from what reading it answered.
use mathlib.Core.Path.{◌≡◌, refl, sym, ap, ap₂, ◌∙◌}
use Prim.Native.Nat.{ℕ}
use mathlib.Core.List.{List}
use Rattle.std.proofs.lemmas.Result.{err_from_is_err_and}
use Rattle.error.specs.Outcome.{Outcome, refused, gives}
use Rattle.error.proofs.Causes.{refused_gives}
use Rattle.measurement.specs.declared.DecodedTpdu.{DecodedTpdu}
use Rattle.measurement_reading.specs.Read.{read_of}
use Rattle.measurement_decode.specs.Numbers.{values_of, tpdu_numbers, source_left, destination_left}
use Rattle.measurement_decode.specs.declared.TpduNumbers.{TpduNumbers}

-- it was refused by that number
pub read_refused : (p : List ℕ) {n : ℕ} → refused n ≡ tpdu_numbers (read_of p) → read_of p ≡ refused n
unfolding tpdu_numbers
read_refused p {n} = go (read_of p)
  where
    go : (o : Outcome DecodedTpdu) → refused n ≡ tpdu_numbers o → o ≡ refused n
    go (refused m) e = ap refused cc
    go (gives t) e = absurd (refused_gives e)

-- or read, and those are its values
pub record Values (p : List ℕ) (x : TpduNumbers) : Type 0 where
  pub tpdu : DecodedTpdu
  pub is : read_of p ≡ gives tpdu
  pub values : x ≡ values_of tpdu

pub read_given : (p : List ℕ) {x : TpduNumbers} → gives x ≡ tpdu_numbers (read_of p) → Values p x
unfolding tpdu_numbers
read_given p {x} = go (read_of p) refl
  where
    go : (o : Outcome DecodedTpdu) → read_of p ≡ o → gives x ≡ tpdu_numbers o → Values p x
    go (refused n) f e = absurd (refused_gives (sym e))
    go (gives t) f e = record { tpdu = t; is = f; values = cc }

-- the whole answer, put together from the values and the lent addresses
pub put_together : (p s' t' : List ℕ) {x : TpduNumbers} {s t : List ℕ} → gives x ≡ tpdu_numbers (read_of p) → s ≡ source_left (read_of p) s'
    → t ≡ destination_left (read_of p) t'
    → read_of p
    ≡ gives (
    record {
      flow = record { version = x.version; src = s; dst = t; src_port = x.src_port; dst_port = x.dst_port };
      measurement = record { sequence = x.sequence; send_timestamp_ns = x.send_timestamp_ns };
    }
    )
unfolding tpdu_numbers source_left destination_left
put_together p s' t' {x} {s} {t} = go (read_of p)
  where
    made : TpduNumbers → List ℕ → List ℕ → DecodedTpdu
    made x s t = record {
      flow = record { version = x.version; src = s; dst = t; src_port = x.src_port; dst_port = x.dst_port };
      measurement = record { sequence = x.sequence; send_timestamp_ns = x.send_timestamp_ns };
    }

    go : (o : Outcome DecodedTpdu) → gives x ≡ tpdu_numbers o → s ≡ source_left o s' → t ≡ destination_left o t' → o ≡ gives (made x s t)
    go (refused n) e es et = absurd (refused_gives (sym e))
    go (gives d) e es et =
        let ex : x ≡ values_of d = cc in
        ap gives (sym (ap₂ (λ (s t : List ℕ). made x s t) es et ∙ ap (λ (x : TpduNumbers). made x d.flow.src d.flow.dst) ex))

pub ruleset answering = (read_refused, put_together, err_from_is_err_and)
