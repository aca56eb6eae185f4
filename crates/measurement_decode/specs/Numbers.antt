-- What reading answers in numbers, and what it leaves in the arrays that were lent for the addresses.
use Rattle.std.specs.Prelude.{ℕ, List}
use Rattle.error.specs.Outcome.{Outcome, refused, gives}
use Rattle.measurement.specs.declared.DecodedTpdu.{DecodedTpdu}
use Rattle.measurement_decode.specs.declared.TpduNumbers.{TpduNumbers}

-- What a judge says of an outcome: it refuses by the same number, or gives nothing.
abbrev pub verdict : {A : Type 0} → Outcome A → Outcome (Unit {0})
verdict (refused n) = refused n
verdict (gives x) = gives tt

-- The values of a T-PDU but its addresses.
abbrev pub values_of : DecodedTpdu → TpduNumbers
values_of t = record {
  sequence = t.measurement.sequence;
  src_port = t.flow.src_port;
  send_timestamp_ns = t.measurement.send_timestamp_ns;
  version = t.flow.version;
  dst_port = t.flow.dst_port;
}

-- These values; or the refusal's number and nothing else.
unfoldable pub tpdu_numbers : Outcome DecodedTpdu → Outcome TpduNumbers
tpdu_numbers (refused n) = refused n
tpdu_numbers (gives t) = gives (values_of t)

-- The address that was read; where reading refuses, what was lent: "Left as it was: all".
unfoldable pub source_left : Outcome DecodedTpdu → List ℕ → List ℕ
source_left (refused n) lent = lent
source_left (gives t) lent = t.flow.src

unfoldable pub destination_left : Outcome DecodedTpdu → List ℕ → List ℕ
destination_left (refused n) lent = lent
destination_left (gives t) lent = t.flow.dst
