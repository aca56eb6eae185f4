-- The echo of a T-PDU: document 01, leaf 4.
use Rattle.std.specs.Prelude.{ℕ, List}
use Rattle.error.specs.Outcome.{Outcome, refused, gives}
use Rattle.measurement.specs.Flow.{reversed_of}
use Rattle.measurement.specs.declared.DecodedTpdu.{DecodedTpdu}
use Rattle.measurement_packet.specs.Packet.{build_of}
use Rattle.measurement_reading.specs.Read.{read_of}

-- "sequence and time kept, options and extra bytes gone": the T-PDU is built anew.
abbrev pub echo_of_tpdu : DecodedTpdu → List ℕ
echo_of_tpdu tpdu =
    build_of (reversed_of tpdu.flow) tpdu.measurement.sequence tpdu.measurement.send_timestamp_ns

unfoldable pub echo_of : List ℕ → Outcome (List ℕ)
echo_of tpdu = elim (read_of tpdu) [ refused n ↦ refused n | gives t ↦ gives (echo_of_tpdu t) ]
