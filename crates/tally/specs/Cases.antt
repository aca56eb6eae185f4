-- Document 01's eight proved cases, as one table: what the definitions compute, and what the paper says.
-- proofs/Cases.antt proves every row.
use Rattle.std.specs.Prelude.{ℕ, ◌≡◌, List, [], ◌∷◌, ◌++◌, Bool, true, false, replicate, Option, None}
use Rattle.error.specs.Outcome.{Outcome, refused, gives}
use Rattle.field.specs.Field.{field}
use Rattle.evidence.specs.Budget.{zero_loss}
use Rattle.evidence.specs.declared.LatencySummary.{LatencySummary}
use Rattle.evidence.specs.declared.PacketContinuityReport.{PacketContinuityReport}
use Rattle.measurement.specs.declared.InnerIpFlow.{InnerIpFlow}
use Rattle.measurement.specs.declared.IpVersion.TheVariants.{V4, V6}
use Rattle.measurement_packet.specs.Packet.{build_of}
use Rattle.measurement_damage.specs.Echo.{echo_of}
use Rattle.plan.specs.Plan.{interval_of}
use Rattle.gtpu.specs.Element.{elements_of}
use Rattle.observer.specs.Counts.{fresh}
use Rattle.observer.specs.Observer.{Observer}
use Rattle.observer.specs.Sending.{record_sent}
use Rattle.tally.specs.Tally.{each_column}
use Rattle.observer.specs.Answer.{observer_of}
use Rattle.return_calls.specs.Returns.{record_received_tpdu}
use Rattle.report.specs.Report.{reporting}

-- What a case is about: numbers, verdicts, latencies.
pub data Figure : Type 0 where
  number : ℕ → Figure
  verdict : Bool → Figure
  latency : Option LatencySummary → Figure

-- A row: the case's number in the paper, what is computed, what the paper says.
pub record Case : Type 0 where
  pub case : ℕ
  pub computed : Outcome (List Figure)
  pub expected : Outcome (List Figure)

abbrev pub figures : {A : Type 0} → (A → List Figure) → Outcome A → Outcome (List Figure)
figures of (refused n) = refused n
figures of (gives x) = gives (of x)

-- "10.0.0.1:1000 to 10.0.0.2:2000"
abbrev pub ipv4_flow : InnerIpFlow
ipv4_flow = record {
  version = V4;
  src = 10 ∷ 0 ∷ 0 ∷ 1 ∷ replicate 12 0;
  dst = 10 ∷ 0 ∷ 0 ∷ 2 ∷ replicate 12 0;
  src_port = 1000;
  dst_port = 2000;
}

-- "::1 port 1000 to ::2 port 2000"
abbrev pub ipv6_flow : InnerIpFlow
ipv6_flow = record {
  version = V6;
  src = replicate 15 0 ++ 1 ∷ [];
  dst = replicate 15 0 ++ 2 ∷ [];
  src_port = 1000;
  dst_port = 2000;
}

-- where the checksums stand
abbrev pub ipv4_header_checksum : List ℕ → Figure
ipv4_header_checksum tpdu = number (field 2 10 tpdu)

abbrev pub ipv4_udp_checksum : List ℕ → Figure
ipv4_udp_checksum tpdu = number (field 2 26 tpdu)

abbrev pub ipv6_udp_checksum : List ℕ → Figure
ipv6_udp_checksum tpdu = number (field 2 46 tpdu)

-- "Sent 1 to 5 at 0, 10, 20, 30, 40", on a fresh observer of 5 rows
abbrev pub sends : Observer → List ℕ → List ℕ → Observer
sends o [] times = o
sends o (q ∷ qs) [] = o
sends o (q ∷ qs) (t ∷ ts) = sends (record_sent o q t).observer qs ts

abbrev pub fresh_observer : Observer
fresh_observer = observer_of (each_column (replicate 5 9)) fresh

abbrev pub sent_five : Observer
sent_five = sends fresh_observer (1 ∷ 2 ∷ 3 ∷ 4 ∷ 5 ∷ []) (0 ∷ 10 ∷ 20 ∷ 30 ∷ 40 ∷ [])

-- a sequence returns at this time, as it was built
abbrev pub returns : Observer → ℕ → ℕ → ℕ → Observer
returns o q sent_at time = (record_received_tpdu o time (build_of ipv4_flow q sent_at)).observer

abbrev pub longest : PacketContinuityReport → List Figure
longest r = number r.max_consecutive_lost_packets ∷ number r.max_gap_duration_ns ∷ []

abbrev pub verdicts : PacketContinuityReport → List Figure
verdicts r = verdict r.packet_continuity_proven ∷ verdict r.forwarding_proven ∷ latency r.latency ∷ []

-- The table. Where the paper names no window, it is any window.
abbrev pub table : ℕ → ℕ → List Case
table window_start window_end =
    record {
      case = 1;
      computed = gives (ipv4_header_checksum (build_of ipv4_flow 1 0)
          ∷ ipv4_udp_checksum (build_of ipv4_flow 1 0) ∷ []);
      expected = gives (number 0x66b7 ∷ number 0xb1d8 ∷ []);
    }
    ∷ record {
      case = 2;
      computed = gives (ipv4_udp_checksum (build_of ipv4_flow 1 45528) ∷ []);
      expected = gives (number 0xffff ∷ []);
    }
    ∷ record {
      case = 3;
      computed = gives (ipv6_udp_checksum (build_of ipv6_flow 1 0) ∷ []);
      expected = gives (number 0xc5d8 ∷ []);
    }
    -- "its echo has the same"
    ∷ record {
      case = 3;
      computed = figures (λ echo. ipv6_udp_checksum echo ∷ []) (echo_of (build_of ipv6_flow 1 0));
      expected = gives (number 0xc5d8 ∷ []);
    }
    ∷ record {
      case = 4;
      computed = figures (λ i. number i ∷ []) (interval_of 1000000000);
      expected = gives (number 1 ∷ []);
    }
    ∷ record { case = 4; computed = figures (λ i. number i ∷ []) (interval_of 1000000001); expected = refused 17 }
    ∷ record {
      case = 4;
      computed = figures (λ i. number i ∷ []) (interval_of 3);
      expected = gives (number 333333333 ∷ []);
    }
    ∷ record {
      case = 5;
      computed = figures longest
          (reporting (returns (returns sent_five 2 10 50) 5 40 60) window_start window_end zero_loss);
      expected = gives (number 2 ∷ number 20 ∷ []);
    }
    ∷ record {
      case = 6;
      computed = figures longest (reporting (returns sent_five 2 10 50) window_start 100 zero_loss);
      expected = gives (number 3 ∷ number 80 ∷ []);
    }
    ∷ record {
      case = 6;
      computed = figures longest (reporting (returns sent_five 2 10 50) window_start 15 zero_loss);
      expected = gives (number 3 ∷ number 10 ∷ []);
    }
    ∷ record {
      case = 7;
      computed = figures verdicts (reporting fresh_observer window_start window_end zero_loss);
      expected = gives (verdict true ∷ verdict false ∷ latency None ∷ []);
    }
    ∷ record { case = 8; computed = figures (λ u. []) (elements_of []); expected = refused 28 }
    ∷ []

-- every row: what is computed is what the paper says
abbrev pub AllHold : List Case → Type 0
AllHold [] = Unit {0}
AllHold (c ∷ cs) = (c.computed ≡ c.expected) × AllHold cs

abbrev pub EightCases : Type 0
EightCases = (window_start window_end : ℕ) → AllHold (table window_start window_end)
