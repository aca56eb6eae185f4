-- The Rust's evidence.rs: `PacketContinuityBudget` and `LatencySummary`, lines 17 to 47, whose fields our structs
-- have too, and `PacketContinuityReport`, lines 55 to 89, less `schema_version` and `flow_id`, which
-- document 01 leaves out.
use Rattle.std.specs.Prelude.{ℕ, Bool}
use Rattle.evidence.specs.declared.LatencySummary.{LatencySummary}
use Rattle.evidence.specs.declared.PacketContinuityBudget.{PacketContinuityBudget}
use Rattle.rust_reference.specs.Map.{Option}

-- lines 29 to 35
abbrev pub zero_loss : PacketContinuityBudget
zero_loss = record { max_lost_packets = 0; max_consecutive_lost_packets = 0; outage_budget_ns = 0 }

pub record PacketContinuityReport : Type 0 where
  pub window_start_ns : ℕ
  pub window_end_ns : ℕ
  pub sent_packets : ℕ
  pub received_packets : ℕ
  pub lost_packets : ℕ
  pub duplicate_packets : ℕ
  pub out_of_order_packets : ℕ
  pub gtpu_error_indications : ℕ
  pub max_consecutive_lost_packets : ℕ
  pub max_gap_duration_ns : ℕ
  pub latency : Option LatencySummary
  pub budget : PacketContinuityBudget
  pub forwarding_proven : Bool
  pub packet_continuity_proven : Bool
