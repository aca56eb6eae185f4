-- Document 01, leaf 1: "the budget (lost, longest run, outage in ns)".
use Rattle.evidence.specs.declared.PacketContinuityBudget.{PacketContinuityBudget}

-- the budget of a run that may lose nothing
abbrev pub zero_loss : PacketContinuityBudget
zero_loss = record { max_lost_packets = 0; max_consecutive_lost_packets = 0; outage_budget_ns = 0 }
