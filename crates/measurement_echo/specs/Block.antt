-- The block that an echo is made in. For the contract of a private function.
use Rattle.std.specs.Prelude.{ℕ, ◌≡◌, List, Ok, replicate}
use Rattle.measurement.specs.Answer.{wrote, writing}
use Rattle.measurement.specs.declared.InnerIpFlow.{InnerIpFlow}
use Rattle.measurement_packet.specs.Packet.{build_of}

-- How many bytes the builder wrote, and what it left of a block of 72 zero bytes.
pub record InBlock (count : ℕ) (block : List ℕ) : Type 0 where
  pub flow : InnerIpFlow
  pub sequence : ℕ
  pub time : ℕ
  pub is : wrote (Ok count) block ≡ writing (build_of flow sequence time) (replicate 72 0)
