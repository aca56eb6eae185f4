use mathlib.Core.Path.{refl}
use mathlib.Core.List.{List}
use Prim.Native.Nat.{ℕ}
use Rattle.measurement.specs.declared.InnerIpFlow.{InnerIpFlow}
use Rattle.measurement.specs.declared.IpVersion.TheVariants.{V4}
use Rattle.measurement_echo.proofs.Block.{not_refused}
use Rattle.measurement_echo.proofs.write_ipv4_from_block.Goals as goal

abbrev flow : List ℕ → List ℕ → ℕ → ℕ → InnerIpFlow
flow s d sport dport = record { version = V4; src = s; dst = d; src_port = sport; dst_port = dport }

-- the block is long enough
pub returns-in_err-count : goal.returns-in_err-count
returns-in_err-count c =
    let a = c.args in
    not_refused (flow a.src a.dst a.src_port a.dst_port) a.sequence a.send_timestamp_ns _ c.in_err-count.ensures refl

pub returns : goal.returns
returns c =
    let a = c.args in
    c.copy_out.ensures (flow a.src a.dst a.src_port a.dst_port) a.sequence a.send_timestamp_ns c.in_ok-count.ensures
