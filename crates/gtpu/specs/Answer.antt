-- What stands where no tunnel is named.
use Rattle.std.specs.Prelude.{replicate}
use Rattle.error.specs.Outcome.{Outcome, refused, gives}
use Rattle.measurement.specs.declared.IpVersion.TheVariants.{V4}
use Rattle.gtpu.specs.declared.RefusedTunnel.{RefusedTunnel}

-- The tunnel beside a refusal, and beside a message that names none. "A refusal returns its number and nothing else."
abbrev pub no_tunnel : RefusedTunnel
no_tunnel = record { teid = 0; version = V4; peer_address = replicate 16 0 }

-- The tunnel that a payload names, where it is not refused.
abbrev pub tunnel_named : Outcome RefusedTunnel → RefusedTunnel
tunnel_named (refused number) = no_tunnel
tunnel_named (gives tunnel) = tunnel
