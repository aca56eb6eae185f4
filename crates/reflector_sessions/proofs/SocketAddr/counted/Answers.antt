use Rattle.std.proofs.Common.{arith}
use Rattle.measurement.specs.Flow.{address, address_length}
use Rattle.field.proofs.Fields.{front_bytes, whole_bytes_lem}
use Rattle.reflector_sessions.proofs.SocketAddr.counted.Goals as goal

pub returns-in-V4 : goal.returns-in-V4
unfolding address address_length
returns-in-V4 c = let a = c.args.self.now in rw (c.in-V4.is) (front_bytes 4 a.address (omega arith))

pub returns-in-V6 : goal.returns-in-V6
unfolding address address_length
returns-in-V6 c = let a = c.args.self.now in rw (c.in-V6.is) (whole_bytes_lem 16 a.address (omega arith))
