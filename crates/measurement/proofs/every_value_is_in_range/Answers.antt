-- `measurement::every_value_is_in_range` meets its contract: each bound is that of the value's type, which whoever holds the value knows.
use native.Mathlib.Omega.{arith}
use Rattle.measurement.proofs.Range.{length_of, bytes_of}
use Rattle.measurement.proofs.every_value_is_in_range.Goals as goal

pub returns : goal.returns
returns c =
    -- the version, the two arrays and the two ports, in the order of their declaration
    let fields = c.well_formed.0.1.1 in
    let f = c.args.flow in
    record {
      source = bytes_of 16 f.src _ fields.1.0;
      destination = bytes_of 16 f.dst _ fields.1.1.0;
      source_length = length_of 16 f.src _ fields.1.0;
      destination_length = length_of 16 f.dst _ fields.1.1.0;
      source_port = fields.1.1.1.0.1;
      destination_port = fields.1.1.1.1.0.1;
      sequence = omega (arith, c.ranges.sequence);
      time = omega (arith, c.ranges.send_timestamp_ns);
    }
