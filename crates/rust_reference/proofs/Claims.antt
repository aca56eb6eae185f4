-- The claims of specs/Claims.antt, together.
use Rattle.std.proofs.Common.{refl}
use Rattle.rust_reference.specs.Claims.{EqualsTheRust}
use Rattle.rust_reference.proofs.Compared.{all_compared, added_is_ours}
use Rattle.rust_reference.proofs.Building.{encoded, build}
use Rattle.rust_reference.proofs.Capacity.{new_multi_lem}
use Rattle.rust_reference.proofs.Checksums.{of_parts}
use Rattle.rust_reference.proofs.Decoding.{decoded, decoded_fragment, decoded_padded, decoded_wrong_length, decoded_differs}
use Rattle.rust_reference.proofs.Echoing.{turned_round, echoed}
use Rattle.rust_reference.proofs.Elements.{validate}
use Rattle.rust_reference.proofs.Generating.{interval_ns_lem, generated}
use Rattle.rust_reference.proofs.Handling.{handled}
use Rattle.rust_reference.proofs.Observing.{new_same, every_same, sending_same, received_same, message_same}
use Rattle.rust_reference.proofs.Reflecting.{reflector_runs_same, reflector_runs_in_room}
use Rattle.rust_reference.proofs.Registering.{registered}
use Rattle.rust_reference.proofs.Removing.{removed}
use Rattle.rust_reference.proofs.Reporting.{report_same}
use Rattle.rust_reference.proofs.Running.{runs_same, runs_of_2048}

pub equals_the_rust : EqualsTheRust
equals_the_rust = record {
  compared = all_compared;
  added = added_is_ours;
  zero_loss = refl;
  reversed = turned_round;
  encode = encoded;
  checksum = of_parts;
  build_measurement_tpdu = build;
  decode_measurement_tpdu = decoded;
  decode_fragment = decoded_fragment;
  decode_padded = decoded_padded;
  decode_wrong_length = decoded_wrong_length;
  decode_differs = decoded_differs;
  echo_tpdu = echoed;
  validate_error_indication_ies = validate;
  interval_ns = interval_ns_lem;
  engines = (refl, λ first. refl);
  generate = generated;
  new = new_same;
  every_sheet = every_same;
  record_sent = sending_same;
  record_received_tpdu = received_same;
  record_return_gtpu_datagram = message_same;
  report = report_same;
  runs = runs_same;
  runs_up_to_2048 = runs_of_2048;
  new_multi = new_multi_lem;
  register_session = registered;
  remove_session = removed;
  handle_datagram = handled;
  reflector_runs = reflector_runs_same;
  reflector_runs_with_room = reflector_runs_in_room;
}
