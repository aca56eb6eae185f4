-- The GTP-U message types (3GPP TS 29.281) that the Rust names, by their numbers.
use Rattle.std.specs.Prelude.{ℕ, List, [], ◌∷◌}

abbrev pub gtpu_msg_echo_request : ℕ
gtpu_msg_echo_request = 1

abbrev pub gtpu_msg_echo_response : ℕ
gtpu_msg_echo_response = 2

abbrev pub gtpu_msg_error_indication : ℕ
gtpu_msg_error_indication = 26

abbrev pub gtpu_msg_supported_extension_headers_notification : ℕ
gtpu_msg_supported_extension_headers_notification = 31

abbrev pub gtpu_msg_end_marker : ℕ
gtpu_msg_end_marker = 254

abbrev pub gtpu_msg_gpdu : ℕ
gtpu_msg_gpdu = 255

-- all of them, in the Rust's order
abbrev pub message_types_of : List ℕ
message_types_of =
    gtpu_msg_echo_request
    ∷ gtpu_msg_echo_response
    ∷ gtpu_msg_error_indication
    ∷ gtpu_msg_supported_extension_headers_notification
    ∷ gtpu_msg_end_marker
    ∷ gtpu_msg_gpdu
    ∷ []
