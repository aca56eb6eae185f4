-- What the other proofs use of specs/Compared.antt: they hold whichever of our own numbers is told as one of the Rust's,
-- and whatever more is asked of a T-PDU that is compared.
use Rattle.std.proofs.Common.{◌≡◌, ℕ, Bool, true, false, not, ◌&&◌, eqb, List, [], ◌∷◌, sym, refl, ap, ◌∙◌, eqb-true}
use borrow.Author.Tests.{eqb-false, not-true}
use Rattle.error.specs.Outcome.{Outcome, refused, gives, Cause, ◌⇒◌, first_cause}
use Rattle.error.proofs.Among.{among, of_each}
use Rattle.error.proofs.Causes.{refused_gives}
use Rattle.error.proofs.Tests.{true_not_false, both}
use Rattle.field.specs.Field.{Bytes}
use Rattle.measurement_reading.specs.Read.{version_of, is_fragment}
use Rattle.rust_reference.specs.Error as error
use Rattle.rust_reference.specs.Error.{Context, Reason, Field, DataplaneTestkitError, Result, Ok, Err, Truncated, UnsupportedIpVersion, InvalidPacket, Overflow, TimestampReversed, GtpuEncode, InvalidReflectorCapacity, InvalidReflectorSession, ReflectorSessionConflict, ReflectorSessionCapacityExceeded}
use Rattle.rust_reference.specs.Number.{truncated_number, invalid_number, overflow_number, error_number, outcome_by}
use Rattle.rust_reference.specs.Compared.{Filled, Compared, as_the_rust_tells, told}
use Rattle.rust_reference.specs.Sessions.{outcome_to}

-- ---- the Rust's numbers

-- every number of the Rust's errors
abbrev rust_numbers : List ℕ
rust_numbers =
    0 ∷ 1 ∷ 2 ∷ 3 ∷ 4 ∷ 5 ∷ 6 ∷ 7 ∷ 8 ∷ 9 ∷ 10 ∷ 11 ∷ 12 ∷ 13 ∷ 14 ∷ 16 ∷ 17 ∷ 19 ∷ 20 ∷ 23 ∷ 24
    ∷ 25 ∷ 26 ∷ 27 ∷ 28 ∷ 29 ∷ 30 ∷ 32 ∷ 33 ∷ 34 ∷ 35 ∷ 36 ∷ 37 ∷ []

truncated_among : (context : Context) → among (truncated_number context) rust_numbers ≡ true
truncated_among error.IP_header = refl
truncated_among error.IPv4_header = refl
truncated_among error.IPv6_UDP_packet = refl
truncated_among error.UDP_header = refl
truncated_among error.measurement_header = refl
truncated_among error.TEID_Data_I_IE = refl
truncated_among error.GTP_U_Peer_Address_IE = refl
truncated_among error.GTP_U_TLV_IE = refl

invalid_among : (reason : Reason) → among (invalid_number reason) rust_numbers ≡ true
invalid_among error.measurement_magic_mismatch = refl
invalid_among error.invalid_IPv4_IHL = refl
invalid_among error.invalid_IPv4_total_length = refl
invalid_among error.IPv4_payload_is_not_UDP = refl
invalid_among error.invalid_IPv4_header_checksum = refl
invalid_among error.invalid_IPv4_UDP_checksum = refl
invalid_among error.IPv6_payload_is_not_UDP = refl
invalid_among error.invalid_IPv6_payload_length = refl
invalid_among error.IPv6_UDP_checksum_is_zero = refl
invalid_among error.invalid_IPv6_UDP_checksum = refl
invalid_among error.invalid_UDP_length = refl
invalid_among error.target_rate_must_be_non_zero = refl
invalid_among error.target_rate_exceeds_nanosecond_timestamp_resolution = refl
invalid_among error.received_sequence_was_not_sent = refl
invalid_among error.unsupported_GTP_U_return_message_type = refl
invalid_among error.GTP_U_Peer_Address_IE_length_must_be_IPv4_or_IPv6 = refl
invalid_among error.unsupported_fixed_length_GTP_U_IE = refl
invalid_among error.Error_Indication_missing_TEID_Data_I_IE = refl
invalid_among error.Error_Indication_missing_GTP_U_Peer_Address_IE = refl
invalid_among error.Echo_Request_TEID_must_be_zero = refl
invalid_among error.Echo_Request_missing_sequence_number = refl
invalid_among error.unsupported_GTP_U_message_type = refl

overflow_among : (field : Field) → among (overflow_number field) rust_numbers ≡ true
overflow_among error.udp_len = refl
overflow_among error.ipv4_total_len = refl
overflow_among error.sequence = refl
overflow_among error.send_timestamp_ns = refl

error_among : (x : DataplaneTestkitError) → among (error_number x) rust_numbers ≡ true
error_among (Truncated context) = truncated_among context
error_among (UnsupportedIpVersion version) = refl
error_among (InvalidPacket reason) = invalid_among reason
error_among (Overflow field) = overflow_among field
error_among TimestampReversed = refl
error_among GtpuEncode = refl
error_among InvalidReflectorCapacity = refl
error_among InvalidReflectorSession = refl
error_among ReflectorSessionConflict = refl
error_among ReflectorSessionCapacityExceeded = refl

-- a number that is not among them is no error's
pub no_error : (x : DataplaneTestkitError) {n : ℕ} → error_number x ≡ n → among n rust_numbers ≡ false → ⊥
no_error x e h = true_not_false (sym (error_among x) ∙ ap (λ (m : ℕ). among m rust_numbers) e ∙ h)

-- ---- a number of the Rust is told as itself

pub error_told : (x : DataplaneTestkitError) → error_number x ≡ as_the_rust_tells (error_number x)
error_told x =
    sym (eqb-true (as_the_rust_tells (error_number x)) (error_number x) (of_each (λ n. eqb (as_the_rust_tells n) n) rust_numbers refl (error_number x) (error_among x)))

-- so a result of the Rust is told as it is
rust_told : {A B : Type 0} (value : A → B) (r : Result A) → outcome_by value r ≡ told (outcome_by value r)
rust_told value (Ok x) = refl
rust_told value (Err x) = ap refused (error_told x)

pub told_as : {A B : Type 0} (value : A → B) (r : Result A) {o : Outcome B} → outcome_by value r ≡ o → outcome_by value r ≡ told o
told_as value r e = rust_told value r ∙ ap told e

-- ---- where ours is told as a result of the Rust, both give the same, or the number is told as the error's

pub data Alike {A B : Type 0} (value : A → B) : Result A → Outcome B → Type 0 where
  both_give : {x : A} → Alike value (Ok x) (gives (value x))
  both_refuse : {x : DataplaneTestkitError} {n : ℕ} → error_number x ≡ as_the_rust_tells n → Alike value (Err x) (refused n)

pub alike : {A B : Type 0} (value : A → B) (r : Result A) (o : Outcome B) → outcome_by value r ≡ told o → Alike value r o
alike value (Ok x) (gives y) e = let same : value x ≡ y = cc in rw (← same) both_give
alike value (Ok x) (refused n) e = absurd (refused_gives (sym e))
alike value (Err x) (gives y) e = absurd (refused_gives e)
alike value (Err x) (refused n) e = let same : error_number x ≡ as_the_rust_tells n = cc in both_refuse same

-- ---- rows whose numbers are told as others: none refuses by this one

abbrev pub told_without : ℕ → List Cause → Bool
told_without m [] = true
told_without m ((test ⇒ n) ∷ rows) = not (eqb (as_the_rust_tells n) m) && told_without m rows

pub told_not_by : {A : Type 0} (m : ℕ) (rows : List Cause) (o : Outcome A) → told_without m rows ≡ true → (told o ≡ refused m → ⊥)
    → told (first_cause rows o) ≡ refused m → ⊥
unfolding first_cause
told_not_by m [] o w h e = h e
told_not_by m ((true ⇒ n) ∷ rows) o w h e =
    let same : as_the_rust_tells n ≡ m = cc in
    eqb-false (as_the_rust_tells n) m (not-true (eqb (as_the_rust_tells n) m) (both (not (eqb (as_the_rust_tells n) m)) (told_without m rows) w).0) same
told_not_by m ((false ⇒ n) ∷ rows) o w h e = told_not_by m rows o (both (not (eqb (as_the_rust_tells n) m)) (told_without m rows) w).1 h e

-- ---- an outcome in other terms is told as it is

pub told_to : {A B : Type 0} (value : A → B) (o : Outcome A) → outcome_to value (told o) ≡ told (outcome_to value o)
told_to value (refused n) = refl
told_to value (gives x) = refl

-- ---- what is compared is bytes, whatever else is asked of it

pub compared_bytes : (tpdu : List ℕ) → Compared tpdu → Bytes tpdu
compared_bytes tpdu c = search

-- and no fragment of version 4

pub compared_whole : (tpdu : List ℕ) → Compared tpdu → version_of tpdu ≡ 4 → is_fragment tpdu ≡ false
compared_whole tpdu c = search

-- and its UDP length fills its part

pub compared_filled : (tpdu : List ℕ) → Compared tpdu → Filled tpdu
compared_filled tpdu c = search
