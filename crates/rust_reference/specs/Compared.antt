-- Which T-PDUs are compared with the Rust, and as which number each of our numbers is compared. A change that makes the
-- two readers differ must be stated here, and only here.
use Rattle.std.specs.Prelude.{◌≡◌, ℕ, ◌≤◌, true, false, List, length, ◌==◌, nat_lt}
use Rattle.error.specs.Number.{invalid_ipv4_ihl, ipv4_fragment, truncated_ipv4_udp_packet}
use Rattle.error.specs.Outcome.{Outcome, refused, gives}
use Rattle.field.specs.Field.{Bytes, field}
use Rattle.measurement.specs.Layout.{udp_length}
use Rattle.measurement.specs.declared.IpVersion.{IpVersion}
use Rattle.measurement_reading.specs.Padding.{ReachesUdp, part_in}
use Rattle.measurement_reading.specs.Read.{version_of, is_fragment}
use Rattle.gtpu.specs.Message.{gtpu_msg_gpdu}
use Rattle.gtpu.specs.declared.GtpuMessage.{GtpuMessage}
use Rattle.reflector_answer.specs.declared.ReflectorPolicy.{ReflectorPolicy}
use Rattle.reflector_answer.specs.declared.ReflectorPolicy.TheVariants.{Echo, Route}
use Rattle.reflector_answer.specs.declared.RouteTarget.{RouteTarget}

-- "limited to segments whose UDP length fills their part" (document 02, job 6): where a UDP part is judged, because no
-- cause before 10 refuses the packet, the length in its UDP header is the part's own.
abbrev pub Filled : List ℕ → Type 0
Filled tpdu = (v : IpVersion) → ReachesUdp v tpdu → field 2 udp_length (part_in v tpdu) ≡ length (part_in v tpdu)

-- Every T-PDU, whatever its bytes and its length, that is not an IPv4 fragment ("The comparison with the Rust excludes
-- these packets", document 02, job 1) and whose UDP part is filled, if it has one.
abbrev pub Compared : List ℕ → Type 0
Compared tpdu = Bytes tpdu × (version_of tpdu ≡ 4 → is_fragment tpdu ≡ false) × Filled tpdu

-- What is due of ours for a fragment, where the Rust says this of it: 1 to 7 come before 38, and everything else after
-- it.
abbrev pub due_of_a_fragment : {A : Type 0} → Outcome A → Outcome A
due_of_a_fragment (refused number) = elim (nat_lt number 8) [ true ↦ refused number | false ↦ refused ipv4_fragment ]
due_of_a_fragment (gives x) = refused ipv4_fragment

-- A message that comes back: a G-PDU is compared if its T-PDU is, every other message always.
abbrev pub ComparedReturn : ℕ → List ℕ → Type 0
ComparedReturn message_type payload = message_type ≡ gtpu_msg_gpdu → Compared payload

-- At the reflector only an echo reads the T-PDU. A route sends it on as it came, and the stand-in for the codec carries
-- "a payload of at most 65,535 bytes".
abbrev pub ComparedGpdu : ReflectorPolicy → List ℕ → Type 0
ComparedGpdu policy tpdu = (policy ≡ Echo → Compared tpdu)
    × ((target : RouteTarget) → policy ≡ Route target → length tpdu ≤ 65535)

-- A message at the reflector: a G-PDU is compared as `ComparedGpdu` says, every other message always.
abbrev pub ComparedMessage : ReflectorPolicy → GtpuMessage → List ℕ → Type 0
ComparedMessage policy message payload = message.message_type ≡ gtpu_msg_gpdu → ComparedGpdu policy payload

-- Document 02, job 3: "In comparisons both match the Rust's one text." So 39 is compared as 4, and every other number
-- as itself.
abbrev pub as_the_rust_tells : ℕ → ℕ
as_the_rust_tells number = elim (number == truncated_ipv4_udp_packet) [ true ↦ invalid_ipv4_ihl | false ↦ number ]

-- Our outcome, in the numbers that are compared.
abbrev pub told : {A : Type 0} → Outcome A → Outcome A
told (refused number) = refused (as_the_rust_tells number)
told (gives x) = gives x
