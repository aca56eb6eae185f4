-- What C is answered and hands back is the same: for each of these the two maps of specs/Interface.antt, into numbers
-- and out of them, mean one encoding. A map that loses or changes something is refused here, even where the code does
-- the same.
use Rattle.std.specs.Prelude.{◌≡◌, ℕ, Option}
use Rattle.reflector_sessions.specs.Session.{value_of}
use Rattle.reflector_sessions.specs.declared.SocketAddr.{SocketAddr}
use Rattle.testkit_reflector.specs.Interface.{sequence_of, sequence_present, sequence_value, address_numbers}

-- A sequence of a message to send, or that it has none.
abbrev pub SequenceReadsBack : Type 0
SequenceReadsBack = (s : Option ℕ) → sequence_of (sequence_present s) (sequence_value s) ≡ s

-- An address to send to.
abbrev pub AddressReadsBack : Type 0
AddressReadsBack = (a : SocketAddr) → value_of (address_numbers a) ≡ a
