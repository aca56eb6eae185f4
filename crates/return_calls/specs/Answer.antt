-- What the code's answers mean.
use Rattle.std.specs.Prelude.{◌≡◌, Result, Ok, Err}
use Rattle.error.specs.Answer.{number_of}
use Rattle.error.specs.Outcome.{Outcome, refused, gives}
use Rattle.error.specs.declared.Refusal.{Refusal}
use Rattle.gtpu.specs.Answer.{no_tunnel}
use Rattle.gtpu.specs.declared.RefusedTunnel.{RefusedTunnel}
use Rattle.rows.specs.Columns.{Sheet}
use Rattle.observer.specs.Observer.{Observer}
use Rattle.observer.specs.Answer.{Counts, observer_of, lent}
use Rattle.return_calls.specs.Kinds.{Kind, MeasurementTpdu, ErrorIndication, EchoResponse, Ignored}
use Rattle.return_calls.specs.Returns.{MessageStep}
use Rattle.return_calls.specs.declared.GtpuReturnDatagramOutcome.{GtpuReturnDatagramOutcome}
use Rattle.return_calls.specs.declared.GtpuReturnDatagramOutcome.TheVariants as message

-- What a message was, without the tunnel in it.
abbrev pub kind_of : GtpuReturnDatagramOutcome → Kind
kind_of message.MeasurementTpdu = MeasurementTpdu
kind_of (message.ErrorIndication tunnel) = ErrorIndication
kind_of message.EchoResponse = EchoResponse
kind_of (message.Ignored message_type) = Ignored message_type

-- What the answer to a message means: what the message was, or a refusal.
abbrev pub message_means : Result GtpuReturnDatagramOutcome Refusal → Outcome Kind
message_means (Ok outcome) = gives (kind_of outcome)
message_means (Err r) = refused (number_of r)

-- The tunnel in it: only that of an Error Indication has one.
abbrev pub tunnel_in : GtpuReturnDatagramOutcome → RefusedTunnel
tunnel_in message.MeasurementTpdu = no_tunnel
tunnel_in (message.ErrorIndication tunnel) = tunnel
tunnel_in message.EchoResponse = no_tunnel
tunnel_in (message.Ignored message_type) = no_tunnel

abbrev pub tunnel_told : Result GtpuReturnDatagramOutcome Refusal → RefusedTunnel
tunnel_told (Ok outcome) = tunnel_in outcome
tunnel_told (Err r) = no_tunnel

-- In a contract: `records` of the observer's calls, for a message.
abbrev pub records_message : Sheet → Counts → Result GtpuReturnDatagramOutcome Refusal → (Observer → MessageStep)
    → Type 0
records_message s c answer definition =
    record { outcome = message_means answer; observer = observer_of s.exit c.exit.now }
    ≡ definition (lent s c.entry.now)
