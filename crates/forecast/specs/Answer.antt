-- What the call's answer means.
use Rattle.std.specs.Prelude.{Result, Ok, Err}
use Rattle.std.specs.Prelude as code
use Rattle.std.proofs.Math.Option.{some, none}
use Rattle.error.specs.Answer.{number_of}
use Rattle.error.specs.Outcome.{Outcome, refused, gives}
use Rattle.error.specs.declared.Refusal.{Refusal}
use Rattle.forecast.specs.Forecast.{Figures}
use Rattle.forecast.specs.declared.PlannedPackets.{PlannedPackets}

abbrev pub forecast_means : Result (code.Option PlannedPackets) Refusal → Outcome Figures
forecast_means (Ok (code.Some packets)) = gives (record { bytes = packets.bytes; last = some packets.last })
forecast_means (Ok code.None) = gives (record { bytes = 0; last = none })
forecast_means (Err why) = refused (number_of why)
