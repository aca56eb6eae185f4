-- `tally::forecast_is_the_generators` meets its contract.
use Rattle.tally.proofs.Forecast.{forecast_is_the_generators}
use Rattle.tally.proofs.forecast_is_the_generators.Goals as goal

pub returns : goal.returns
returns c = forecast_is_the_generators
