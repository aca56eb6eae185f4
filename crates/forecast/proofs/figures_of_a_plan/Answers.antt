use Rattle.forecast.proofs.Claims.{last_of_packets, no_packets, enough_for_every, forecast_numbers_lem}
use Rattle.forecast.proofs.figures_of_a_plan.Goals as goal

pub returns : goal.returns
returns c = (last_of_packets, no_packets, enough_for_every, forecast_numbers_lem)
