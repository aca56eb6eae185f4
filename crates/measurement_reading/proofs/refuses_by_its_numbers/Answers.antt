-- `measurement_reading::refuses_by_its_numbers` meets its contract.
use Rattle.measurement_reading.proofs.Claims.{reading_numbers_lem}
use Rattle.measurement_reading.proofs.refuses_by_its_numbers.Goals as goal

pub returns : goal.returns
returns c = reading_numbers_lem
