use Rattle.rules.proofs.Losses.{roll_back_is_exact}
use Rattle.rules.proofs.theorems.roll_back_is_exact.Goals as goal

pub returns : goal.returns
returns g c = roll_back_is_exact
