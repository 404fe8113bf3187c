use Rattle.rules.proofs.Losses.{commit_is_exact}
use Rattle.rules.proofs.theorems.commit_is_exact.Goals as goal

pub returns : goal.returns
returns g c = commit_is_exact
