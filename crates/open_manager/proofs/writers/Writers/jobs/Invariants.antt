use Rattle.std.proofs.Common.{◌≡◌, ℕ, take}
use Rattle.jobs.specs.Jobs.{member}
use Rattle.open_manager.specs.Lists.{last_first, among}
use Rattle.open_manager.proofs.writers.Writers.jobs.Given as goal

abbrev pub invariant-loop-job : goal.invariant-loop-job
invariant-loop-job l = (k : ℕ) → member l.found k ≡ among (last_first (take l.job-index l.job-items)) k
