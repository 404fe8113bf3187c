use Rattle.std.proofs.Common.{◌+◌, ◌*◌}
use Rattle.jobs.specs.Sets.{how_many}
use Rattle.open_manager.specs.Order.{is_pending}
use Rattle.open_manager.proofs.Rolling.{Rolling}
use Rattle.open_manager.proofs.OpenTables.+roll_back_each_roll_back_one.Given as goal

-- the count of the jobs that are still pending falls
abbrev pub decreases-roll_back_one : goal.decreases-roll_back_one
decreases-roll_back_one l = 2 * how_many (is_pending l.self.now.order) 16

abbrev pub decreases-roll_back_each : goal.decreases-roll_back_each
decreases-roll_back_each l = 2 * how_many (is_pending l.self.now.order) 16 + 1

abbrev pub invariant-roll_back_each-loop-job : goal.invariant-roll_back_each-loop-job
invariant-roll_back_each-loop-job l = Rolling l.initial.self l.initial.job-iterator.left l.job-iterator.left l.gone l.self
