use Rattle.jobs.specs.Jobs.{no_jobs}
use Rattle.jobs.proofs.Walks.{Walked}
use Rattle.jobs.proofs.Rows.{Loses}
use Rattle.jobs.proofs.relation.Relation.without.Given as goal

abbrev pub invariant-loop-row : goal.invariant-loop-row
invariant-loop-row l = Walked no_jobs (Loses l.job.number) l.initial.row-items l.row-items l.row-index
