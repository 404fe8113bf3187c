use Rattle.jobs.proofs.Rows.{Adding}
use Rattle.jobs.proofs.relation.Relation.with_edges.Given as goal

abbrev pub invariant-loop-job : goal.invariant-loop-job
invariant-loop-job l = Adding l.initial.rows l.initial.job-iterator.left l.to.number l.rows l.job-iterator.left
