use Rattle.jobs.proofs.Rows.{Finding}
use Rattle.jobs.proofs.relation.Relation.predecessors.Given as goal

abbrev pub invariant-loop-other : goal.invariant-loop-other
invariant-loop-other l = Finding l.self.rows l.job.number l.found l.other-iterator.left
