use Rattle.jobs.proofs.Walks.{Walked}
use Rattle.open_manager.specs.declared.records.Record.{Record}
use Rattle.open_manager.specs.Records.{no_record, WithoutJob}
use Rattle.open_manager.proofs.records.Records.leave.Given as goal

abbrev pub invariant-loop-entry : goal.invariant-loop-entry
invariant-loop-entry l = Walked no_record (λ (a b : Record). WithoutJob a l.job.number b) l.initial.entry-items l.entry-items l.entry-index
