use Rattle.managers.specs.declared.locking.Lock.{Lock}
use Rattle.managers.specs.Locking.{no_lock, LeftOf}
use Rattle.jobs.proofs.Walks.{Walked}
use Rattle.managers.proofs.locking.Locks.leave.Given as goal

abbrev pub invariant-loop-lock : goal.invariant-loop-lock
invariant-loop-lock l = Walked no_lock (λ (a b : Lock). LeftOf a l.job.number b) l.initial.lock-items l.lock-items l.lock-index
