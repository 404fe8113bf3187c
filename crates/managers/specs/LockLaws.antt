-- What the law of tables says of those of a locking manager.
use Rattle.std.specs.Prelude.{◌≡◌, ℕ, ◌<◌, Bool, true, false, is_some, if◌then◌else◌, Some, None, Option, ◌==◌}
use Rattle.std.proofs.Common.{sym, subst}
use Rattle.std.proofs.lemmas.Bool.{eqb-true, false≢true}
use Rattle.jobs.specs.declared.job.Job.{Job}
use Rattle.rules.specs.Manager.{wrote}
use Rattle.managers.specs.declared.locking.Locks.{Locks}
use Rattle.managers.specs.Locking.{lock_at, writes_of, held_by}

-- only jobs write
pub jobs_write : (t : Locks) (p k : ℕ) → wrote k ((held_by t).writes p) ≡ true → k < 16
jobs_write t p k = go (lock_at t.locks p).writer
  where
    there : (b : Bool) → is_some (if b then Some (tt {0}) else None) ≡ true → b ≡ true
    there true h = h
    there false h = h

    go : (o : Option Job) → wrote k (writes_of o) ≡ true → k < 16
    go None h = absurd (false≢true h)
    go (Some w) h = subst (λ (n : ℕ). n < 16) (sym (eqb-true k w.number (there (k == w.number) h))) w.low
