-- What a resource manager means, whichever kind it is: what it holds, and what is read off that.
use Rattle.std.specs.Prelude.{ℕ, Bool, false, if◌then◌else◌, not, ◌&&◌, ◌||◌, List, [], ◌∷◌, length, is_some, Some, None, Option, ◌==◌}
use Rattle.jobs.specs.Sets.{lowest, any_below}
use Rattle.rules.specs.declared.access.Access.{Access}
use Rattle.rules.specs.declared.access.Access.TheVariants.{Read, Write}

-- the pending writes of a parameter, each a job and a value; the last one comes first
abbrev pub Writes : Type 0 → Type 0
Writes V = List (ℕ × V)

-- what a manager holds; jobs and parameters go by their numbers
pub record Manager (V : Type 0) : Type 0 where
  -- the settled value of each parameter, in the order of their numbers
  pub settled : List V
  -- of each parameter its pending writes, at most one for a job
  pub writes : ℕ → Writes V
  -- of each parameter its pending readers
  pub readers : ℕ → ℕ → Bool
  -- i precedes j: a pending access of i came before one of j that conflicts with it
  pub precedes : ℕ → ℕ → Bool
  -- j reads from i: a read of j answered a pending write of i
  pub reads_from : ℕ → ℕ → Bool
  -- the jobs that have voted
  pub voted : ℕ → Bool

module _ {V : Type 0} where
  -- a manager that nobody has called: the starting values are settled, and all else is empty
  abbrev pub fresh : List V → Manager V
  fresh start = record {
    settled = start;
    writes = λ p. [];
    readers = λ p j. false;
    precedes = λ i j. false;
    reads_from = λ j i. false;
    voted = λ j. false;
  }

  -- the value of j's pending write among those of a parameter
  abbrev pub write_by : ℕ → Writes V → Option V
  write_by j [] = None
  write_by j (w ∷ ws) = if j == w.0 then Some w.1 else write_by j ws

  -- does j have a pending write among those of a parameter
  abbrev pub wrote : ℕ → Writes V → Bool
  wrote j ws = is_some (write_by j ws)

  -- the job of the last pending write of a parameter
  abbrev pub last_writer : Writes V → Option ℕ
  last_writer [] = None
  last_writer (w ∷ ws) = Some w.0

  -- what a read answers: the last pending write, or the settled value where there is none
  abbrev pub last_or : V → Writes V → V
  last_or v [] = v
  last_or v (w ∷ ws) = w.1

  -- the pending writes of a parameter once the jobs of `gone` have left
  abbrev pub without : (ℕ → Bool) → Writes V → Writes V
  without gone [] = []
  without gone (w ∷ ws) = if gone w.0 then without gone ws else w ∷ without gone ws

  -- does j have a pending access to parameter p
  abbrev pub accesses : Manager V → ℕ → ℕ → Bool
  accesses m j p = m.readers p j || wrote j (m.writes p)

  -- is j pending: does it have a pending access to any parameter
  abbrev pub pending : Manager V → ℕ → Bool
  pending m j = any_below (λ p. accesses m j p) (length m.settled)

-- which other jobs' accesses an access of j conflicts with, among readers and writers of what it names: two accesses
-- of different jobs conflict if at least one of them is a write
abbrev pub conflicts_among : (ℕ → Bool) → (ℕ → Bool) → ℕ → Access → ℕ → Bool
conflicts_among readers writers j Read k = writers k && not (k == j)
conflicts_among readers writers j Write k = (readers k || writers k) && not (k == j)

module _ {V : Type 0} where
  -- has k a pending access that conflicts with that access of j to parameter p
  abbrev pub conflicts : Manager V → ℕ → ℕ → Access → ℕ → Bool
  conflicts m j p a k = conflicts_among (m.readers p) (λ i. wrote i (m.writes p)) j a k

  -- the lowest job with which that access of j to parameter p conflicts
  abbrev pub conflict_of : Manager V → ℕ → ℕ → Access → Option ℕ
  conflict_of m j p a = lowest (conflicts m j p a) 16
