-- What is shown of the calls of any manager.
use Rattle.std.specs.Prelude.{◌≡◌, ℕ, Bool, true, Ok, ◌≢◌}
use Rattle.jobs.specs.declared.set.JobSet.{JobSet}
use Rattle.jobs.specs.Jobs.{member}
use Rattle.rules.specs.Manager.{Manager}
use Rattle.rules.specs.Cascade.{Goes}
use Rattle.rules.specs.Calls.{commit_of, roll_back_of}

-- a set of jobs is exactly those besides j that go when those of `first` go
pub record Exactly {V : Type 0} (m : Manager V) (first : ℕ → Bool) (j : ℕ) (lost : JobSet) : Type 0 where
  pub only : (k : ℕ) → member lost k ≡ true → Goes 16 first m.reads_from k × (k ≢ j)
  pub all : (k : ℕ) → Goes 16 first m.reads_from k → (k ≢ j) → member lost k ≡ true

-- a commit answers exactly the jobs that precede the committed one, and in turn those that read from one that goes
abbrev pub CommitIsExact : Type 0 → Type 0
CommitIsExact V = (m : Manager V) (j : ℕ) (lost : JobSet) → (commit_of m j).0 ≡ Ok lost → Exactly m (λ i. m.precedes i j) j lost

-- rolling back answers exactly the jobs that read from the one rolled back, and in turn those that read from one that goes
abbrev pub RollBackIsExact : Type 0 → Type 0
RollBackIsExact V = (m : Manager V) (j : ℕ) (lost : JobSet) → (roll_back_of m j).0 ≡ Ok lost → Exactly m (λ i. m.reads_from i j) j lost
