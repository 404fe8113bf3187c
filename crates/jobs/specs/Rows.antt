-- Rows of sets of jobs.
use Rattle.std.specs.Prelude.{ℕ, List, slice_index_or}
use Rattle.jobs.specs.declared.set.JobSet.{JobSet}
use Rattle.jobs.specs.Jobs.{no_jobs}

-- the set in row i; past the last row there is nobody
abbrev pub row_at : List JobSet → ℕ → JobSet
row_at rows i = slice_index_or rows i no_jobs
