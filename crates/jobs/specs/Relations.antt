-- Relations between jobs, told by their numbers.
use Rattle.std.specs.Prelude.{ℕ, Bool}
use Rattle.jobs.specs.declared.set.JobSet.{JobSet}
use Rattle.jobs.specs.declared.relation.Relation.{Relation}
use Rattle.jobs.specs.Jobs.{member}
use Rattle.jobs.specs.Rows.{row_at}

-- the jobs to which i is related
abbrev pub row : Relation → ℕ → JobSet
row r i = row_at r.rows i

-- is i related to k
abbrev pub related : Relation → ℕ → ℕ → Bool
related r i k = member (row r i) k
