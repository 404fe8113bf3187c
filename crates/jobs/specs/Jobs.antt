-- Jobs and sets of jobs, told by their numbers.
use Rattle.std.specs.Prelude.{ℕ, Bool, not, ◌&&◌, Some, None, Option, ◌==◌, nat_lt}
use Rattle.jobs.specs.declared.job.Job.{Job}
use Rattle.jobs.specs.declared.set.JobSet.{JobSet}
use Rattle.jobs.specs.Sets.{has, bits_where}

-- is k the number of a job that is a member
abbrev pub member : JobSet → ℕ → Bool
member s k = nat_lt k 16 && has s.bits k

-- the set whose members are the bits of n
abbrev pub set_of : ℕ → JobSet
set_of n = record { bits = n }

abbrev pub no_jobs : JobSet
no_jobs = set_of 0

-- the set of the jobs whose numbers pass the test
abbrev pub jobs_where : (ℕ → Bool) → JobSet
jobs_where f = set_of (bits_where f 16)

-- the number of a job, if there is one
abbrev pub number_in : Option Job → Option ℕ
number_in None = None
number_in (Some j) = Some j.number

-- what is left of a set once the iterator over its members gave that one
abbrev pub after_next : JobSet → Option ℕ → JobSet
after_next s None = s
after_next s (Some j) = jobs_where (λ k. member s k && not (k == j))
