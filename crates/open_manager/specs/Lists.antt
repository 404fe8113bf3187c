-- Jobs listed in the order of their writes, told by their numbers.
use Rattle.std.specs.Prelude.{◌≡◌, ℕ, Bool, true, not, ◌&&◌, List, [], ◌∷◌, map, reverse, Some, None, Option, ◌==◌, refl}
use Rattle.std.specs.List.{list_any, filter}
use Rattle.jobs.specs.declared.job.Job.{Job}

-- the numbers of jobs, the last one first
abbrev pub last_first : List Job → List ℕ
last_first jobs = reverse (map (λ j. j.number) jobs)

pub last_first_none : last_first [] ≡ []
last_first_none = refl

-- is k among those listed
abbrev pub among : List ℕ → ℕ → Bool
among js k = list_any (λ j. k == j) js

-- is nobody listed twice
abbrev pub distinct : List ℕ → Bool
distinct [] = true
distinct (j ∷ js) = not (among js j) && distinct js

-- those listed once the jobs of `gone` have left
abbrev pub leaving : (ℕ → Bool) → List ℕ → List ℕ
leaving gone js = filter (λ j. not (gone j)) js

-- the job whose write is the last
abbrev pub last_listed : List ℕ → Option ℕ
last_listed [] = None
last_listed (j ∷ js) = Some j
