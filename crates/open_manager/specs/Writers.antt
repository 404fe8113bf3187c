-- The jobs with a pending write of a parameter.
use Rattle.std.specs.Prelude.{ℕ, List}
use Rattle.open_manager.specs.declared.writers.Writers.{Writers}
use Rattle.open_manager.specs.Lists.{last_first}

-- their numbers, the job of the last write first
abbrev pub listed : Writers → List ℕ
listed w = last_first w.jobs.items
