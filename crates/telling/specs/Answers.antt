-- How the answer of a manager's call is told.
use Rattle.std.specs.Prelude.{ℕ, zero, suc, Bool, if◌then◌else◌, List, [], ◌++◌, Some, Option, Ok, Err, Result, codes, decimal}
use Rattle.std.specs.Fmt.{◌++?◌}
use Rattle.jobs.specs.declared.set.JobSet.{JobSet}
use Rattle.jobs.specs.Sets.{any_below}
use Rattle.jobs.specs.Jobs.{member}
use Rattle.rules.specs.declared.fault.ManagerFault.{ManagerFault}
use Rattle.rules.specs.Faults.{words_of}

-- nothing but that a call was accepted
abbrev pub done_words : Unit {0} → Option (List ℕ)
done_words _ = Some (codes "done")

-- a value, where `text` says how values of its kind are told
abbrev pub value_words : {V : Type 0} → (V → Option (List ℕ)) → V → Option (List ℕ)
value_words text v = Some (codes "value ") ++? text v

-- the numbers below n that pass the test, in rising order, each after a space
unfoldable pub spaced : (ℕ → Bool) → ℕ → List ℕ
spaced f zero = []
spaced f (suc n) = spaced f n ++ (if f n then codes " " ++ decimal n else [])

-- the jobs that a call lost
abbrev pub lost_words : JobSet → Option (List ℕ)
lost_words s = Some (codes "lost" ++ (if any_below (member s) 16 then spaced (member s) 16 else codes " none"))

-- an answer, where `text` says how it is told, or else the refusal
abbrev pub told : {A : Type 0} → (A → Option (List ℕ)) → Result A ManagerFault → Option (List ℕ)
told text (Ok a) = text a
told text (Err f) = Some (words_of f)
