-- The lines on which a manager's calls are told, each with its answer. `text` says how values are told.
use Rattle.std.specs.Prelude.{ℕ, zero, suc, List, [], Some, Option, IfSome, Result, OnOk, codes, decimal}
use Rattle.std.specs.Fmt.{◌++?◌}
use Rattle.std.specs.Io.KnownBytes.{Appends}
use Rattle.rules.specs.declared.fault.ManagerFault.{ManagerFault}
use Rattle.rules.specs.Manager.{Manager}
use Rattle.rules.specs.Calls.{settled_of}
use Rattle.telling.specs.declared.lines.Call.{Call}
use Rattle.telling.specs.declared.lines.Call.TheVariants.{Read, Write, Vote, Commit, RollBack, Settled}
use Rattle.telling.specs.Answers.{value_words, told}

-- where that succeeded, the text was written after what had been, as far as both are known
abbrev pub Tells : {E : Type 0} → Result (Unit {0}) E → Option (List ℕ) → Option (List ℕ) → Option (List ℕ) → Type 0
Tells r words old new = OnOk r (IfSome words (Appends old new))

module _ {V : Type 0} (text : V → Option (List ℕ)) where
  -- which call it is
  abbrev pub call_words : Call V → Option (List ℕ)
  call_words (Read j p) = Some (codes "job ") ++? Some (decimal j) ++? Some (codes " reads parameter ") ++? Some (decimal p)
  call_words (Write j p v) = Some (codes "job ") ++? Some (decimal j) ++? Some (codes " writes ") ++? text v
      ++? Some (codes " to parameter ") ++? Some (decimal p)
  call_words (Vote j) = Some (codes "vote on job ") ++? Some (decimal j)
  call_words (Commit j) = Some (codes "commit job ") ++? Some (decimal j)
  call_words (RollBack j) = Some (codes "roll back job ") ++? Some (decimal j)
  call_words (Settled p) = Some (codes "settled parameter ") ++? Some (decimal p)

  -- a call and what it came to, where `answer_text` says how its answers are told
  abbrev pub line : {A : Type 0} → Call V → (A → Option (List ℕ)) → Result A ManagerFault → Option (List ℕ)
  line call answer_text answer = call_words call ++? Some (codes ": ") ++? told answer_text answer ++? Some (codes "\n")

  -- the settled value of each parameter below n, in the order of their numbers
  unfoldable pub settled_lines : Manager V → ℕ → Option (List ℕ)
  settled_lines m zero = Some []
  settled_lines m (suc n) = settled_lines m n ++? line (Settled n) (value_words text) (settled_of m n)
