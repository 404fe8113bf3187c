-- What is told of the calls that no manager takes.
use Rattle.std.specs.Prelude.{◌≡◌, ◌≤◌, ℕ, false, List, length, Option, Err}
use Rattle.std.specs.Fmt.{◌++?◌}
use Rattle.rules.specs.declared.fault.ManagerFault.TheVariants.{NoJob, NoParameter, NotPending}
use Rattle.rules.specs.Manager.{Manager, pending}
use Rattle.telling.specs.declared.lines.Call.TheVariants.{Read, Write, Vote}
use Rattle.telling.specs.Answers.{value_words, done_words}
use Rattle.telling.specs.Lines.{line}

module _ {V : Type 0} where
  -- there is no parameter 8, and job 15 is not pending
  pub record IsIdle (m : Manager V) : Type 0 where
    pub few : length m.settled ≤ 8
    pub idle : pending m 15 ≡ false

  abbrev pub refusal_lines : (V → Option (List ℕ)) → V → Option (List ℕ)
  refusal_lines text v =
      line text (Read 16 5) (value_words text) (Err NoJob) ++? line text (Write 15 8 v) done_words (Err NoParameter)
      ++? line text (Vote 15) done_words (Err NotPending)
