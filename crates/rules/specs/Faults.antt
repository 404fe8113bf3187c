-- The number of each refusal of a manager, the job that is in the way, and how a refusal is told.
use Rattle.std.specs.Prelude.{ℕ, List, ◌++◌, Some, None, Option, codes, decimal}
use Rattle.rules.specs.declared.fault.ManagerFault.{ManagerFault}
use Rattle.rules.specs.declared.fault.ManagerFault.TheVariants.{NoJob, NoParameter, NoRoom, Voted, NotVoted, NotPending, VotedAlready, Conflict, ReadFrom, Ordered}

pub record Numbered : Type 0 where
  pub number : ℕ
  pub blocker : Option ℕ

abbrev pub plain : ℕ → Numbered
plain n = record { number = n; blocker = None }

abbrev pub blocked_by : ℕ → ℕ → Numbered
blocked_by n j = record { number = n; blocker = Some j }

abbrev pub number_of : ManagerFault → Numbered
number_of NoJob = plain 2
number_of NoParameter = plain 4
number_of NoRoom = plain 4
number_of Voted = plain 5
number_of NotVoted = plain 5
number_of NotPending = plain 6
number_of VotedAlready = plain 7
number_of (Conflict j) = blocked_by 10 j
number_of (ReadFrom j) = blocked_by 11 j
number_of (Ordered j) = blocked_by 12 j

-- how a refusal of that number is told, with the job that is in the way
abbrev pub words_for : ℕ → Option ℕ → List ℕ
words_for n None = codes "refused by " ++ decimal n
words_for n (Some j) = codes "refused by " ++ (decimal n ++ (codes ", because of job " ++ decimal j))

abbrev pub words_of : ManagerFault → List ℕ
words_of f = words_for (number_of f).number (number_of f).blocker
