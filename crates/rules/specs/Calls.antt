-- The calls of a manager: each from what it holds and the arguments to the answer and what it holds afterwards.
use Rattle.std.specs.Prelude.{◌≡◌, ℕ, Bool, if◌then◌else◌, not, ◌&&◌, ◌||◌, Some, None, Ok, Err, Option, Result, nat_le}
use Rattle.std.specs.List.{slice_get}
use Rattle.jobs.specs.declared.set.JobSet.{JobSet}
use Rattle.jobs.specs.Sets.{lowest}
use Rattle.jobs.specs.Jobs.{jobs_where}
use Rattle.rules.specs.declared.access.Access.{Access}
use Rattle.rules.specs.declared.access.Access.TheVariants.{Read, Write}
use Rattle.rules.specs.declared.fault.ManagerFault.{ManagerFault}
use Rattle.rules.specs.declared.fault.ManagerFault.TheVariants.{NoJob, NoParameter, Voted, NotVoted, NotPending, VotedAlready, Conflict, ReadFrom, Ordered}
use Rattle.rules.specs.Manager.{Manager, last_or, pending, conflict_of}
use Rattle.rules.specs.Changes.{read, write, vote, settle, leave_with, lost_to_commit, lost_to_roll_back}

-- an answer, and what is held afterwards
abbrev pub Answered : Type 0 → Type 0 → Type 0
Answered A V = Result A ManagerFault × Manager V

-- which conflicting accesses a manager admits, by its contents now: a job, a parameter, read or write
abbrev pub Admits : Type 0
Admits = ℕ → ℕ → Access → Bool

module _ {A V : Type 0} where
  -- refused where the test holds, and nothing changes
  abbrev pub refuse_if : Bool → ManagerFault → Manager V → Answered A V → Answered A V
  refuse_if b f m x = if b then (Err f, m) else x

  -- refused where some job is in the way, and nothing changes
  abbrev pub refuse_by : Option ℕ → (ℕ → ManagerFault) → Manager V → Answered A V → Answered A V
  refuse_by None f m x = x
  refuse_by (Some k) f m x = (Err (f k), m)

  -- refused where there is no such parameter, and nothing changes; else as its settled value says
  abbrev pub refuse_unless : Option V → Manager V → (V → Answered A V) → Answered A V
  refuse_unless None m x = (Err NoParameter, m)
  refuse_unless (Some v) m x = x v

module _ {V : Type 0} where
  -- the job in the way of an access: the lowest with which it conflicts, unless the access is admitted all the same
  abbrev pub stops : Admits → Manager V → ℕ → ℕ → Access → Option ℕ
  stops admits m j p a = elim (conflict_of m j p a) [ None ↦ None | Some k ↦ if admits j p a then None else Some k ]

  -- the lowest job that j read from
  abbrev pub source_of : Manager V → ℕ → Option ℕ
  source_of m j = lowest (λ k. m.reads_from j k) 16

  -- the lowest voted job that precedes j or is preceded by it
  abbrev pub rival_of : Manager V → ℕ → Option ℕ
  rival_of m j = lowest (λ k. m.voted k && (m.precedes k j || m.precedes j k)) 16

  -- an access of job j to parameter p, where x tells what it answers and does, given the settled value
  abbrev pub access_of : {A : Type 0} → Admits → Manager V → ℕ → ℕ → Access → (V → Answered A V) → Answered A V
  access_of admits m j p a x =
      refuse_if (nat_le 16 j) NoJob m
      (refuse_unless (slice_get m.settled p) m (λ v.
      refuse_if (m.voted j) Voted m
      (refuse_by (stops admits m j p a) Conflict m
      (x v))))

  -- a call for a job j that has to be pending, where x tells what it answers and does
  abbrev pub pending_of : {A : Type 0} → Manager V → ℕ → Answered A V → Answered A V
  pending_of m j x =
      refuse_if (nat_le 16 j) NoJob m
      (refuse_if (not (pending m j)) NotPending m
      x)

  -- the calls; the refusals of each are tried from the first line to the last

  abbrev pub read_of : Admits → Manager V → ℕ → ℕ → Answered V V
  read_of admits m j p = access_of admits m j p Read (λ v. (Ok (last_or v (m.writes p)), read j p m))

  abbrev pub write_of : Admits → Manager V → ℕ → ℕ → V → Answered (Unit {0}) V
  write_of admits m j p v = access_of admits m j p Write (λ _. (Ok tt, write j p v m))

  abbrev pub vote_of : Manager V → ℕ → Answered (Unit {0}) V
  vote_of m j =
      pending_of m j
      (refuse_if (m.voted j) VotedAlready m
      (refuse_by (source_of m j) ReadFrom m
      (refuse_by (rival_of m j) Ordered m
      (Ok tt, vote j m))))

  abbrev pub commit_of : Manager V → ℕ → Answered JobSet V
  commit_of m j =
      pending_of m j
      (refuse_if (not (m.voted j)) NotVoted m
      (Ok (jobs_where (lost_to_commit m j)), leave_with (lost_to_commit m j) j (settle j m)))

  abbrev pub roll_back_of : Manager V → ℕ → Answered JobSet V
  roll_back_of m j = pending_of m j (Ok (jobs_where (lost_to_roll_back m j)), leave_with (lost_to_roll_back m j) j m)

  -- the settled value of a parameter; a question, so nothing changes
  abbrev pub settled_of : Manager V → ℕ → Result V ManagerFault
  settled_of m p = elim (slice_get m.settled p) [ None ↦ Err NoParameter | Some v ↦ Ok v ]

-- a call was answered, and left what the manager holds, as the rule says
pub record Obeys {A V : Type 0} (rule : Answered A V) (r : Result A ManagerFault) (m : Manager V) : Type 0 where
  pub answer : r ≡ rule.0
  pub after : m ≡ rule.1
