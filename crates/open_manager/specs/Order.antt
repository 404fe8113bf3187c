-- How pending jobs are related, and which of them have voted.
use Rattle.std.specs.Prelude.{◌≡◌, ℕ, Bool, false, not, ◌&&◌, ◌||◌, None, Option, ◌==◌}
use Rattle.jobs.specs.declared.set.JobSet.{JobSet}
use Rattle.jobs.specs.Sets.{names, lowest}
use Rattle.jobs.specs.Jobs.{member, no_jobs}
use Rattle.jobs.specs.Relations.{related}
use Rattle.rules.specs.declared.fault.ManagerFault.{ManagerFault}
use Rattle.rules.specs.declared.fault.ManagerFault.TheVariants.{ReadFrom, Ordered}
use Rattle.managers.specs.Faults.{fault_by}
use Rattle.open_manager.specs.declared.order.Order.{Order}

abbrev pub precedes : Order → ℕ → ℕ → Bool
precedes o i k = related o.precedes i k

abbrev pub reads_from : Order → ℕ → ℕ → Bool
reads_from o k i = related o.reads_from k i

abbrev pub is_pending : Order → ℕ → Bool
is_pending o k = member o.pending k

abbrev pub has_voted : Order → ℕ → Bool
has_voted o k = member o.voted k

-- the lowest job that j read from
abbrev pub source_in : Order → ℕ → Option ℕ
source_in o j = lowest (λ k. reads_from o j k) 16

-- the lowest voted job that precedes j or is preceded by it
abbrev pub rival_in : Order → ℕ → Option ℕ
rival_in o j = lowest (λ k. has_voted o k && (precedes o k j || precedes o j k)) 16

-- why j cannot have the vote
abbrev pub obstacle : Order → ℕ → Option ManagerFault
obstacle o j = fault_by (source_in o j) ReadFrom (fault_by (rival_in o j) Ordered None)

-- nobody is pending
pub record Idle (o : Order) : Type 0 where
  pub precedes : (i k : ℕ) → precedes o i k ≡ false
  pub reads_from : (k i : ℕ) → reads_from o k i ≡ false
  pub pending : o.pending ≡ no_jobs
  pub voted : o.voted ≡ no_jobs

-- j is pending, those of `earlier` precede it, it reads from the source if that is another job, and nothing else changed
pub record WithAccess (o : Order) (j : ℕ) (earlier : JobSet) (source : Option ℕ) (r : Order) : Type 0 where
  pub precedes : (i k : ℕ) → precedes r i k ≡ (precedes o i k || (member earlier i && k == j))
  pub reads_from : (k i : ℕ) → reads_from r k i ≡ (reads_from o k i || (k == j && not (i == j) && names source i))
  pub pending : (k : ℕ) → is_pending r k ≡ (is_pending o k || k == j)
  pub voted : r.voted ≡ o.voted

-- j has voted, and nothing else changed
pub record WithVote (o : Order) (j : ℕ) (r : Order) : Type 0 where
  pub precedes : r.precedes ≡ o.precedes
  pub reads_from : r.reads_from ≡ o.reads_from
  pub pending : r.pending ≡ o.pending
  pub voted : (k : ℕ) → has_voted r k ≡ (has_voted o k || k == j)

-- j left, and nothing else changed
pub record WithoutJob (o : Order) (j : ℕ) (r : Order) : Type 0 where
  pub precedes : (i k : ℕ) → precedes r i k ≡ (precedes o i k && (not (i == j) && not (k == j)))
  pub reads_from : (k i : ℕ) → reads_from r k i ≡ (reads_from o k i && (not (k == j) && not (i == j)))
  pub pending : (k : ℕ) → is_pending r k ≡ (is_pending o k && not (k == j))
  pub voted : (k : ℕ) → has_voted r k ≡ (has_voted o k && not (k == j))
