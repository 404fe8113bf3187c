-- What the tables of a locking manager hold, and what they mean together with the values in memory.
use Rattle.std.specs.Prelude.{◌≡◌, ℕ, Bool, false, not, ◌&&◌, ◌||◌, List, [], ◌∷◌, replicate, Some, None, Option, ◌==◌, ◌≢◌, if◌then◌else◌, nat_le, slice_index_or}
use Rattle.jobs.specs.declared.job.Job.{Job}
use Rattle.jobs.specs.Sets.{names, lowest}
use Rattle.jobs.specs.Jobs.{member, no_jobs, number_in}
use Rattle.rules.specs.declared.access.Access.{Access}
use Rattle.rules.specs.declared.fault.ManagerFault.{ManagerFault}
use Rattle.rules.specs.declared.fault.ManagerFault.TheVariants.{NoJob, NoParameter, Voted, Conflict}
use Rattle.rules.specs.Manager.{Manager, Writes, conflicts_among, conflict_of}
use Rattle.rules.specs.Calls.{Admits, stops}
use Rattle.managers.specs.Faults.{fault_if, fault_by}
use Rattle.managers.specs.Tables.{Held, with_values}
use Rattle.managers.specs.declared.locking.Lock.{Lock}
use Rattle.managers.specs.declared.locking.Locks.{Locks}

-- nobody reads or writes the parameter
abbrev pub no_lock : Lock
no_lock = record { readers = no_jobs; writer = None }

-- the lock of parameter p
abbrev pub lock_at : List Lock → ℕ → Lock
lock_at locks p = slice_index_or locks p no_lock

-- has k the pending write of the parameter of that lock
abbrev pub is_writer : Lock → ℕ → Bool
is_writer l k = names (number_in l.writer) k

-- has k a pending access to the parameter of that lock
abbrev pub holds : Lock → ℕ → Bool
holds l k = member l.readers k || is_writer l k

-- with which jobs such an access of j conflicts
abbrev pub rivals : Lock → ℕ → Access → ℕ → Bool
rivals l j a k = conflicts_among (member l.readers) (is_writer l) j a k

-- why an access of j to parameter p is refused, by the tables
abbrev pub access_fault : Locks → ℕ → ℕ → Access → Option ManagerFault
access_fault t j p a =
    fault_if (nat_le 16 j) NoJob
    (fault_if (nat_le t.count.number p) NoParameter
    (fault_if (member t.voted j) Voted
    (fault_by (lowest (rivals (lock_at t.locks p) j a) 16) Conflict
    None)))

-- the pending writes of a parameter, by who writes it
abbrev pub writes_of : Option Job → Writes (Unit {0})
writes_of None = []
writes_of (Some w) = (w.number, tt) ∷ []

-- what the tables hold: both relations are empty
abbrev pub held_by : Locks → Held
held_by t = record {
  settled = replicate t.count.number tt;
  writes = λ p. writes_of (lock_at t.locks p).writer;
  readers = λ p k. member (lock_at t.locks p).readers k;
  precedes = λ i k. false;
  reads_from = λ k i. false;
  voted = λ k. member t.voted k;
}

-- what the tables and the values in memory mean
abbrev pub meaning_of : {V : Type 0} → Locks → List V → Manager V
meaning_of t values = with_values (held_by t) values

-- no conflicting access is admitted
abbrev pub admits_none : Admits
admits_none j p a = false

-- so whatever is not stopped conflicts with nobody
abbrev pub AdmitsNoConflict : Type 0 → Type 0
AdmitsNoConflict V = (m : Manager V) (j p : ℕ) (a : Access) → stops admits_none m j p a ≡ None → conflict_of m j p a ≡ None

-- j became a reader of parameter p, and nothing else changed
pub record ReaderNoted (t : Locks) (p j : ℕ) (u : Locks) : Type 0 where
  pub count : u.count ≡ t.count
  pub voted : u.voted ≡ t.voted
  pub writers : (q : ℕ) → (lock_at u.locks q).writer ≡ (lock_at t.locks q).writer
  pub readers : (q k : ℕ) → member (lock_at u.locks q).readers k ≡ (member (lock_at t.locks q).readers k || (q == p && k == j))

-- the job got the pending write of parameter p, and nothing else changed
pub record WriterNoted (t : Locks) (p : ℕ) (job : Job) (u : Locks) : Type 0 where
  pub count : u.count ≡ t.count
  pub voted : u.voted ≡ t.voted
  pub writer : (lock_at u.locks p).writer ≡ Some job
  pub others : (q : ℕ) → (q ≢ p) → (lock_at u.locks q).writer ≡ (lock_at t.locks q).writer
  pub readers : (q : ℕ) → (lock_at u.locks q).readers ≡ (lock_at t.locks q).readers

-- what is left of a lock once j has left
pub record LeftOf (l : Lock) (j : ℕ) (r : Lock) : Type 0 where
  pub readers : (k : ℕ) → member r.readers k ≡ (member l.readers k && not (k == j))
  pub writer : r.writer ≡ (if is_writer l j then None else l.writer)

-- j left every lock and the votes, and nothing else changed
pub record JobLeft (t : Locks) (j : ℕ) (u : Locks) : Type 0 where
  pub count : u.count ≡ t.count
  pub locks : (p : ℕ) → LeftOf (lock_at t.locks p) j (lock_at u.locks p)
  pub voted : (k : ℕ) → member u.voted k ≡ (member t.voted k && not (k == j))
