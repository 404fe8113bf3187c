-- What holds of every manager, of whichever kind, since each call keeps it.
use Rattle.std.specs.Prelude.{◌≡◌, ℕ, ◌<◌, true, false, List}
use Rattle.rules.specs.Manager.{Manager, fresh, pending}
use Rattle.rules.specs.Calls.{Admits, read_of, write_of, vote_of, commit_of, roll_back_of}

pub record Sound {V : Type 0} (m : Manager V) : Type 0 where
  -- only jobs are pending
  pub jobs_only : (j : ℕ) → pending m j ≡ true → j < 16
  -- both relations hold between pending jobs only
  pub ordered_pending : (i k : ℕ) → m.precedes i k ≡ true → (pending m i ≡ true) × (pending m k ≡ true)
  pub reading_pending : (k i : ℕ) → m.reads_from k i ≡ true → (pending m k ≡ true) × (pending m i ≡ true)
  -- who has voted is pending
  pub voted_pending : (j : ℕ) → m.voted j ≡ true → pending m j ≡ true
  -- no job precedes itself
  pub never_itself : (j : ℕ) → m.precedes j j ≡ false
  -- no voted job reads from a pending one
  pub voted_reads_nobody : (j k : ℕ) → m.voted j ≡ true → m.reads_from j k ≡ false
  -- no two voted jobs stand in either order
  pub voted_unordered : (i k : ℕ) → m.voted i ≡ true → m.voted k ≡ true → m.precedes i k ≡ false

-- a fresh manager is sound, and every call, accepted or refused, keeps it so, whichever conflicting accesses are admitted
pub record StaysSound (V : Type 0) : Type 0 where
  pub when_fresh : (start : List V) → Sound (fresh start)
  pub after_read : (admits : Admits) (m : Manager V) (j p : ℕ) → Sound m → Sound (read_of admits m j p).1
  pub after_write : (admits : Admits) (m : Manager V) (j p : ℕ) (v : V) → Sound m → Sound (write_of admits m j p v).1
  pub after_vote : (m : Manager V) (j : ℕ) → Sound m → Sound (vote_of m j).1
  pub after_commit : (m : Manager V) (j : ℕ) → Sound m → Sound (commit_of m j).1
  pub after_roll_back : (m : Manager V) (j : ℕ) → Sound m → Sound (roll_back_of m j).1
