-- What each accepted operation does to what a manager holds.
use Rattle.std.specs.Prelude.{ℕ, suc, Bool, if◌then◌else◌, not, ◌&&◌, ◌||◌, List, [], ◌∷◌, ◌==◌, nat_eq}
use Rattle.std.specs.Option.{unwrap_or}
use Rattle.jobs.specs.Sets.{names}
use Rattle.rules.specs.declared.access.Access.{Access}
use Rattle.rules.specs.declared.access.Access.TheVariants.{Read, Write}
use Rattle.rules.specs.Manager.{Manager, Writes, write_by, last_writer, without, conflicts}
use Rattle.rules.specs.Cascade.{goes}

module _ {V : Type 0} where
  -- whatever conflicts with an access of j precedes j from then on
  abbrev pub ordered : Manager V → ℕ → ℕ → Access → ℕ → ℕ → Bool
  ordered m j p a i k = m.precedes i k || (k == j && conflicts m j p a i)

  -- job j reads parameter p: it becomes a pending reader, and reads from the job of the last pending write unless that is its own
  abbrev pub read : ℕ → ℕ → Manager V → Manager V
  read j p m = record {
    settled = m.settled;
    writes = m.writes;
    readers = λ q k. m.readers q k || (q == p && k == j);
    precedes = ordered m j p Read;
    reads_from = λ k i. m.reads_from k i || (k == j && not (i == j) && names (last_writer (m.writes p)) i);
    voted = m.voted;
  }

  -- job j writes v to parameter p: its earlier pending write of p is dropped, and this one comes last
  abbrev pub write : ℕ → ℕ → V → Manager V → Manager V
  write j p v m = record {
    settled = m.settled;
    writes = λ q. if q == p then (j, v) ∷ without (λ k. nat_eq k j) (m.writes p) else m.writes q;
    readers = m.readers;
    precedes = ordered m j p Write;
    reads_from = m.reads_from;
    voted = m.voted;
  }

  abbrev pub vote : ℕ → Manager V → Manager V
  vote j m = record {
    settled = m.settled;
    writes = m.writes;
    readers = m.readers;
    precedes = m.precedes;
    reads_from = m.reads_from;
    voted = λ k. m.voted k || (k == j);
  }

  -- the settled values from parameter p on, once j's pending writes are settled
  abbrev pub settled_from : ℕ → (ℕ → Writes V) → ℕ → List V → List V
  settled_from j writes p [] = []
  settled_from j writes p (v ∷ vs) = unwrap_or (write_by j (writes p)) v ∷ settled_from j writes (suc p) vs

  -- the pending writes of j become settled values
  abbrev pub settle : ℕ → Manager V → Manager V
  settle j m = record {
    settled = settled_from j m.writes 0 m.settled;
    writes = m.writes;
    readers = m.readers;
    precedes = m.precedes;
    reads_from = m.reads_from;
    voted = m.voted;
  }

  -- the jobs of `gone` leave every set and both relations
  abbrev pub leave : (ℕ → Bool) → Manager V → Manager V
  leave gone m = record {
    settled = m.settled;
    writes = λ p. without gone (m.writes p);
    readers = λ p k. m.readers p k && not (gone k);
    precedes = λ i k. m.precedes i k && (not (gone i) && not (gone k));
    reads_from = λ k i. m.reads_from k i && (not (gone k) && not (gone i));
    voted = λ k. m.voted k && not (gone k);
  }

  -- j leaves, and others with it
  abbrev pub leave_with : (ℕ → Bool) → ℕ → Manager V → Manager V
  leave_with others j m = leave (λ k. others k || k == j) m

  -- who is rolled back besides a job j that is committed: the jobs that precede it, and in turn those that read from one that goes
  abbrev pub lost_to_commit : Manager V → ℕ → ℕ → Bool
  lost_to_commit m j k = goes 16 (λ i. m.precedes i j) m.reads_from k && not (k == j)

  -- who is rolled back besides a job j that is rolled back: the jobs that read from it, and in turn those that read from one that goes
  abbrev pub lost_to_roll_back : Manager V → ℕ → ℕ → Bool
  lost_to_roll_back m j k = goes 16 (λ i. m.reads_from i j) m.reads_from k && not (k == j)
