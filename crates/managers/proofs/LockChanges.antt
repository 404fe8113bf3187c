-- What each operation on the tables of a locking manager does to what they hold.
use Rattle.std.proofs.Common.{◌≡◌, ℕ, false, not, ◌&&◌, eqb, ◌⊎◌, List, [], replicate, if◌then◌else◌, Some, None, Option, refl, ap, ◌∙◌, inl, inr, arith}
use Rattle.std.proofs.lemmas.Bool.Decides.{nat_tests}
use Rattle.std.proofs.lemmas.Bool.{eq-eqb, ne_eqb, cases_eq}
use Rattle.jobs.specs.declared.job.Job.{Job}
use Rattle.jobs.specs.declared.set.JobSet.{JobSet}
use Rattle.jobs.specs.Sets.{names}
use Rattle.jobs.specs.Jobs.{member, no_jobs, number_in}
use Rattle.jobs.proofs.Jobs.{member_none}
use Rattle.jobs.proofs.Walks.{repeated}
use Rattle.rules.specs.declared.access.Access.TheVariants.{Read, Write}
use Rattle.rules.specs.Manager.{wrote, without, conflicts}
use Rattle.rules.specs.Changes.{read, write, leave_with}
use Rattle.rules.proofs.Values.{last_wrote}
use Rattle.rules.proofs.Same.{same}
use Rattle.managers.specs.declared.locking.Lock.{Lock}
use Rattle.managers.specs.declared.locking.Locks.{Locks}
use Rattle.managers.specs.Tables.{unused}
use Rattle.managers.specs.Locking.{no_lock, lock_at, writes_of, held_by, ReaderNoted, WriterNoted, JobLeft}

-- tables that nobody has accessed
pub unused_means : (t : Locks) (l : Lock) → t.locks ≡ replicate 64 l → l ≡ no_lock → t.voted ≡ no_jobs → held_by t ≡ unused t.count.number
unused_means t l all free voted = same (held_by t) (unused t.count.number) (record {
  settled = refl;
  writes = λ p. ap (λ (l : Lock). writes_of l.writer) (at p);
  readers = λ p k. ap (λ (l : Lock). member l.readers k) (at p) ∙ member_none k;
  precedes = λ i k. refl;
  reads_from = λ k i. refl;
  voted = λ k. ap (λ (s : JobSet). member s k) voted ∙ member_none k;
})
  where
    at : (p : ℕ) → lock_at t.locks p ≡ no_lock
    at p = ap (λ (ls : List Lock). lock_at ls p) all ∙ repeated no_lock (λ (l : Lock). l ≡ no_lock) 64 l free refl p

-- the one pending write of a parameter is gone once its job has left
own_gone : (j : ℕ) (o : Option Job) → ((k : ℕ) → wrote k (writes_of o) && not (eqb k j) ≡ false) → without (λ k. eqb k j) (writes_of o) ≡ []
own_gone j None q = refl
own_gone j (Some w) q = let x = q w.number in grind (arith, nat_tests)

-- what is left of the one pending write of a parameter once j has left
left_writes : (j : ℕ) (o : Option Job) → writes_of (if names (number_in o) j then None else o) ≡ without (λ k. eqb k j) (writes_of o)
left_writes j None = refl
left_writes j (Some w) = grind (arith, nat_tests)

module _ (t u : Locks) where
  -- a reader was noted, and nothing else changed
  pub read_means : (j p : ℕ) → ((k : ℕ) → conflicts (held_by t) j p Read k ≡ false) → ReaderNoted t p j u → held_by u ≡ read j p (held_by t)
  read_means j p quiet r = same (held_by u) (read j p (held_by t)) (record {
    settled = let e = r.count in cc;
    writes = λ q. ap writes_of (r.writers q);
    readers = r.readers;
    precedes = λ i k. let x = quiet i in grind (arith, nat_tests);
    reads_from = λ k i. let x = quiet i in let y = last_wrote ((held_by t).writes p) i in grind (arith, nat_tests);
    voted = λ k. ap (λ (s : JobSet). member s k) r.voted;
  })

  -- a pending write was noted, and nothing else changed
  pub write_means : (job : Job) (p : ℕ) → ((k : ℕ) → conflicts (held_by t) job.number p Write k ≡ false) → WriterNoted t p job u
      → held_by u ≡ write job.number p tt (held_by t)
  write_means job p quiet r = same (held_by u) (write job.number p tt (held_by t)) (record {
    settled = let e = r.count in cc;
    writes = λ q. written q (cases_eq q p);
    readers = λ q k. ap (λ (s : JobSet). member s k) (r.readers q);
    precedes = λ i k. let x = quiet i in grind (arith, nat_tests);
    reads_from = λ k i. refl;
    voted = λ k. ap (λ (s : JobSet). member s k) r.voted;
  })
    where
      -- the earlier write of the parameter, if there is one, is the job's own
      own : without (λ k. eqb k job.number) (writes_of (lock_at t.locks p).writer) ≡ []
      own = own_gone job.number (lock_at t.locks p).writer (λ k. let x = quiet k in grind (arith, nat_tests))

      written : (q : ℕ) → (q ≡ p) ⊎ (q ≡ p → ⊥) → (held_by u).writes q ≡ (write job.number p tt (held_by t)).writes q
      written q (inl e) = let x = eq-eqb q p e in rw (e, r.writer, own) (cc)
      written q (inr n) = rw (ne_eqb q p n) (ap writes_of (r.others q n))

  -- j left every lock and the votes, and nobody else did
  pub leave_means : (j : ℕ) → JobLeft t j u → held_by u ≡ leave_with (λ k. false) j (held_by t)
  leave_means j l = same (held_by u) (leave_with (λ k. false) j (held_by t)) (record {
    settled = let e = l.count in cc;
    writes = λ p. ap writes_of (l.locks p).writer ∙ left_writes j (lock_at t.locks p).writer;
    readers = λ p k. (l.locks p).readers k;
    precedes = λ i k. refl;
    reads_from = λ k i. refl;
    voted = l.voted;
  })
