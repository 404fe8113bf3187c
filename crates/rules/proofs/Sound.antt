-- Every call keeps what holds of every manager.
use Rattle.std.proofs.Common.{◌≡◌, ℕ, ◌<◌, Bool, true, false, not, ◌&&◌, ◌||◌, eqb, List, length, None, sym, refl, ◌∙◌, arith}
use Rattle.std.proofs.lemmas.Option.{slice_get_within}
use Rattle.std.proofs.lemmas.Bool.Decides.{nat_tests}
use Rattle.jobs.proofs.Sets.{any_none, lowest_none}
use Rattle.rules.specs.declared.access.Access.{Access}
use Rattle.rules.specs.declared.access.Access.TheVariants.{Read, Write}
use Rattle.rules.specs.declared.fault.ManagerFault.TheVariants.{VotedAlready, NotVoted, ReadFrom, Ordered}
use Rattle.rules.specs.Manager.{Manager, fresh, accesses, pending, conflicts}
use Rattle.rules.specs.Changes.{ordered, read, write, vote, settle, leave}
use Rattle.rules.specs.Calls.{source_of, rival_of}
use Rattle.rules.specs.Sound.{Sound, StaysSound}
use Rattle.rules.proofs.Kept.{kept_if, kept_by, kept_access, kept_pending}
use Rattle.rules.proofs.Pending.{pending_read, pending_write, pending_settle, pending_leave, conflict_pending, last_pending}

module _ {V : Type 0} where
  sound_fresh : (start : List V) → Sound (fresh start)
  sound_fresh start = record {
    jobs_only = λ j h. let x = any_none (accesses (fresh start) j) (length start) (λ p l. refl) in grind (arith, nat_tests);
    ordered_pending = λ i k h. grind arith;
    reading_pending = λ k i h. grind arith;
    voted_pending = λ j h. grind arith;
    never_itself = λ j. refl;
    voted_reads_nobody = λ j k h. refl;
    voted_unordered = λ i k h g. refl;
  }

  -- an access of job j to parameter p, past its refusals
  module _ (m : Manager V) (j p : ℕ) (job : j < 16) (there : p < length m.settled) (free : m.voted j ≡ false) where
    -- whoever conflicts with it is another job
    other_job : (a : Access) (i : ℕ) → conflicts m j p a i ≡ true → eqb i j ≡ false
    other_job Read i h = grind (arith, nat_tests)
    other_job Write i h = grind (arith, nat_tests)

    -- what a read and a write leave, as far as they have it in common
    record Accessed (a : Access) (n : Manager V) : Type 0 where
      joins : (k : ℕ) → pending n k ≡ (pending m k || eqb k j)
      orders : (i k : ℕ) → n.precedes i k ≡ ordered m j p a i k
      reads : (k i : ℕ) → n.reads_from k i ≡ true → (m.reads_from k i || (eqb k j && pending m i)) ≡ true
      votes : (k : ℕ) → n.voted k ≡ m.voted k

    sound_access : (a : Access) (n : Manager V) → Accessed a n → Sound m → Sound n
    sound_access a n c s = record {
      jobs_only = λ k h. let x = s.jobs_only k in let y = c.joins k in grind (arith, nat_tests);
      ordered_pending = λ i k h.
          let x = s.ordered_pending i k in
          let y = conflict_pending m p there j a i in
          let z = c.orders i k in
          let u = c.joins i in
          let w = c.joins k in
          grind (arith, nat_tests);
      reading_pending = λ k i h.
          let x = s.reading_pending k i in
          let y = c.reads k i h in
          let u = c.joins k in
          let w = c.joins i in
          grind (arith, nat_tests);
      voted_pending = λ k h. let x = s.voted_pending k in let y = c.votes k in let z = c.joins k in grind (arith, nat_tests);
      never_itself = λ k. let x = s.never_itself k in let y = c.orders k k in let z = other_job a k in grind (arith, nat_tests);
      voted_reads_nobody = λ k i h. let x = s.voted_reads_nobody k i in let y = c.votes k in let z = c.reads k i in grind (arith, nat_tests);
      voted_unordered = λ i k h g.
          let x = s.voted_unordered i k in
          let y = c.votes i in
          let z = c.votes k in
          let u = c.orders i k in
          grind (arith, nat_tests);
    }

    sound_read : Sound m → Sound (read j p m)
    sound_read = sound_access Read (read j p m) (record {
      joins = pending_read m j p there;
      orders = λ i k. refl;
      reads = λ k i h. let x = last_pending m p there i in grind (arith, nat_tests);
      votes = λ k. refl;
    })

    sound_write : (v : V) → Sound m → Sound (write j p v m)
    sound_write v = sound_access Write (write j p v m) (record {
      joins = pending_write m j p v there;
      orders = λ i k. refl;
      reads = λ k i h. grind (arith, nat_tests);
      votes = λ k. refl;
    })

  sound_vote : (m : Manager V) (j : ℕ) → pending m j ≡ true → source_of m j ≡ None → rival_of m j ≡ None → Sound m → Sound (vote j m)
  sound_vote m j here source rival s = record {
    jobs_only = s.jobs_only;
    ordered_pending = s.ordered_pending;
    reading_pending = s.reading_pending;
    voted_pending = λ k h. let x = s.voted_pending k in grind (arith, nat_tests);
    never_itself = s.never_itself;
    voted_reads_nobody = λ i k h.
        let x = s.voted_reads_nobody i k in
        let y = lowest_none (λ k. m.reads_from j k) 16 source k in
        let z = s.reading_pending j k in
        let w = s.jobs_only k in
        grind (arith, nat_tests);
    voted_unordered = λ i k h g.
        let x = s.voted_unordered i k in
        let y = s.never_itself j in
        let z = apart i in
        let w = apart k in
        grind (arith, nat_tests);
  }
    where
      apart : (k : ℕ) → m.voted k ≡ true → (m.precedes k j ≡ false) × (m.precedes j k ≡ false)
      apart k h =
          let low = s.jobs_only k (s.voted_pending k h) in
          let x = lowest_none (λ k. m.voted k && (m.precedes k j || m.precedes j k)) 16 rival k low in
          (grind (arith, nat_tests), grind (arith, nat_tests))

  sound_settle : (m : Manager V) (j : ℕ) → Sound m → Sound (settle j m)
  sound_settle m j s = record {
    jobs_only = λ k h. s.jobs_only k (sym (pending_settle m j k) ∙ h);
    ordered_pending = λ i k h. let x = s.ordered_pending i k h in (pending_settle m j i ∙ x.0, pending_settle m j k ∙ x.1);
    reading_pending = λ k i h. let x = s.reading_pending k i h in (pending_settle m j k ∙ x.0, pending_settle m j i ∙ x.1);
    voted_pending = λ k h. pending_settle m j k ∙ s.voted_pending k h;
    never_itself = s.never_itself;
    voted_reads_nobody = s.voted_reads_nobody;
    voted_unordered = s.voted_unordered;
  }

  sound_leave : (m : Manager V) (gone : ℕ → Bool) → Sound m → Sound (leave gone m)
  sound_leave m gone s = record {
    jobs_only = λ k h. let x = s.jobs_only k in let y = pending_leave m gone k in grind (arith, nat_tests);
    ordered_pending = λ i k h.
        let x = s.ordered_pending i k in
        let y = pending_leave m gone i in
        let z = pending_leave m gone k in
        grind (arith, nat_tests);
    reading_pending = λ k i h.
        let x = s.reading_pending k i in
        let y = pending_leave m gone k in
        let z = pending_leave m gone i in
        grind (arith, nat_tests);
    voted_pending = λ k h. let x = s.voted_pending k in let y = pending_leave m gone k in grind (arith, nat_tests);
    never_itself = λ k. let x = s.never_itself k in grind (arith, nat_tests);
    voted_reads_nobody = λ k i h. let x = s.voted_reads_nobody k i in grind (arith, nat_tests);
    voted_unordered = λ i k h g. let x = s.voted_unordered i k in grind (arith, nat_tests);
  }

  pub stays_sound : StaysSound V
  stays_sound = record {
    when_fresh = sound_fresh;
    after_read = λ admits m j p s.
        kept_access Sound admits m j p Read _ s (λ v job at free _.
        sound_read m j p job (slice_get_within m.settled p v at) free s);
    after_write = λ admits m j p v s.
        kept_access Sound admits m j p Write _ s (λ u job at free _.
        sound_write m j p job (slice_get_within m.settled p u at) free v s);
    after_vote = λ m j s.
        kept_pending Sound m j _ s (λ _ here.
        kept_if Sound (m.voted j) VotedAlready m _ s (λ _.
        kept_by Sound (source_of m j) ReadFrom m _ s (λ source.
        kept_by Sound (rival_of m j) Ordered m _ s (λ rival.
        sound_vote m j here source rival s))));
    after_commit = λ m j s.
        kept_pending Sound m j _ s (λ _ _.
        kept_if Sound (not (m.voted j)) NotVoted m _ s (λ _.
        sound_leave (settle j m) _ (sound_settle m j s)));
    after_roll_back = λ m j s. kept_pending Sound m j _ s (λ _ _. sound_leave m _ s);
  }
