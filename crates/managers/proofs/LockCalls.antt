-- The calls on the tables of a locking manager obey the rules.
use Rattle.std.proofs.Common.{◌≡◌, ℕ, Bool, false, not, ◌&&◌, ◌||◌, eqb, Some, None, Ok, IsErrAnd, Result, sym, refl, ap, ◌∙◌}
use mathlib.Core.Bool.{and-false}
use mathlib.Core.Path.{fun_ext}
use Rattle.jobs.specs.declared.job.Job.{Job}
use Rattle.jobs.specs.declared.set.JobSet.{JobSet}
use Rattle.jobs.specs.Jobs.{member, no_jobs}
use Rattle.jobs.proofs.Sets.{none_lowest}
use Rattle.jobs.proofs.Jobs.{nobody_is}
use Rattle.rules.specs.declared.access.Access.{Access}
use Rattle.rules.specs.declared.access.Access.TheVariants.{Read, Write}
use Rattle.rules.specs.declared.fault.ManagerFault.{ManagerFault}
use Rattle.rules.specs.declared.fault.ManagerFault.TheVariants.{ReadFrom, Ordered}
use Rattle.rules.specs.Cascade.{goes}
use Rattle.rules.specs.Changes.{read, write, vote, leave_with}
use Rattle.rules.specs.Calls.{Answered, Obeys, access_of, read_of, write_of, source_of, rival_of}
use Rattle.rules.proofs.Calls.{obeys, unblocked}
use Rattle.rules.proofs.Cascade.{goes_nobody}
use Rattle.rules.proofs.Same.{same}
use Rattle.managers.specs.declared.locking.Locks.{Locks}
use Rattle.managers.specs.Tables.{Held, Leaves, vote_if_free}
use Rattle.managers.specs.Locking.{access_fault, held_by, admits_none, ReaderNoted, WriterNoted, JobLeft}
use Rattle.managers.proofs.Faults.{exits}
use Rattle.managers.proofs.Refusals.{access_refused}
use Rattle.managers.proofs.LockTables.{settled_count, stops_are, access_admitted}
use Rattle.managers.proofs.LockChanges.{read_means, write_means, leave_means}

module _ (t : Locks) (j : ℕ) where
  -- what the tables refuse, the rules refuse
  refusal_obeys : (p : ℕ) (a : Access) (x : Unit {0} → Answered (Unit {0}) (Unit {0})) (f : ManagerFault) (r : Result (Unit {0}) ManagerFault)
      → IsErrAnd r (λ e. e ≡ f) → access_fault t j p a ≡ Some f → Obeys (access_of admits_none (held_by t) j p a x) r (held_by t)
  refusal_obeys p a x f r e h =
      exits f r e (access_refused (held_by t) t.count.number (settled_count t) admits_none j p a x _ (λ _. stops_are t j p a) f h)

  pub read_refused : (p : ℕ) (f : ManagerFault) (r : Result (Unit {0}) ManagerFault) → IsErrAnd r (λ e. e ≡ f) → access_fault t j p Read ≡ Some f
      → Obeys (read_of admits_none (held_by t) j p) r (held_by t)
  read_refused p f r e h = refusal_obeys p Read _ f r e h

  pub write_refused : (p : ℕ) (f : ManagerFault) (r : Result (Unit {0}) ManagerFault) → IsErrAnd r (λ e. e ≡ f) → access_fault t j p Write ≡ Some f
      → Obeys (write_of admits_none (held_by t) j p tt) r (held_by t)
  write_refused p f r e h = refusal_obeys p Write _ f r e h

  -- nobody is in the way of a vote, which is noted, and nothing else changes
  pub vote_obeys : (s : JobSet) → ((k : ℕ) → member s k ≡ (member t.voted k || eqb k j))
      → Obeys (vote_if_free (held_by t) j) (Ok tt) (record {
        settled = (held_by t).settled;
        writes = (held_by t).writes;
        readers = (held_by t).readers;
        precedes = (held_by t).precedes;
        reads_from = (held_by t).reads_from;
        voted = member s;
      })
  vote_obeys s voted =
      let noted = same _ (vote j (held_by t)) (record {
        settled = refl;
        writes = λ p. refl;
        readers = λ p k. refl;
        precedes = λ i k. refl;
        reads_from = λ k i. refl;
        voted = voted;
      }) in
      obeys (free ∙ ap (λ (m : Held). (Ok tt, m)) (sym noted))
    where
      free : vote_if_free (held_by t) j ≡ (Ok tt, vote j (held_by t))
      free =
          unblocked (source_of (held_by t) j) ReadFrom (held_by t) _ (none_lowest _ 16 (λ k l. refl))
          ∙ unblocked (rival_of (held_by t) j) Ordered (held_by t) _ (none_lowest _ 16 (λ k l. and-false (member t.voted k)))

module _ (t u : Locks) where
  pub read_obeys : (j p : ℕ) → access_fault t j p Read ≡ None → ReaderNoted t p j u → Obeys (read_of admits_none (held_by t) j p) (Ok tt) (held_by u)
  read_obeys j p h r =
      let ok = access_admitted t j p Read (λ _. (Ok tt, read j p (held_by t))) h in
      obeys (ok.1 ∙ ap (λ (m : Held). (Ok tt, m)) (sym (read_means t u j p ok.0 r)))

  pub write_obeys : (job : Job) (p : ℕ) → access_fault t job.number p Write ≡ None → WriterNoted t p job u
      → Obeys (write_of admits_none (held_by t) job.number p tt) (Ok tt) (held_by u)
  write_obeys job p h w =
      let ok = access_admitted t job.number p Write (λ _. (Ok tt, write job.number p tt (held_by t))) h in
      obeys (ok.1 ∙ ap (λ (m : Held). (Ok tt, m)) (sym (write_means t u job p ok.0 w)))

  -- nobody precedes or reads from another, so nobody is lost besides
  pub leaves_alone : (j : ℕ) (lost : JobSet) → lost ≡ no_jobs → JobLeft t j u
      → Leaves (held_by t) (λ k. goes 16 (λ i. false) (λ k i. false) k && not (eqb k j)) j lost (held_by u)
  leaves_alone j lost e l = record {
    told = e ∙ nobody_is _ none;
    after = leave_means t u j l ∙ ap (λ (others : ℕ → Bool). leave_with others j (held_by t)) (sym (fun_ext none));
  }
    where
      none : (k : ℕ) → (goes 16 (λ i. false) (λ k i. false) k && not (eqb k j)) ≡ false
      none k = ap (λ (b : Bool). b && not (eqb k j)) (goes_nobody 16 (λ i. false) (λ k i. false) (λ i. refl) k)
