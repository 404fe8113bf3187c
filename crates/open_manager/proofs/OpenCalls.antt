-- The calls on the tables of an open manager obey the rules.
use Rattle.std.proofs.Common.{◌≡◌, Ok, subst, replicate, ℕ, ◌<◌, Bool, true, false, not, ◌&&◌, ◌||◌, eqb, Some, None, Err, Option, Result, IsErrAnd, sym, refl, ap, ◌∙◌, arith}
use mathlib.Core.Path.{fun_ext}
use Rattle.std.proofs.lemmas.List.{length-replicate}
use Rattle.std.proofs.lemmas.Bool.{lt-leb}
use Rattle.std.proofs.lemmas.Bool.Decides.{nat_tests}
use Rattle.jobs.specs.declared.job.Job.{Job}
use Rattle.jobs.specs.declared.set.JobSet.{JobSet}
use Rattle.jobs.specs.Jobs.{member, jobs_where}
use Rattle.jobs.proofs.Jobs.{member_low}
use Rattle.rules.specs.declared.access.Access.{Access}
use Rattle.rules.specs.declared.access.Access.TheVariants.{Read, Write}
use Rattle.rules.specs.declared.fault.ManagerFault.{ManagerFault}
use Rattle.rules.specs.declared.fault.ManagerFault.TheVariants.{Voted}
use Rattle.rules.specs.Manager.{last_or, conflict_of}
use Rattle.rules.specs.Cascade.{goes}
use Rattle.rules.specs.Changes.{read, write, leave, lost_to_commit, lost_to_roll_back}
use Rattle.rules.specs.Calls.{Answered, Obeys, access_of, read_of, write_of, stops}
use Rattle.rules.proofs.Calls.{obeys}
use Rattle.managers.specs.declared.memory.Count.{Count}
use Rattle.managers.specs.Tables.{Held, Leaves}
use Rattle.managers.proofs.Faults.{exits}
use Rattle.managers.proofs.Refusals.{access_refused, access_accepted}
use Rattle.open_manager.specs.declared.OpenTables.{OpenTables}
use Rattle.open_manager.specs.declared.order.Order.{Order}
use Rattle.open_manager.specs.declared.records.Record.{Record}
use Rattle.open_manager.specs.Order.{precedes, reads_from, is_pending, has_voted, WithAccess}
use Rattle.open_manager.specs.Lists.{last_listed}
use Rattle.open_manager.specs.Writers.{listed}
use Rattle.open_manager.specs.Records.{rivals, ReaderNoted, WriterNoted}
use Rattle.open_manager.specs.RollBack.{RolledBack}
use Rattle.open_manager.specs.Open.{record_in, reads_in, writers_in, writes_by, held_by, admits_all, Left}
use Rattle.open_manager.proofs.Meanings.{read_means, write_means, leave_means}
use Rattle.open_manager.proofs.Leaving.{left_twice}
use Rattle.open_manager.proofs.RollingBack.{rolled_readers, rolled_goes}

-- one job besides those of a set, whether it belongs to the set or not
besides : (g e : Bool) → (g || e) ≡ ((g && not e) || e)
besides g e = grind (arith, nat_tests)

module _ (t : OpenTables) (j : ℕ) where
  abbrev m : Held
  m = held_by t

  abbrev n : ℕ
  n = t.count.number

  -- what the tables would hold with that order
  abbrev with_order : Order → Held
  with_order o = record {
    settled = replicate n tt;
    writes = λ p. writes_by (writers_in t p);
    readers = reads_in t;
    precedes = precedes o;
    reads_from = reads_from o;
    voted = has_voted o;
  }

  -- no access is stopped by a conflict
  never_stopped : (p : ℕ) (a : Access) → stops admits_all m j p a ≡ None
  never_stopped p a = go (conflict_of m j p a)
    where
      go : (o : Option ℕ) → ◌≡◌ {A = Option ℕ} (elim o [ None ↦ None | Some k ↦ None ]) None
      go None = refl
      go (Some k) = refl

  -- an access to parameter p
  module _ (low : j < 16) {A : Type 0} (p : ℕ) (a : Access) (x : Unit {0} → Answered A (Unit {0})) where
    pub too_late : p < n → has_voted t.order j ≡ true → access_of admits_all m j p a x ≡ (Err Voted, m)
    too_late inside voted =
        let job = lt-leb 16 j low in
        let there = lt-leb n p inside in
        access_refused m n (length-replicate n tt) admits_all j p a x None (λ l. never_stopped p a) Voted (grind (arith, nat_tests))

    -- so a call that ends with that refusal, and with the order as it was, obeys the rule
    pub late : {r : Result A ManagerFault} {f : ManagerFault} {o : Order} → IsErrAnd r (λ e. e ≡ f) → o ≡ t.order → f ≡ Voted
        → has_voted t.order j ≡ true → p < n → Obeys (access_of admits_all m j p a x) r (with_order o)
    late {r = r} is same why voted inside =
        subst (λ (o : Order). Obeys (access_of admits_all m j p a x) r (with_order o)) (sym same)
        (exits _ _ (rw (sym why) is) (too_late inside voted))

    pub admitted : p < n → has_voted t.order j ≡ false → access_of admits_all m j p a x ≡ x tt
    admitted inside unvoted =
        let job = lt-leb 16 j low in
        let there = lt-leb n p inside in
        (access_accepted m n (length-replicate n tt) admits_all j p a x None (λ l. never_stopped p a) (grind (arith, nat_tests))).4.2

  -- those of `gone`, which besides j are just those of `others`, and j left
  gone_leaves : (gone others : ℕ → Bool) (u : OpenTables) (r : JobSet) → ((k : ℕ) → (gone k && not (eqb k j)) ≡ (others k && not (eqb k j)))
      → Left t (λ k. gone k || eqb k j) u → r ≡ jobs_where (λ k. gone k && not (eqb k j)) → Leaves m (λ k. others k && not (eqb k j)) j r (held_by u)
  gone_leaves gone others u r same left e = record {
    told = e ∙ ap jobs_where (fun_ext same);
    after = leave_means t u (λ k. gone k || eqb k j) left
        ∙ ap (λ (f : ℕ → Bool). leave f m) (fun_ext (λ k. besides (gone k) (eqb k j) ∙ ap (λ (x : Bool). x || eqb k j) (same k)));
  }

  -- a commit rolls back those that precede the job, all of whom are pending, and then the job leaves
  pub commit_leaves : (u w : OpenTables) (ahead gone r : JobSet) → ((k : ℕ) → member ahead k ≡ precedes t.order k j) → Left t (member gone) w
      → RolledBack (member ahead) (reads_from t.order) (is_pending t.order) (member gone) → Left w (λ k. eqb k j) u
      → r ≡ jobs_where (λ k. member gone k && not (eqb k j)) → Leaves m (lost_to_commit m j) j r (held_by u)
  commit_leaves u w ahead gone r is l b left =
      gone_leaves (member gone) (goes 16 (λ i. precedes t.order i j) (reads_from t.order)) u r
      (λ k. ap (λ (x : Bool). x && not (eqb k j)) (went k)) (left_twice t w u (member gone) (λ k. eqb k j) _ (λ k. refl) l left)
    where
      went : (k : ℕ) → member gone k ≡ goes 16 (λ i. precedes t.order i j) (reads_from t.order) k
      went k =
          rolled_goes (reads_from t.order) (is_pending t.order) (member ahead) (member gone) (member_low t.order.pending)
          (λ i q. t.order.ahead i j (sym (is i) ∙ q)) t.order.readers b k
          ∙ ap (λ (f : ℕ → Bool). goes 16 f (reads_from t.order) k) (fun_ext is)

  -- in a roll back the job leaves, and then those that read from it are rolled back
  pub roll_back_leaves : (u w : OpenTables) (readers gone r : JobSet) → ((k : ℕ) → member readers k ≡ reads_from t.order k j)
      → Left t (λ k. eqb k j) w → Left w (member gone) u → RolledBack (member readers) (reads_from w.order) (is_pending w.order) (member gone)
      → r ≡ jobs_where (λ k. member gone k && not (eqb k j)) → Leaves m (lost_to_roll_back m j) j r (held_by u)
  roll_back_leaves u w readers gone r is first l b =
      gone_leaves (member gone) (goes 16 (λ i. reads_from t.order i j) (reads_from t.order)) u r
      (rolled_readers (reads_from t.order) (is_pending t.order) j (reads_from w.order) (is_pending w.order) first.reads_from first.pending
      (member readers) (member gone) (member_low t.order.pending) t.order.readers is b)
      (left_twice t w u (λ k. eqb k j) (member gone) _ (λ k. let x : Bool = member gone k in grind (arith, nat_tests)) first l)

-- an access that was noted, where r is the record of the parameter
module _ (t u : OpenTables) (job : Job) (p : ℕ) where
  abbrev own : ℕ
  own = job.number

  -- what the tables hold then
  abbrev then : Count → Held
  then c = record {
    settled = replicate c.number tt;
    writes = λ q. writes_by (writers_in u q);
    readers = reads_in u;
    precedes = precedes u.order;
    reads_from = reads_from u.order;
    voted = has_voted u.order;
  }

  pub read_obeys : {r : Record} {earlier : JobSet} {source : Option ℕ}
      → ((k : ℕ) → member earlier k ≡ rivals r own Read k) → source ≡ last_listed (listed r.writers)
      → p < t.count.number → r ≡ record_in t p → has_voted t.order own ≡ false → WithAccess t.order own earlier source u.order
      → ReaderNoted t.records.entries p own u.records.entries → u.count ≡ t.count
      → Obeys (read_of admits_all (held_by t) own p) (Ok tt) (held_by u)
  read_obeys {earlier = earlier} is last inside here unvoted access noted count =
      let now = read_means t u.records.entries u.order own p earlier
      (λ k. is k ∙ ap (λ (x : Record). rivals x own Read k) here)
      (subst (λ (o : Option ℕ). WithAccess t.order own earlier o u.order) (last ∙ ap (λ (x : Record). last_listed (listed x.writers)) here) access)
      noted in
      obeys (admitted t own job.low p Read (λ v. (Ok (last_or v ((held_by t).writes p)), read own p (held_by t))) inside unvoted
      ∙ ap (λ (m : Held). (Ok tt, m)) (sym (ap then count ∙ now)))

  pub write_obeys : {r : Record} {earlier : JobSet}
      → ((k : ℕ) → member earlier k ≡ rivals r own Write k)
      → p < t.count.number → r ≡ record_in t p → has_voted t.order own ≡ false → WithAccess t.order own earlier None u.order
      → WriterNoted t.records.entries p own u.records.entries → u.count ≡ t.count
      → Obeys (write_of admits_all (held_by t) own p tt) (Ok tt) (held_by u)
  write_obeys {earlier = earlier} is inside here unvoted access noted count =
      let now = write_means t u.records.entries u.order own p earlier (λ k. is k ∙ ap (λ (x : Record). rivals x own Write k) here) access noted in
      obeys (admitted t own job.low p Write (λ _. (Ok tt, write own p tt (held_by t))) inside unvoted
      ∙ ap (λ (m : Held). (Ok tt, m)) (sym (ap then count ∙ now)))
