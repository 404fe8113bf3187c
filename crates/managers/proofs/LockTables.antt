-- The tables of a locking manager follow the rules of what they hold.
use Rattle.std.proofs.Common.{◌≡◌, ℕ, zero, suc, ◌≤◌, Bool, true, false, cond, ◌||◌, List, length, take, get_or, Some, None, Option, sym, refl, ap, ◌∙◌, add-one, arith}
use Rattle.std.proofs.lemmas.List.{length-replicate}
use Rattle.std.proofs.lemmas.List.Folds.{list_any_more}
use Rattle.std.specs.List.{list_any}
use Rattle.std.proofs.lemmas.Bool.Decides.{nat_tests}
use Rattle.std.proofs.lemmas.Bool.{false_from_ne_true}
use Rattle.jobs.specs.declared.job.Job.{Job}
use Rattle.jobs.specs.Sets.{names, lowest, any_below}
use Rattle.jobs.specs.Jobs.{member, number_in}
use Rattle.jobs.proofs.Sets.{lowest_never, lowest_same, any_same}
use Rattle.jobs.proofs.Jobs.{member_past}
use Rattle.rules.specs.declared.access.Access.{Access}
use Rattle.rules.specs.declared.access.Access.TheVariants.{Read, Write}
use Rattle.rules.specs.Manager.{wrote, accesses, pending, conflicts, conflict_of}
use Rattle.rules.specs.Calls.{Answered, access_of, stops}
use Rattle.managers.proofs.Refusals.{access_accepted}
use Rattle.managers.specs.declared.locking.Lock.{Lock}
use Rattle.managers.specs.declared.locking.Locks.{Locks}
use Rattle.managers.specs.Locking.{no_lock, lock_at, holds, rivals, access_fault, writes_of, held_by, admits_none}
use Rattle.managers.specs.LockLaws.{jobs_write}

-- a test of the first n entries of a table
any_taken : {X : Type 0} (f : X → Bool) (d : X) (xs : List X) (n : ℕ) → n ≤ length xs → list_any f (take n xs) ≡ any_below (λ p. f (get_or xs p d)) n
unfolding any_below
any_taken f d xs zero h = refl
any_taken f d xs (suc n) h =
    ap (λ (k : ℕ). list_any f (take k xs)) (sym (add-one n)) ∙ list_any_more f xs n d (omega arith)
    ∙ ap (λ (b : Bool). b || f (get_or xs n d)) (any_taken f d xs n (omega arith)) ∙ turned (any_below (λ p. f (get_or xs p d)) n) (f (get_or xs n d))
  where
    turned : (a b : Bool) → (a || b) ≡ cond b true a
    turned true b = grind (arith, nat_tests)
    turned false b = grind (arith, nat_tests)

-- who writes a parameter is told by its lock
pub wrote_is : (o : Option Job) (k : ℕ) → wrote k (writes_of o) ≡ names (number_in o) k
wrote_is None k = refl
wrote_is (Some w) k = grind (arith, nat_tests)

module _ (t : Locks) where
  -- there is a settled value for each parameter
  pub settled_count : length (held_by t).settled ≡ t.count.number
  settled_count = length-replicate t.count.number (tt {0})

  -- with whom an access conflicts is told by the lock
  conflicts_are : (j p : ℕ) (a : Access) (k : ℕ) → conflicts (held_by t) j p a k ≡ rivals (lock_at t.locks p) j a k
  conflicts_are j p Read k = rw wrote_is
  conflicts_are j p Write k = rw wrote_is

  -- the job in the way of an access is told by the lock
  pub stops_are : (j p : ℕ) (a : Access) → stops admits_none (held_by t) j p a ≡ lowest (rivals (lock_at t.locks p) j a) 16
  stops_are j p a = whole (conflict_of (held_by t) j p a) ∙ lowest_same _ _ 16 (λ k _. conflicts_are j p a k)
    where
      whole : (o : Option ℕ) → elim o [ None ↦ None | Some k ↦ Some k ] ≡ o
      whole None = refl
      whole (Some k) = refl

  -- nobody past the numbers of jobs conflicts with an access
  conflicts_past : (j p : ℕ) (a : Access) (k : ℕ) → 16 ≤ k → conflicts (held_by t) j p a k ≡ false
  conflicts_past j p a k h =
      let reads = member_past (lock_at t.locks p).readers k h in
      let writes = false_from_ne_true (wrote k ((held_by t).writes p)) (λ w. let x = jobs_write t p k w in omega arith) in
      go a reads writes
    where
      go : (a : Access) → member (lock_at t.locks p).readers k ≡ false → wrote k ((held_by t).writes p) ≡ false → conflicts (held_by t) j p a k ≡ false
      go Read r w = grind (arith, nat_tests)
      go Write r w = grind (arith, nat_tests)

  -- an access that the tables do not refuse conflicts with nobody, and the rules accept it
  pub access_admitted : {A : Type 0} (j p : ℕ) (a : Access) (x : Unit {0} → Answered A (Unit {0})) → access_fault t j p a ≡ None
      → ((k : ℕ) → conflicts (held_by t) j p a k ≡ false) × (access_of admits_none (held_by t) j p a x ≡ x tt)
  access_admitted j p a x h =
      let ok = access_accepted (held_by t) t.count.number settled_count admits_none j p a x _ (λ _. stops_are j p a) h in (
        lowest_never _ 16 (lowest_same _ _ 16 (λ k _. conflicts_are j p a k) ∙ ok.3) (conflicts_past j p a),
        ok.4.2,
      )

  -- who is pending is told by the locks
  pub pending_is : (j n : ℕ) → n ≡ t.count.number → list_any (λ (l : Lock). holds l j) (take n t.locks) ≡ pending (held_by t) j
  pending_is j n e =
      any_taken (λ (l : Lock). holds l j) no_lock t.locks n (omega (arith, t.whole, t.count.few))
      ∙ any_same _ _ n (λ p l. ap (λ (b : Bool). member (lock_at t.locks p).readers j || b) (sym (wrote_is (lock_at t.locks p).writer j)))
      ∙ ap (λ (n : ℕ). any_below (λ p. accesses (held_by t) j p) n) (e ∙ sym settled_count)
