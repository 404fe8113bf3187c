-- Who is pending after each change, and who is known to be pending.
use Rattle.std.proofs.Common.{◌≡◌, ℕ, ◌<◌, Bool, true, not, ◌&&◌, ◌||◌, eqb, length, ap, arith}
use Rattle.std.proofs.lemmas.Bool.Decides.{nat_tests}
use Rattle.jobs.specs.Sets.{any_below, names}
use Rattle.jobs.proofs.Sets.{any_from, any_more, any_and}
use Rattle.rules.specs.declared.access.Access.{Access}
use Rattle.rules.specs.declared.access.Access.TheVariants.{Read, Write}
use Rattle.rules.specs.Manager.{Manager, last_writer, accesses, pending, conflicts}
use Rattle.rules.specs.Changes.{read, write, settle, leave}
use Rattle.rules.proofs.Values.{length_settled, wrote_without, last_wrote}

module _ {V : Type 0} where
  pub pending_read : (m : Manager V) (j p : ℕ) → p < length m.settled → (k : ℕ) → pending (read j p m) k ≡ (pending m k || eqb k j)
  pending_read m j p l k =
      let x = any_more (accesses m k) (accesses (read j p m) k) (length m.settled) p (eqb k j) (λ q. grind (arith, nat_tests)) in
      grind (arith, nat_tests)

  pub pending_write : (m : Manager V) (j p : ℕ) (v : V) → p < length m.settled
      → (k : ℕ) → pending (write j p v m) k ≡ (pending m k || eqb k j)
  pending_write m j p v l k =
      let e = wrote_without (λ i. eqb i j) (m.writes p) k in
      let x = any_more (accesses m k) (accesses (write j p v m) k) (length m.settled) p (eqb k j) (λ q. grind (arith, nat_tests)) in
      grind (arith, nat_tests)

  pub pending_settle : (m : Manager V) (j k : ℕ) → pending (settle j m) k ≡ pending m k
  pending_settle m j k = ap (λ (n : ℕ). any_below (accesses m k) n) (length_settled j m.writes 0 m.settled)

  pub pending_leave : (m : Manager V) (gone : ℕ → Bool) (k : ℕ) → pending (leave gone m) k ≡ (pending m k && not (gone k))
  pending_leave m gone k =
      any_and (accesses m k) (accesses (leave gone m) k) (length m.settled) (not (gone k)) (λ q.
      let e = wrote_without gone (m.writes q) k in
      grind (arith, nat_tests))

  module _ (m : Manager V) (p : ℕ) (low : p < length m.settled) where
    at_parameter : (i : ℕ) → accesses m i p ≡ true → pending m i ≡ true
    at_parameter i h = any_from (accesses m i) (length m.settled) p low h

    -- whoever conflicts with an access is pending
    pub conflict_pending : (j : ℕ) (a : Access) (i : ℕ) → conflicts m j p a i ≡ true → pending m i ≡ true
    conflict_pending j Read i h = at_parameter i (grind (arith, nat_tests))
    conflict_pending j Write i h = at_parameter i (grind (arith, nat_tests))

    -- whoever wrote last is pending
    pub last_pending : (i : ℕ) → names (last_writer (m.writes p)) i ≡ true → pending m i ≡ true
    last_pending i h = let x = last_wrote (m.writes p) i h in at_parameter i (grind (arith, nat_tests))
