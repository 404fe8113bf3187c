-- The sets that commit and roll back answer are exactly the jobs that go.
use Rattle.std.proofs.Common.{◌≡◌, ℕ, ◌<◌, Bool, not, ◌&&◌, eqb, ltb, leb, Ok, Result, sym, ◌∙◌, subst, arith}
use Rattle.std.proofs.lemmas.Bool.Decides.{nat_tests}
use Rattle.std.proofs.lemmas.Bool.{ltb-true, and_parts, eqb-false, not-true}
use Rattle.jobs.specs.declared.set.JobSet.{JobSet}
use Rattle.jobs.specs.Jobs.{jobs_where}
use Rattle.jobs.proofs.Jobs.{member_where}
use Rattle.rules.specs.Manager.{Manager, pending}
use Rattle.rules.specs.Cascade.{goes}
use Rattle.rules.specs.declared.fault.ManagerFault.{ManagerFault}
use Rattle.rules.specs.Theorems.{Exactly, CommitIsExact, RollBackIsExact}
use Rattle.rules.proofs.Calls.{accepted_past}
use Rattle.rules.proofs.Cascade.{goes_gone, gone_only}

module _ {V : Type 0} where
  exactly : (m : Manager V) (first : ℕ → Bool) (j : ℕ) → Exactly m first j (jobs_where (λ k. goes 16 first m.reads_from k && not (eqb k j)))
  exactly m first j = record {
    only = λ k h.
        let low : k < 16 = ltb-true k 16 (and_parts (ltb k 16) _ h).0 in
        let y = and_parts (goes 16 first m.reads_from k) (not (eqb k j)) (sym (member_where lost k low) ∙ h) in
        (gone_only 16 first m.reads_from k low y.0, eqb-false k j (not-true (eqb k j) y.1));
    all = λ k g n.
        let y = goes_gone 16 first m.reads_from g in
        let x = member_where lost k y.0 in
        let z = y.1 in
        grind (arith, nat_tests);
  }
    where
      lost : ℕ → Bool
      lost k = goes 16 first m.reads_from k && not (eqb k j)

  taken : (m : Manager V) (first : ℕ → Bool) (j : ℕ) (lost : JobSet) (s : JobSet) → Exactly m first j s
      → ◌≡◌ {A = Result JobSet ManagerFault} (Ok s) (Ok lost) → Exactly m first j lost
  taken m first j lost s x h = let e : s ≡ lost = cc in subst (λ (t : JobSet). Exactly m first j t) e x

  pub commit_is_exact : CommitIsExact V
  commit_is_exact m j lost h =
      taken m (λ i. m.precedes i j) j lost _ (exactly m (λ i. m.precedes i j) j)
      (accepted_past (not (m.voted j)) _ m _ lost (accepted_past (not (pending m j)) _ m _ lost (accepted_past (leb 16 j) _ m _ lost h)))

  pub roll_back_is_exact : RollBackIsExact V
  roll_back_is_exact m j lost h =
      taken m (λ i. m.reads_from i j) j lost _ (exactly m (λ i. m.reads_from i j) j)
      (accepted_past (not (pending m j)) _ m _ lost (accepted_past (leb 16 j) _ m _ lost h))
