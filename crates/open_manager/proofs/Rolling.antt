-- While each of some jobs is rolled back, one after the other.
use Rattle.std.proofs.Common.{◌≡◌, ℕ, ◌^◌, ◌<◌, Bool, true, false, not, ◌&&◌, ◌||◌, eqb, subst, arith}
use mathlib.Core.Path.{fun_ext}
use Rattle.std.proofs.lemmas.Bool.Decides.{nat_tests}
use Rattle.jobs.specs.declared.set.JobSet.{JobSet}
use Rattle.jobs.specs.Jobs.{member}
use Rattle.open_manager.specs.declared.OpenTables.{OpenTables}
use Rattle.open_manager.specs.Order.{reads_from, is_pending}
use Rattle.open_manager.specs.RollBack.{RolledBack}
use Rattle.open_manager.specs.Open.{Left}
use Rattle.open_manager.proofs.Leaving.{left_none, left_twice}
use Rattle.open_manager.proofs.RollingBack.{rolled_none, rolled_more}

-- those of `jobs` that are no more left to come were rolled back, and those of `gone` left
pub record Rolling (t : OpenTables) (jobs left gone : JobSet) (u : OpenTables) : Type 0 where
  pub fits : gone.bits < 2 ^ 16
  pub within : (k : ℕ) → member left k ≡ true → member jobs k ≡ true
  pub leaving : Left t (member gone) u
  pub done : RolledBack (λ k. member jobs k && not (member left k)) (reads_from t.order) (is_pending t.order) (member gone)

module _ (t : OpenTables) (jobs : JobSet) where
  pub rolling_none : (gone : JobSet) → gone.bits < 2 ^ 16 → ((k : ℕ) → member gone k ≡ false) → Rolling t jobs jobs gone t
  rolling_none gone fits none = record {
    fits = fits;
    within = λ k h. h;
    leaving = left_none t (member gone) none;
    done = rolled_none (reads_from t.order) (is_pending t.order) (λ k. member jobs k && not (member jobs k)) (member gone)
        (λ k h p. let z : ◌≡◌ {A = ℕ} 0 1 = grind (arith, nat_tests) in omega arith) none;
  }

  -- the job j was next
  pub rolling_more : (u v : OpenTables) (left rest gone more all : JobSet) (j : ℕ) → j < 16 → member left j ≡ true
      → ((k : ℕ) → member rest k ≡ (member left k && not (eqb k j))) → all.bits < 2 ^ 16
      → ((k : ℕ) → member all k ≡ (member gone k || member more k)) → Rolling t jobs left gone u → Left u (member more) v
      → RolledBack (λ k. eqb k j) (reads_from u.order) (is_pending u.order) (member more) → Rolling t jobs rest all v
  rolling_more u v left rest gone more all j low next others fits e r l b = record {
    fits = fits;
    within = λ k h. let x = others k in let y = r.within k in grind (arith, nat_tests);
    leaving = left_twice t u v (member gone) (member more) (member all) e r.leaving l;
    done = rolled_more (reads_from t.order) (is_pending t.order) (member gone) (reads_from u.order) (is_pending u.order)
        r.leaving.reads_from r.leaving.pending _ _ (member more) (member all) j low
        (λ k. let x = others k in let y = r.within k in grind (arith, nat_tests)) e r.done b;
  }

  pub rolling_all : (u : OpenTables) (left gone : JobSet) → ((k : ℕ) → member left k ≡ false) → Rolling t jobs left gone u
      → RolledBack (member jobs) (reads_from t.order) (is_pending t.order) (member gone)
  rolling_all u left gone none r =
      subst (λ (f : ℕ → Bool). RolledBack f (reads_from t.order) (is_pending t.order) (member gone))
      (fun_ext (λ k. let x = none k in grind (arith, nat_tests))) r.done
