use Rattle.std.proofs.Common.{◌≡◌, ℕ, eqb, false, List, refl, ap, ◌∙◌, arith}
use Rattle.std.proofs.lemmas.Bool.Decides.{nat_tests}
use Rattle.std.proofs.lemmas.Bool.{eq-eqb}
use Rattle.open_manager.specs.declared.writers.Writers.{Writers}
use Rattle.open_manager.specs.Lists.{last_first, among, distinct, leaving}
use Rattle.open_manager.specs.Writers.{listed}
use Rattle.open_manager.specs.Laws.{low_listed}
use Rattle.open_manager.proofs.Lists.{among_leaving, length_listed, room_for_one, last_first_push}
use Rattle.open_manager.proofs.writers.Writers.push.Goals as goal

-- the job is not among those that are left without it
gone : (js : List ℕ) (w : Writers) (j : ℕ) → listed w ≡ leaving (λ k. eqb k j) js → among (listed w) j ≡ false
gone js w j e =
    ap (λ (ks : List ℕ). among ks j) e ∙ among_leaving (λ k. eqb k j) js j ∙ (let t = eq-eqb j j refl in grind (arith, nat_tests))

pub push-requires : goal.push-requires
push-requires c =
    let w : Writers = c.remove.new.self in
    let out = gone (listed c.args.self.now) w c.args.job.number c.remove.ensures in
    let few = room_for_one (listed w) c.args.job.number (low_listed w.jobs.items) w.once c.args.job.low out in
    (omega arith, omega (arith, length_listed w.jobs.items))

pub invariant_of-self : goal.invariant_of-self
invariant_of-self c =
    let w : Writers = c.remove.new.self in
    let out = gone (listed c.args.self.now) w c.args.job.number c.remove.ensures in
    let once = w.once in
    record {
      once = ap (λ xs. distinct (last_first xs)) c.push.ensures.items ∙ ap distinct (last_first_push w.jobs.items c.args.job) ∙ (grind (arith, nat_tests));
    }
