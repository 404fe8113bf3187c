use Rattle.std.proofs.Common.{◌≡◌, ℕ, ◌+◌, ◌*◌, ◌<◌, eqb, sym, ap, subst, arith}
use Rattle.std.proofs.lemmas.Bool.Decides.{nat_tests}
use Rattle.jobs.specs.declared.set.JobSet.{JobSet}
use Rattle.jobs.specs.Sets.{how_many}
use Rattle.jobs.specs.Jobs.{member}
use Rattle.jobs.proofs.Jobs.{next_some, next_none, set_fits}
use Rattle.open_manager.specs.declared.OpenTables.{OpenTables}
use Rattle.open_manager.specs.Order.{reads_from, is_pending}
use Rattle.open_manager.specs.RollBack.{RolledBack}
use Rattle.open_manager.proofs.Leaving.{left_none, left_twice, left_fewer, left_less}
use Rattle.open_manager.proofs.RollingBack.{rolled_one}
use Rattle.open_manager.proofs.Rolling.{rolling_none, rolling_more, rolling_all}
use Rattle.open_manager.proofs.OpenTables.+roll_back_each_roll_back_one.Goals as goal

pub roll_back_one-returns-then-not-is_pending-clause-left : goal.roll_back_one-returns-then-not-is_pending-clause-left
roll_back_one-returns-then-not-is_pending-clause-left t c = left_none c.args.self.now _ c.empty.ensures.members

pub roll_back_one-roll_back_each-requires : goal.roll_back_one-roll_back_each-requires
roll_back_one-roll_back_each-requires t c =
    let less = left_less c.args.self.now c.leave.new.self c.args.job.number c.args.job.low
    (sym c.if-not-is_pending.ensures) c.leave.ensures in
    let f : 2 * how_many (is_pending c.leave.new.self.order) 16 + 1 < t = omega arith in
    (f, tt)

pub roll_back_one-returns : goal.roll_back_one-returns
roll_back_one-returns t c =
    let a : OpenTables = c.args.self.now in
    let b : OpenTables = c.leave.new.self in
    let j : ℕ = c.args.job.number in
    let left = c.leave.ensures in
    let added = c.insert.ensures.members in
    record {
      left = left_twice a b c.roll_back_each.new.self (λ k. eqb k j) _ _ (λ k. let x = added k in grind (arith, nat_tests)) left c.roll_back_each.ensures.left;
      gone = rolled_one (reads_from a.order) (is_pending a.order) j (reads_from b.order) (is_pending b.order) left.reads_from left.pending
          _ _ _ c.args.job.low a.order.readers c.readers_of-readers.ensures added c.roll_back_each.ensures.gone;
    }

pub roll_back_each-loop-job-init : goal.roll_back_each-loop-job-init
roll_back_each-loop-job-init t c =
    let none : c.empty-gone.result.bits ≡ 0 = ap (λ (s : JobSet). s.bits) c.empty-gone.ensures.value in
    rolling_none c.args.self.now _ c.empty-gone.result (omega arith) c.empty-gone.ensures.members

pub roll_back_each-roll_back_one-requires : goal.roll_back_each-roll_back_one-requires
roll_back_each-roll_back_one-requires t c =
    let fewer = left_fewer c.args.self.now c.loop-job.self (member c.loop-job.gone) c.loop-job.invariant.leaving in
    let f : 2 * how_many (is_pending c.loop-job.self.order) 16 < t = omega arith in
    (f, tt)

pub roll_back_each-loop-job-preserved : goal.roll_back_each-loop-job-preserved
roll_back_each-loop-job-preserved t c =
    let step = next_some _ _ _ c.in-Some.ensures.steps.0 c.in-Some.ensures.steps.1 in
    rolling_more c.args.self.now _ c.loop-job.self c.roll_back_one.new.self _ _ c.loop-job.gone c.roll_back_one.result c.union-gone.result
    c.in-Some.job.number c.in-Some.job.low step.0 step.1 (set_fits _ _ c.union-gone.ensures.value) c.union-gone.ensures.members
    c.loop-job.invariant c.roll_back_one.ensures.left c.roll_back_one.ensures.gone

pub roll_back_each-returns : goal.roll_back_each-returns
roll_back_each-returns t c =
    let all : c.into_iter-job-iterator.result.left ≡ c.args.jobs = c.into_iter-job-iterator.ensures.into_iter_gives in
    let inv = c.loop-job.invariant in
    record {
      left = inv.leaving;
      gone = subst (λ (s : JobSet). RolledBack (member s) (reads_from c.args.self.now.order) (is_pending c.args.self.now.order) (member c.loop-job.gone)) all
          (rolling_all c.args.self.now _ c.loop-job.self _ c.loop-job.gone (next_none _ c.in-None.ensures.steps.0) inv);
      fits = inv.fits;
    }
