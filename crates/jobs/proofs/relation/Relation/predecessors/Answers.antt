use Rattle.std.proofs.Common.{rules, true, false, refl}
use Rattle.jobs.proofs.Jobs.{next_some, next_none, set_is}
use Rattle.jobs.proofs.Rows.{finding_more, finding_all}
use Rattle.jobs.proofs.relation.Relation.predecessors.Goals as goal

pub loop-other-preserved : goal.loop-other-preserved
loop-other-preserved c =
    let step = next_some _ _ _ c.in-Some.ensures.steps.0 c.in-Some.ensures.steps.1 in
    finding_more _ _ _ _ _ _ _ _ false c.from.ensures (search rules) step.0 step.1 refl c.loop-other.invariant

pub loop-other-preserved-then-contains : goal.loop-other-preserved-then-contains
loop-other-preserved-then-contains c =
    let step = next_some _ _ _ c.in-Some.ensures.steps.0 c.in-Some.ensures.steps.1 in
    finding_more _ _ _ _ _ _ _ _ true c.from.ensures (search rules) step.0 step.1 c.insert-found.ensures.value c.loop-other.invariant

pub returns : goal.returns
returns c =
    let all = finding_all _ _ c.args.self.whole _ _ (next_none _ c.in-None.ensures.steps.0) c.loop-other.invariant in
    record { value = set_is _ _ c.loop-other.invariant.fits all; members = all }
