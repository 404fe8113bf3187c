use Rattle.std.proofs.Common.{◌≡◌, ℕ, if◌then◌else◌, List, ap, ◌∙◌, arith}
use Rattle.std.proofs.lemmas.Bool.Decides.{nat_tests}
use Rattle.jobs.specs.declared.set.JobSet.{JobSet}
use Rattle.jobs.specs.Jobs.{member}
use Rattle.jobs.specs.Rows.{row_at}
use Rattle.jobs.proofs.Jobs.{next_some, next_none}
use Rattle.jobs.proofs.Rows.{more, adding_more, adding_all, more_pairs}
use Rattle.jobs.proofs.relation.Relation.with_edges.Goals as goal

pub loop-job-preserved : goal.loop-job-preserved
loop-job-preserved c =
    let step = next_some _ _ _ c.in-Some.ensures.steps.0 c.in-Some.ensures.steps.1 in
    adding_more _ _ _ _ _ _ _ _ _ c.from.ensures (omega (arith, c.in-Some.job.low)) step.0 step.1 c.insert.ensures.value c.loop-job.invariant

pub returns : goal.returns
returns c =
    let to : ℕ = c.args.to.number in
    let before : List JobSet = c.args.self.rows in
    let rows : (i : ℕ) → row_at c.loop-job.rows i ≡ (if member c.args.from i then more (row_at before i) to else row_at before i) = λ i.
    let all = adding_all before _ to _ _ (next_none _ c.in-None.ensures.steps.0) c.loop-job.invariant i in
    let walked = c.into_iter-job-iterator.ensures.into_iter_gives in
    grind (arith, nat_tests) in
    record { rows = rows; pairs = λ i k. ap (λ (s : JobSet). member s k) (rows i) ∙ more_pairs (row_at before i) (member c.args.from i) to k c.args.to.low }
