use Rattle.std.proofs.Common.{rules, ℕ, List, eqb, ap, ◌∙◌, arith}
use Rattle.jobs.specs.declared.set.JobSet.{JobSet}
use Rattle.jobs.specs.Jobs.{member, no_jobs}
use Rattle.jobs.specs.Rows.{row_at}
use Rattle.jobs.proofs.Walks.{walked_more, walked_all}
use Rattle.jobs.proofs.Rows.{Loses, nobody_loses, less_pairs, emptied}
use Rattle.jobs.proofs.relation.Relation.without.Goals as goal

pub loop-row-preserved : goal.loop-row-preserved
loop-row-preserved c =
    walked_more no_jobs (Loses c.args.job.number) _ _ _ no_jobs _ (omega (arith, c.loop-row.invariant.0)) c.loop-row.invariant
    (search rules)

pub returns : goal.returns
returns c =
    let j : ℕ = c.args.job.number in
    let before : List JobSet = c.args.self.rows in
    let lost = walked_all no_jobs (Loses j) before c.loop-row.row-items c.loop-row.row-index (omega arith) (nobody_loses j) c.loop-row.invariant in
    let rows = emptied before c.loop-row.row-items c.empty.result c.from.result j c.from.ensures (omega (arith, c.args.job.low)) c.empty.ensures.value lost in
    record { rows = rows; pairs = λ i k. ap (λ (s : JobSet). member s k) (rows i) ∙ less_pairs (row_at before i) (eqb i j) j k }
