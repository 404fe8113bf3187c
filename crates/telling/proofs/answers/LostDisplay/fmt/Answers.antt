use Rattle.std.proofs.Common.{rules}
use Rattle.telling.proofs.LostSoFar.{lost_more, lost_all}
use Rattle.telling.proofs.answers.LostDisplay.fmt.Goals as goal

pub loop-job-preserved : goal.loop-job-preserved
loop-job-preserved g c plain =
    lost_more g.W.Write.write_str_gives c.args.self.now.0 c.args.f.now _ _ c.in-Some.job.number _ _
    c.in-Some.ensures.steps.0 c.in-Some.ensures.steps.1 (c.loop-job.invariant plain) (search rules)

pub returns-clause-writes : goal.returns-clause-writes
returns-clause-writes g c plain ok =
    let some = c.if-is_empty.ensures.members in
    let all = lost_all g.W.Write.write_str_gives c.args.self.now.0 c.args.f.now _ _ c.in-None.ensures.steps.0 (c.loop-job.invariant plain) in
    search (rules, all, some)
