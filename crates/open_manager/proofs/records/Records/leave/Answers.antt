use Rattle.std.proofs.Common.{◌<◌, ◌≤◌, length, arith}
use Rattle.jobs.proofs.Walks.{walked_more, walked_all}
use Rattle.open_manager.specs.declared.records.Record.{Record}
use Rattle.open_manager.specs.Records.{no_record, WithoutJob}
use Rattle.open_manager.proofs.Entries.{without_none}
use Rattle.open_manager.proofs.records.Records.leave.Goals as goal

pub loop-entry-preserved : goal.loop-entry-preserved
loop-entry-preserved c =
    let long : c.loop-entry.entry-index < length c.loop-entry.entry-items =
    omega (arith, c.loop-entry.invariant.0, c.args.self.now.whole) in
    walked_more no_record (λ (a b : Record). WithoutJob a c.args.job.number b) _ _ _ c.entry-item.result _ long c.loop-entry.invariant c.remove.ensures

pub returns : goal.returns
returns c =
    let done : length c.loop-entry.entry-items ≤ c.loop-entry.entry-index = omega (arith, c.loop-entry.invariant.0, c.args.self.now.whole) in
    walked_all no_record (λ (a b : Record). WithoutJob a c.args.job.number b) _ _ _ done (without_none c.args.job.number) c.loop-entry.invariant
