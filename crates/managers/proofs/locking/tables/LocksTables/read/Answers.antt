use Rattle.std.proofs.Common.{rules}
use Rattle.managers.proofs.LockCalls.{read_refused, read_obeys}
use Rattle.managers.proofs.locking.tables.LocksTables.read.Goals as goal

pub returns-in_err-admit-clause-follows_the_rules : goal.returns-in_err-admit-clause-follows_the_rules
returns-in_err-admit-clause-follows_the_rules c =
    read_refused c.args.self.now c.args.job.number c.args.parameter _ _ c.from_residual.ensures.1 c.in_err-admit.ensures

pub returns-clause-follows_the_rules : goal.returns-clause-follows_the_rules
returns-clause-follows_the_rules c = search (rules, read_obeys)
