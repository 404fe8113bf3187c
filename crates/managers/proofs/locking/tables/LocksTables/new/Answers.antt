use Rattle.std.proofs.Common.{rules}
use Rattle.managers.proofs.LockChanges.{unused_means}
use Rattle.managers.proofs.locking.tables.LocksTables.new.Goals as goal

pub returns : goal.returns
returns c = search (rules, unused_means)
