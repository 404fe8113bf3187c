use Rattle.std.proofs.Common.{rules}
use Rattle.managers.proofs.LockCalls.{leaves_alone}
use Rattle.managers.proofs.locking.tables.LocksTables.commit.Goals as goal

pub returns : goal.returns
returns c = search (rules, leaves_alone)
