use Rattle.std.proofs.Common.{rules}
use Rattle.open_manager.proofs.OpenCalls.{roll_back_leaves}
use Rattle.open_manager.proofs.tables.OpenTablesTables.roll_back.Goals as goal

pub returns : goal.returns
returns c = search (rules, roll_back_leaves)
