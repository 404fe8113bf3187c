use Rattle.std.proofs.Common.{rules}
use Rattle.open_manager.proofs.OpenCalls.{commit_leaves}
use Rattle.open_manager.proofs.tables.OpenTablesTables.commit.Goals as goal

pub returns : goal.returns
returns c = search (rules, commit_leaves)
