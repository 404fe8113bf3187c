use Rattle.std.proofs.Common.{rules}
use Rattle.open_manager.proofs.Writes.{last_past}
use Rattle.open_manager.proofs.tables.OpenTablesTables.last_writer.Goals as goal

pub returns-in_err-get : goal.returns-in_err-get
returns-in_err-get c = search (rules, last_past)
