use Rattle.std.proofs.Common.{rules}
use Rattle.telling.proofs.Written.{only_text}
use Rattle.telling.proofs.lines.short_line.Goals as goal

pub returns : goal.returns
returns g c = search (rules, only_text)
