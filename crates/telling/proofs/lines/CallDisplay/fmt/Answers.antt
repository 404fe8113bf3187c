use Rattle.telling.proofs.lines.CallDisplay.fmt.Goals as goal

pub returns-in-Write-clause-writes : goal.returns-in-Write-clause-writes
returns-in-Write-clause-writes g c = rw c.in-Write.is c.write-in-Write.ensures.writes
