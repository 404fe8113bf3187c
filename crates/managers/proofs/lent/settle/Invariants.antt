use Rattle.std.proofs.Common.{length}
use Rattle.rules.specs.Manager.{wrote}
use Rattle.managers.proofs.Settling.{Settling}
use Rattle.managers.proofs.lent.settle.Given as goal

abbrev pub invariant-loop-p : goal.invariant-loop-p
invariant-loop-p g l =
    Settling (λ p. wrote l.job.number ((g.T.Tables.meaning l.tables).writes p)) (length (g.T.Tables.meaning l.tables).settled) l.job.number l.initial.values l.values l.p
