use Rattle.std.specs.Fmt.{IsPlainFormatter}
use Rattle.telling.proofs.LostSoFar.{LostSoFar}
use Rattle.telling.proofs.answers.LostDisplay.fmt.Given as goal

abbrev pub invariant-loop-job : goal.invariant-loop-job
invariant-loop-job g l =
    IsPlainFormatter l.fn.f → LostSoFar g.W.Write.write_str_gives l.fn.self.0 l.fn.f l.job-iterator.left l.f
