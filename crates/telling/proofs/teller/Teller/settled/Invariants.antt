use Rattle.std.proofs.Common.{◌≡◌, IfSome}
use Rattle.std.specs.Io.KnownBytes.{Appends}
use Rattle.telling.specs.Lines.{settled_lines}
use Rattle.telling.proofs.teller.Teller.settled.Given as goal

abbrev pub invariant-loop-parameter : goal.invariant-loop-parameter
invariant-loop-parameter g l =
    (l.self.drive ≡ l.initial.self.drive)
    × IfSome (settled_lines g.V.Display.output (g.M.ResourceManager.meaning l.initial.self.drive) l.parameter)
    (Appends (g.W.Write.contents l.initial.self.out) (g.W.Write.contents l.self.out))
