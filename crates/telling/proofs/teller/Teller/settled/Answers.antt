use Rattle.std.proofs.Common.{rules, refl}
use Rattle.telling.proofs.SettledLines.{lines_none, lines_more}
use Rattle.telling.proofs.teller.Teller.settled.Goals as goal

pub loop-parameter-init : goal.loop-parameter-init
loop-parameter-init g c = (refl, lines_none g.V.Display.output (g.M.ResourceManager.meaning c.args.self.now.drive) _)

pub loop-parameter-preserved : goal.loop-parameter-preserved
loop-parameter-preserved g c = (
  c.loop-parameter.invariant.0,
  lines_more g.V.Display.output (g.M.ResourceManager.meaning c.args.self.now.drive) c.loop-parameter.parameter _ _ _
      c.loop-parameter.invariant.1 (search rules),
)
