use Rattle.telling.proofs.Idle.{told_refused}
use Rattle.telling.proofs.scenes.refusals.Goals as goal

pub returns-clause-told : goal.returns-clause-told
returns-clause-told g c idle =
    told_refused (g.M.ResourceManager.meaning c.args.teller.now.drive) idle c.vote.result g.V.Display.output
    (g.M.ResourceManager.admits c.read.new.self.drive) c.args.wanted
    (g.M.ResourceManager.meaning c.read.new.self.drive) (g.M.ResourceManager.meaning c.write.new.self.drive) _ _ _ _
    c.read.ensures.follows_the_rules c.write.ensures.follows_the_rules c.in_ok-read.ensures.told c.in_ok-write.ensures.told c.vote.ensures.told
