use Rattle.std.proofs.Common.{List, eqb, ap, ◌∙◌}
use Rattle.std.specs.List.{list_any}
use Rattle.jobs.specs.declared.job.Job.{Job}
use Rattle.open_manager.proofs.Lists.{contains_listed}
use Rattle.open_manager.proofs.writers.Writers.contains.Goals as goal

pub returns : goal.returns
returns c =
    c.contains.ensures.value ∙ ap (λ (xs : List Job). list_any (λ j. eqb j.number c.args.job.number) xs) c.deref.ensures.0
    ∙ contains_listed c.args.job.number c.args.self.now.jobs.items
