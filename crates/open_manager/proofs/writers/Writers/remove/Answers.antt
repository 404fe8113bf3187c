use Rattle.std.proofs.Common.{rules, not, eqb}
use Rattle.arrayvec.proofs.ArrayVecLemmas.{filter-from_retain}
use Rattle.jobs.specs.declared.job.Job.{Job}
use Rattle.open_manager.proofs.Lists.{listed_kept, once_kept}
use Rattle.open_manager.proofs.writers.Writers.remove.Goals as goal

pub invariant_of-self : goal.invariant_of-self
invariant_of-self c =
    let kept = filter-from_retain _ (λ (w : Job). not (eqb w.number c.args.job.number)) _ (λ x b f' y called. search rules) _ _ c.retain.ensures.filtered in
    record { once = once_kept c.args.job.number _ _ kept c.args.self.now.once }

pub returns : goal.returns
returns c =
    let kept = filter-from_retain _ (λ (w : Job). not (eqb w.number c.args.job.number)) _ (λ x b f' y called. search rules) _ _ c.retain.ensures.filtered in
    listed_kept c.args.job.number _ _ kept
