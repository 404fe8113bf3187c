use Rattle.std.proofs.Common.{ℕ, subst}
use Rattle.managers.proofs.Faults.{exits}
use Rattle.managers.proofs.Obeyed.{pending_fails, roll_back_passes}
use Rattle.managers.specs.Tables.{Leaves}
use Rattle.rules.specs.Changes.{lost_to_roll_back}
use Rattle.managers.proofs.lent.roll_back.Goals as goal

pub returns-in_err-job-clause-follows_the_rules : goal.returns-in_err-job-clause-follows_the_rules
returns-in_err-job-clause-follows_the_rules g c =
    exits _ _ c.from_residual.ensures.1
    (pending_fails (g.T.Tables.meaning c.args.tables.now) c.args._values.now c.requires (g.met.T.Tables.jobs_write c.args.tables.now) c.args.job _ _ c.in_err-job.ensures)

pub returns-clause-follows_the_rules : goal.returns-clause-follows_the_rules
returns-clause-follows_the_rules g c =
    let m = g.T.Tables.meaning c.args.tables.now in
    let ok = c.in_ok-job.ensures in
    let low = g.met.T.Tables.jobs_write c.args.tables.now in
    roll_back_passes m c.args._values.now c.requires low c.args.job c.roll_back.result _ ok.1
    (subst (λ (j : ℕ). Leaves m (lost_to_roll_back m j) j c.roll_back.result (g.T.Tables.meaning c.roll_back.new.self)) ok.0
    c.roll_back.ensures.follows_the_rules)
