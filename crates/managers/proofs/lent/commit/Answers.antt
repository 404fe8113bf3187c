use Rattle.std.proofs.Common.{◌≡◌, ℕ, true, false, length, sym, ap, ◌∙◌, subst}
use Rattle.rules.specs.Manager.{wrote}
use Rattle.rules.specs.Changes.{lost_to_commit}
use Rattle.managers.specs.Memory.{Settles}
use Rattle.managers.specs.Tables.{Leaves}
use Rattle.managers.proofs.Faults.{exits}
use Rattle.managers.proofs.Obeyed.{pending_fails, commit_fails, commit_passes}
use Rattle.managers.proofs.lent.commit.Goals as goal

pub returns-in_err-job-clause-follows_the_rules : goal.returns-in_err-job-clause-follows_the_rules
returns-in_err-job-clause-follows_the_rules g c =
    exits _ _ c.from_residual.ensures.1
    (pending_fails (g.T.Tables.meaning c.args.tables.now) c.args.values.now c.requires (g.met.T.Tables.jobs_write c.args.tables.now) c.args.job _ _ c.in_err-job.ensures)

pub returns-then-not-has_voted-clause-follows_the_rules : goal.returns-then-not-has_voted-clause-follows_the_rules
returns-then-not-has_voted-clause-follows_the_rules g c =
    let m = g.T.Tables.meaning c.args.tables.now in
    let ok = c.in_ok-job.ensures in
    let unvoted : m.voted c.args.job ≡ false = ap m.voted (sym ok.0) ∙ sym c.has_voted.ensures ∙ c.if-not-has_voted.true in
    commit_fails m c.args.values.now c.requires (g.met.T.Tables.jobs_write c.args.tables.now) c.args.job ok.1 unvoted

pub returns-clause-follows_the_rules : goal.returns-clause-follows_the_rules
returns-clause-follows_the_rules g c =
    let m = g.T.Tables.meaning c.args.tables.now in
    let ok = c.in_ok-job.ensures in
    let low = g.met.T.Tables.jobs_write c.args.tables.now in
    let voted : m.voted c.args.job ≡ true = ap m.voted (sym ok.0) ∙ sym c.has_voted.ensures ∙ c.if-not-has_voted.false in
    commit_passes m c.args.values.now c.requires low c.args.job c.commit.result _ c.settle.new.values ok.1 voted
    (subst (λ (j : ℕ). Settles (λ p. wrote j (m.writes p)) (length m.settled) j c.args.values.now c.settle.new.values) ok.0 c.settle.ensures)
    (subst (λ (j : ℕ). Leaves m (lost_to_commit m j) j c.commit.result (g.T.Tables.meaning c.commit.new.self)) ok.0
    c.commit.ensures.follows_the_rules)
