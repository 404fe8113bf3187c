use Rattle.std.proofs.Common.{◌≡◌, ℕ, true, false, sym, ap, ◌∙◌, subst}
use Rattle.rules.specs.Calls.{Obeys}
use Rattle.managers.specs.Tables.{vote_if_free}
use Rattle.managers.proofs.Faults.{exits}
use Rattle.managers.proofs.Obeyed.{pending_fails, vote_again, vote_passes}
use Rattle.managers.proofs.lent.vote.Goals as goal

pub returns-in_err-job-clause-follows_the_rules : goal.returns-in_err-job-clause-follows_the_rules
returns-in_err-job-clause-follows_the_rules g c =
    exits _ _ c.from_residual.ensures.1
    (pending_fails (g.T.Tables.meaning c.args.tables.now) c.args._values.now c.requires (g.met.T.Tables.jobs_write c.args.tables.now) c.args.job _ _ c.in_err-job.ensures)

pub returns-then-has_voted-clause-follows_the_rules : goal.returns-then-has_voted-clause-follows_the_rules
returns-then-has_voted-clause-follows_the_rules g c =
    let m = g.T.Tables.meaning c.args.tables.now in
    let ok = c.in_ok-job.ensures in
    let voted : m.voted c.args.job ≡ true = ap m.voted (sym ok.0) ∙ sym c.has_voted.ensures ∙ c.if-has_voted.true in
    vote_again m c.args._values.now c.requires (g.met.T.Tables.jobs_write c.args.tables.now) c.args.job ok.1 voted

pub returns-clause-follows_the_rules : goal.returns-clause-follows_the_rules
returns-clause-follows_the_rules g c =
    let m = g.T.Tables.meaning c.args.tables.now in
    let ok = c.in_ok-job.ensures in
    let unvoted : m.voted c.args.job ≡ false = ap m.voted (sym ok.0) ∙ sym c.has_voted.ensures ∙ c.if-has_voted.false in
    vote_passes m c.args._values.now c.requires (g.met.T.Tables.jobs_write c.args.tables.now) c.args.job c.vote.result _ ok.1 unvoted
    (subst (λ (j : ℕ). Obeys (vote_if_free m j) c.vote.result (g.T.Tables.meaning c.vote.new.self)) ok.0 c.vote.ensures.follows_the_rules)
