use Rattle.std.proofs.Common.{rules, ◌≡◌, ℕ, ◌<◌, length, Ok, Err, ap, ◌∙◌, subst}
use Rattle.rules.specs.Calls.{Obeys, write_of}
use Rattle.managers.specs.Memory.{place}
use Rattle.managers.proofs.Faults.{exits}
use Rattle.managers.proofs.Obeyed.{write_fails, write_inside, write_passes}
use Rattle.managers.proofs.lent.write.Given.{Over}
use Rattle.managers.proofs.lent.write.Goals as goal

pub returns-in_err-write-clause-follows_the_rules : goal.returns-in_err-write-clause-follows_the_rules
returns-in_err-write-clause-follows_the_rules g c =
    let m = g.T.Tables.meaning c.args.tables.now in
    let low = g.met.T.Tables.jobs_write c.args.tables.now in
    let failed = subst (λ (j : ℕ). Obeys (write_of (g.T.Tables.admits c.args.tables.now) m j c.args.parameter tt) (Err c.in_err-write.field-0.0) (g.T.Tables.meaning c.write.new.self))
    c.in_ok-job.ensures c.in_err-write.ensures.follows_the_rules in
    rw c.in_err-write.ensures.refusal_changes_nothing
    (exits _ _ c.from_residual-in_err-write.ensures.1
    (write_fails m c.args.values.now c.requires low (g.T.Tables.admits c.args.tables.now) c.args.job c.args.parameter _ c.args.value _ failed))

-- where the value goes, and that it lies in memory
at : (g : Over) (c : goal.After-place_of g)
    → (c.place_of.result ≡ place (length (g.T.Tables.meaning c.args.tables.now).settled) c.args.parameter c.in_ok-job.job.number) × (c.place_of.result < length c.args.values.now)
at g c =
    let m = g.T.Tables.meaning c.args.tables.now in
    let low = g.met.T.Tables.jobs_write c.args.tables.now in
    let i = write_inside m c.args.values.now c.requires low (g.T.Tables.admits c.args.tables.now) c.in_ok-job.job.number c.args.parameter _ c.in_ok-write.ensures.follows_the_rules in
    let e = c.place_of.ensures ∙ ap (λ (n : ℕ). place n c.args.parameter c.in_ok-job.job.number) (c.parameters.ensures ∙ i.0) in
    (e, rw e i.1)

pub offset_bounds-values-place_of : goal.offset_bounds-values-place_of
offset_bounds-values-place_of g c = let x = (at g c).1 in search rules

pub bounds-values-place_of : goal.bounds-values-place_of
bounds-values-place_of g c = (at g c).1

pub returns-clause-follows_the_rules : goal.returns-clause-follows_the_rules
returns-clause-follows_the_rules g c =
    let m = g.T.Tables.meaning c.args.tables.now in
    let low = g.met.T.Tables.jobs_write c.args.tables.now in
    let passed = subst (λ (j : ℕ). Obeys (write_of (g.T.Tables.admits c.args.tables.now) m j c.args.parameter tt) (Ok tt) (g.T.Tables.meaning c.write.new.self))
    c.in_ok-job.ensures c.in_ok-write.ensures.follows_the_rules in
    let here = (at g c).0 ∙ ap (λ (j : ℕ). place (length m.settled) c.args.parameter j) c.in_ok-job.ensures in
    write_passes m c.args.values.now c.requires low (g.T.Tables.admits c.args.tables.now) c.args.job c.args.parameter _ c.args.value _ here passed
