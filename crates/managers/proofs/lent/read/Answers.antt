use Rattle.std.proofs.Common.{ℕ, ◌<◌, length, Ok, Err, sym, ap, ◌∙◌, subst, arith}
use Rattle.std.specs.List.{slice_get}
use Rattle.rules.specs.Calls.{Obeys, read_of}
use Rattle.rules.proofs.Values.{value_read}
use Rattle.managers.proofs.Faults.{exits}
use Rattle.managers.proofs.Obeyed.{read_fails, last_inside, read_passes}
use Rattle.managers.proofs.lent.read.Given.{Over}
use Rattle.managers.proofs.lent.read.Goals as goal

pub returns-in_err-read-clause-follows_the_rules : goal.returns-in_err-read-clause-follows_the_rules
returns-in_err-read-clause-follows_the_rules g c =
    let m = g.T.Tables.meaning c.args.tables.now in
    let low = g.met.T.Tables.jobs_write c.args.tables.now in
    let failed = subst (λ (j : ℕ). Obeys (read_of (g.T.Tables.admits c.args.tables.now) m j c.args.parameter) (Err c.in_err-read.field-0.0) (g.T.Tables.meaning c.read.new.self))
    c.in_ok-job.ensures c.in_err-read.ensures.follows_the_rules in
    rw c.in_err-read.ensures.refusal_changes_nothing
    (exits _ _ c.from_residual-in_err-read.ensures.1
    (read_fails m c.args.values.now c.requires low (g.T.Tables.admits c.args.tables.now) c.args.job c.args.parameter _ _ failed))

inside : (g : Over) (c : goal.After-last_place g) → c.last_place.result < length c.args.values.now
inside g c =
    let m = g.T.Tables.meaning c.args.tables.now in
    let low = g.met.T.Tables.jobs_write c.args.tables.now in
    rw c.last_place.ensures
    (last_inside m c.args.values.now c.requires low (g.T.Tables.admits c.args.tables.now) c.in_ok-job.job.number c.args.parameter _ c.in_ok-read.ensures.follows_the_rules)

pub offset_bounds-values-last_place : goal.offset_bounds-values-last_place
offset_bounds-values-last_place g c = let x = inside g c in omega arith

pub bounds-values-last_place : goal.bounds-values-last_place
bounds-values-last_place g c = inside g c

pub returns-clause-follows_the_rules : goal.returns-clause-follows_the_rules
returns-clause-follows_the_rules g c =
    let m = g.T.Tables.meaning c.args.tables.now in
    let low = g.met.T.Tables.jobs_write c.args.tables.now in
    let passed = subst (λ (j : ℕ). Obeys (read_of (g.T.Tables.admits c.args.tables.now) m j c.args.parameter) (Ok tt) (g.T.Tables.meaning c.read.new.self))
    c.in_ok-job.ensures c.in_ok-read.ensures.follows_the_rules in
    let bound = last_inside m c.args.values.now c.requires low (g.T.Tables.admits c.args.tables.now) c.args.job c.args.parameter _ passed in
    let value = ap (λ (i : ℕ). slice_get c.args.values.now i) (sym c.last_place.ensures)
    ∙ value_read c.args.values.now c.last_place.result c.index-values-last_place.result (rw c.last_place.ensures bound) c.index-values-last_place.is in
    read_passes m c.args.values.now c.requires low (g.T.Tables.admits c.args.tables.now) c.args.job c.args.parameter _ _ passed value
