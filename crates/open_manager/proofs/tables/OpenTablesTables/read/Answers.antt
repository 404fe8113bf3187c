use Rattle.std.proofs.Common.{rules, arith}
use Rattle.std.proofs.lemmas.Bool.Decides.{nat_tests}
use Rattle.open_manager.proofs.Holding.{holder_pending}
use Rattle.open_manager.proofs.OpenCalls.{late, read_obeys}
use Rattle.open_manager.proofs.tables.OpenTablesTables.read.Goals as goal

pub add_access-requires-clause-pending : goal.add_access-requires-clause-pending
add_access-requires-clause-pending c k h =
    let found = c.in_ok-record.ensures in
    let is = c.conflicts-writing.ensures k in
    holder_pending c.args.self.now _ _ k found.1 found.0 (grind (arith, nat_tests))

pub returns-in_err-add_access-clause-follows_the_rules : goal.returns-in_err-add_access-clause-follows_the_rules
returns-in_err-add_access-clause-follows_the_rules c =
    let low = c.args.job.low in
    let found = c.in_ok-record.ensures in
    let why = c.in_err-add_access.ensures in
    search (rules, late)

pub returns-clause-follows_the_rules : goal.returns-clause-follows_the_rules
returns-clause-follows_the_rules c =
    let found = c.in_ok-record.ensures in
    let access = c.in_ok-add_access.ensures in
    search (rules, read_obeys)
