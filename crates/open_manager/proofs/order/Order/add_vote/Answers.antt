use Rattle.std.proofs.Common.{sym, arith}
use Rattle.std.proofs.lemmas.Bool.Decides.{nat_tests}
use Rattle.open_manager.proofs.Orders.{no_source, no_rival}
use Rattle.open_manager.proofs.order.Order.add_vote.Goals as goal

pub invariant_of-self-clause-reading : goal.invariant_of-self-clause-reading
invariant_of-self-clause-reading c = λ j k.
    let x = c.insert-self.ensures.members j in
    let y = c.args.self.now.reading j k in
    let z = no_source c.args.self.now c.args.job.number (sym c.in_default.ensures) k in
    grind (arith, nat_tests)

pub invariant_of-self-clause-unordered : goal.invariant_of-self-clause-unordered
invariant_of-self-clause-unordered c = λ i k.
    let x = c.insert-self.ensures.members i in
    let y = c.insert-self.ensures.members k in
    let z = c.args.self.now.unordered i k in
    let rival = no_rival c.args.self.now c.args.job.number (sym c.in_default-rival.ensures) in
    let u = rival i in
    let v = rival k in
    let w = c.args.self.now.itself i in
    grind (arith, nat_tests)
