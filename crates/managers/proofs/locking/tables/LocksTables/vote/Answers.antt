use Rattle.std.proofs.Common.{rules}
use Rattle.managers.proofs.LockCalls.{vote_obeys}
use Rattle.managers.proofs.locking.tables.LocksTables.vote.Goals as goal

pub returns-clause-follows_the_rules : goal.returns-clause-follows_the_rules
returns-clause-follows_the_rules c = vote_obeys c.args.self.now _ _ (λ k. search rules)
