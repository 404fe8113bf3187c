use Rattle.std.proofs.Common.{rules, tests, ◌∙◌}
use Rattle.std.proofs.lemmas.Iterator.{YieldsList-from_slice}
use Rattle.std.proofs.lemmas.Iterator.Search.{any_from_yields_List}
use Rattle.managers.specs.declared.locking.Lock.{Lock}
use Rattle.managers.specs.Locking.{holds}
use Rattle.managers.proofs.LockTables.{pending_is}
use Rattle.managers.proofs.locking.tables.LocksTables.is_pending.Goals as goal

pub returns : goal.returns
returns c =
    any_from_yields_List (λ (l : Lock). holds l c.args.job.number) _ _ _ c.any.ensures.ran
    (YieldsList-from_slice _ c.iter.ensures.rest) (λ x b q k. search (rules, tests))
    ∙ pending_is c.args.self.now _ _ (c.from.ensures ∙ c.number.ensures)
