use Rattle.std.proofs.Common.{rules, arith}
use Rattle.open_manager.specs.Records.{no_record}
use Rattle.open_manager.proofs.Entries.{unused_all}
use Rattle.open_manager.proofs.records.Records.new.Goals as goal

pub returns : goal.returns
returns c = unused_all _ (λ p l. let called = (c.from_fn.ensures.items.at p no_record (omega (arith, c.from_fn.ensures.items.long))).2 in search rules)
