use Rattle.std.proofs.Common.{rules, ◌≡◌, ℕ, ◌≤◌, Bool, false, Bor, MatchOption, Some, None, Option, List, sym, ap, ◌∙◌}
use Rattle.open_manager.specs.declared.OpenTables.{OpenTables}
use Rattle.open_manager.specs.declared.records.Record.{Record}
use Rattle.open_manager.specs.Lists.{among}
use Rattle.open_manager.specs.Writers.{listed}
use Rattle.open_manager.specs.Laws.{wrote_listed}
use Rattle.open_manager.specs.Open.{record_in, writers_in}
use Rattle.open_manager.proofs.Writes.{none_past}
use Rattle.open_manager.proofs.tables.OpenTablesTables.is_writer.Goals as goal

-- the answer of the record, where there is one
of_record : (t : OpenTables) (p j : ℕ) (o : Option (Bor Record)) (b : Bool) (P : Bor Record → Type 0)
    → MatchOption o (64 ≤ p) (λ r. r.now ≡ record_in t p) → MatchOption o (b ≡ false) P
    → ((r : Bor Record) → P r → b ≡ among (listed r.now.writers) j) → b ≡ among (writers_in t p) j
of_record t p j None b P past h says = h ∙ sym (ap (λ (js : List ℕ). among js j) (none_past t p past))
of_record t p j (Some r) b P is h says = says r h ∙ ap (λ (x : Record). among (listed x.writers) j) is

pub returns : goal.returns
returns c =
    of_record c.args.self.now c.args.parameter c.args.job.number c.get.result c.is_some_and.result _ c.get.ensures c.is_some_and.ensures
    (λ r h. search rules)
    ∙ sym (wrote_listed (writers_in c.args.self.now c.args.parameter) c.args.job.number)
