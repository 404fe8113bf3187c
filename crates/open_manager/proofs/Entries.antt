-- Facts about the records of the parameters.
use Rattle.std.proofs.Common.{ℕ, ◌<◌, ◌≤◌, ◌⊎◌, List, length, sym, refl, subst, inl, inr, arith}
use Rattle.std.proofs.lemmas.List.{get_or_past}
use Rattle.std.proofs.lemmas.Bool.{cases_lt}
use Rattle.std.proofs.lemmas.Bool.Decides.{nat_tests}
use Rattle.jobs.proofs.Jobs.{member_none}
use Rattle.open_manager.specs.declared.records.Record.{Record}
use Rattle.open_manager.specs.Records.{no_record, record_at, Unused, WithoutJob}

-- whoever leaves a record that nobody has accessed leaves it as it is
pub without_none : (j : ℕ) → WithoutJob no_record j no_record
without_none j = record { readers = λ k. let x = member_none k in grind (arith, nat_tests); writers = refl }

-- what holds of each record of the table holds past it too
pub unused_all : (entries : List Record) → ((p : ℕ) → p < length entries → Unused (record_at entries p)) → (p : ℕ) → Unused (record_at entries p)
unused_all entries each p = go (cases_lt p (length entries))
  where
    go : (p < length entries) ⊎ (length entries ≤ p) → Unused (record_at entries p)
    go (inl l) = each p l
    go (inr l) = subst Unused (sym (get_or_past entries p no_record l)) (record { readers = refl; writers = refl })
