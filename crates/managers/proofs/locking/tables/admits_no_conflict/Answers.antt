use Rattle.std.proofs.Common.{◌≡◌, ℕ, Some, None, Option, refl}
use Rattle.rules.specs.Manager.{conflict_of}
use Rattle.managers.proofs.locking.tables.admits_no_conflict.Goals as goal

pub returns : goal.returns
returns g c m j p a = go (conflict_of m j p a)
  where
    go : (o : Option ℕ) → ◌≡◌ {A = Option ℕ} (elim o [ None ↦ None | Some k ↦ Some k ]) None → o ≡ None
    go None h = refl
    go (Some k) h = h
