use Rattle.std.proofs.Common.{◌≡◌, ℕ, Some, None, Option, refl}
use Rattle.rules.specs.Manager.{conflict_of}
use Rattle.open_manager.proofs.tables.admits_every_conflict.Goals as goal

pub returns : goal.returns
returns g c m j p a = go (conflict_of m j p a)
  where
    go : (o : Option ℕ) → ◌≡◌ {A = Option ℕ} (elim o [ None ↦ None | Some k ↦ None ]) None
    go None = refl
    go (Some k) = refl
