-- Which jobs go when some are rolled back.
use Rattle.std.specs.Prelude.{◌≡◌, ℕ, Bool, true}
use Rattle.rules.specs.Cascade.{Goes}

-- those of `gone` went when those of `first` were rolled back: of these all that are pending, with each that goes all that
-- read from it, and nobody else
pub record RolledBack (first : ℕ → Bool) (reads : ℕ → ℕ → Bool) (pending gone : ℕ → Bool) : Type 0 where
  pub all : (k : ℕ) → first k ≡ true → pending k ≡ true → gone k ≡ true
  pub closed : (k i : ℕ) → gone i ≡ true → reads k i ≡ true → gone k ≡ true
  pub only : (k : ℕ) → gone k ≡ true → Goes 16 first reads k
