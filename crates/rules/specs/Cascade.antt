-- Who goes along when jobs are rolled back: whoever read from one that goes, and in turn.
use Rattle.std.specs.Prelude.{◌≡◌, ℕ, zero, suc, ◌<◌, Bool, true, false}
use Rattle.jobs.specs.Sets.{any_below}

-- k goes, among the jobs below w: it is one of the first, or it read from one that goes
pub data Goes (w : ℕ) (first : ℕ → Bool) (reads_from : ℕ → ℕ → Bool) : ℕ → Type 0 where
  at_first : {k : ℕ} → k < w → first k ≡ true → Goes w first reads_from k
  in_turn : {k i : ℕ} → k < w → Goes w first reads_from i → reads_from k i ≡ true → Goes w first reads_from k

-- the first, and then n times those that read from one that was there before
unfoldable pub gone_after : ℕ → (ℕ → Bool) → (ℕ → ℕ → Bool) → ℕ → ℕ → Bool
gone_after w first reads_from zero k = first k
gone_after w first reads_from (suc n) k =
    elim (gone_after w first reads_from n k) [
      | true ↦ true
      | false ↦ any_below (λ i. elim (reads_from k i) [ true ↦ gone_after w first reads_from n i | false ↦ false ]) w
    ]

-- all that go: with w jobs there are no more than w rounds
abbrev pub goes : ℕ → (ℕ → Bool) → (ℕ → ℕ → Bool) → ℕ → Bool
goes w first reads_from k = gone_after w first reads_from w k
