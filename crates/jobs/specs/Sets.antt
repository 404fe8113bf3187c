-- Sets of numbers: as a test, which says of each number whether it is a member, and as the bits of a number.
use Rattle.std.specs.Prelude.{ℕ, zero, suc, ◌+◌, ◌/◌, ◌%◌, ◌^◌, Bool, true, false, if◌then◌else◌, Some, None, Option, ◌==◌}

-- the k-th bit of s, 0 or 1
abbrev pub bit : ℕ → ℕ → ℕ
bit s k = s / 2 ^ k % 2

-- is k a member of the set that the bits of s make up
abbrev pub has : ℕ → ℕ → Bool
has s k = bit s k == 1

-- the bits of those below n that pass the test
unfoldable pub bits_where : (ℕ → Bool) → ℕ → ℕ
bits_where f zero = 0
bits_where f (suc n) = bits_where f n + (if f n then 2 ^ n else 0)

-- the lowest number below n that passes the test
unfoldable pub lowest : (ℕ → Bool) → ℕ → Option ℕ
lowest f zero = None
lowest f (suc n) = elim (lowest f n) [ Some k ↦ Some k | None ↦ if f n then Some n else None ]

-- how many below n pass the test
unfoldable pub how_many : (ℕ → Bool) → ℕ → ℕ
how_many f zero = 0
how_many f (suc n) = how_many f n + (if f n then 1 else 0)

-- does any number below n pass the test
unfoldable pub any_below : (ℕ → Bool) → ℕ → Bool
any_below f zero = false
any_below f (suc n) = if f n then true else any_below f n

-- is k the number that is there
abbrev pub names : Option ℕ → ℕ → Bool
names None k = false
names (Some n) k = k == n
