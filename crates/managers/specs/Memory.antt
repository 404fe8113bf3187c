-- Where the values of a manager's parameters stand in the memory handed over: first the settled values in the order of
-- the parameters, then for each parameter sixteen places for the pending writes of the sixteen jobs.
use Rattle.std.specs.Prelude.{◌≡◌, ℕ, ◌+◌, ◌*◌, Bool, if◌then◌else◌, not, ◌&&◌, List, length, Err, Result, nat_le, nat_lt}
use Rattle.std.specs.List.{slice_get}
use Rattle.rules.specs.declared.fault.ManagerFault.{ManagerFault}
use Rattle.rules.specs.declared.fault.ManagerFault.TheVariants.{NoRoom}
use Rattle.rules.specs.Manager.{Manager}
use Rattle.rules.specs.Calls.{Answered, refuse_if, settled_of}

-- the place of j's pending write of parameter p, where there are n parameters
abbrev pub place : ℕ → ℕ → ℕ → ℕ
place n p j = n + (16 * p + j)

-- do that many values suffice for n parameters: 32 for each
abbrev pub room_for : ℕ → ℕ → Bool
room_for n len = nat_le (32 * n) len

-- can a manager of n parameters be set up with that many values: it has 1 to 64 parameters, and 32 values for each
abbrev pub can_set_up : ℕ → ℕ → Bool
can_set_up n len = nat_le 1 n && nat_le n 64 && room_for n len

module _ {V : Type 0} where
  -- memory too small for n parameters is refused before all else, and nothing changes
  abbrev pub with_room_for : {A : Type 0} → ℕ → List V → Manager V → Answered A V → Answered A V
  with_room_for n values m x = refuse_if (not (room_for n (length values))) NoRoom m x

  -- the settled value of a parameter, refused likewise where the memory is too small
  abbrev pub settled_for : ℕ → List V → Manager V → ℕ → Result V ManagerFault
  settled_for n values m p = if room_for n (length values) then settled_of m p else Err NoRoom

-- the pending writes of j became settled values: of the n parameters, each that j wrote has the value at j's place
pub record Settles {V : Type 0} (wrote : ℕ → Bool) (n j : ℕ) (before after : List V) : Type 0 where
  pub len : length after ≡ length before
  pub values : (k : ℕ) → slice_get after k ≡ (if nat_lt k n && wrote k then slice_get before (place n k j) else slice_get before k)
