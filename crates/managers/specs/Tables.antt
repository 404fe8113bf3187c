-- What tables that keep no values hold, and what they mean together with the values in memory.
use Rattle.std.specs.Prelude.{◌≡◌, ℕ, ◌*◌, ◌≤◌, Bool, List, [], ◌∷◌, length, take, replicate, Some, None, Ok, Option}
use Rattle.std.specs.List.{slice_get}
use Rattle.jobs.specs.declared.set.JobSet.{JobSet}
use Rattle.jobs.specs.Jobs.{jobs_where}
use Rattle.rules.specs.declared.fault.ManagerFault.TheVariants.{ReadFrom, Ordered}
use Rattle.rules.specs.Manager.{Manager, Writes, fresh, last_writer}
use Rattle.rules.specs.Changes.{vote, leave_with}
use Rattle.rules.specs.Calls.{Answered, refuse_by, source_of, rival_of}
use Rattle.managers.specs.Memory.{place}

-- tables are a manager of no values: each value of theirs is the one of the unit type
abbrev pub Held : Type 0
Held = Manager (Unit {0})

-- how many parameters they are for
abbrev pub count_of : Held → ℕ
count_of m = length m.settled

-- nobody has accessed any of n parameters
abbrev pub unused : ℕ → Held
unused n = fresh (replicate n tt)

-- j left with the others, who are told
pub record Leaves (m : Held) (others : ℕ → Bool) (j : ℕ) (lost : JobSet) (now : Held) : Type 0 where
  pub told : lost ≡ jobs_where others
  pub after : now ≡ leave_with others j m

-- the vote for a job that is pending and has not voted
abbrev pub vote_if_free : Held → ℕ → Answered (Unit {0}) (Unit {0})
vote_if_free m j =
    refuse_by (source_of m j) ReadFrom m
    (refuse_by (rival_of m j) Ordered m
    (Ok tt, vote j m))

module _ {V : Type 0} where
  -- one pending write more, where there is a value for it
  abbrev pub with_write : ℕ → Option V → Writes V → Writes V
  with_write j None ws = ws
  with_write j (Some v) ws = (j, v) ∷ ws

  -- the pending writes of parameter p, of n, each with the value at its place
  abbrev pub writes_with : ℕ → ℕ → List V → Writes (Unit {0}) → Writes V
  writes_with n p values [] = []
  writes_with n p values (w ∷ ws) = with_write w.0 (slice_get values (place n p w.0)) (writes_with n p values ws)

  -- memory is large enough for the values
  abbrev pub HasRoom : Held → List V → Type 0
  HasRoom m values = 32 * count_of m ≤ length values

  -- what the tables and the values in memory mean
  abbrev pub with_values : Held → List V → Manager V
  with_values m values = record {
    settled = take (count_of m) values;
    writes = λ p. writes_with (count_of m) p values (m.writes p);
    readers = m.readers;
    precedes = m.precedes;
    reads_from = m.reads_from;
    voted = m.voted;
  }

-- the place of what a read of parameter p answers: that of the last pending write, or of the settled value where there is none
abbrev pub last_place : Held → ℕ → ℕ
last_place m p = elim (last_writer (m.writes p)) [ None ↦ p | Some k ↦ place (count_of m) p k ]
