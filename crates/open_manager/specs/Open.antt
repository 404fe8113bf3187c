-- What the tables of an open manager hold, and what they mean together with the values in memory.
use Rattle.std.specs.Prelude.{◌≡◌, ℕ, Bool, true, not, ◌&&◌, List, [], ◌∷◌, replicate, None}
use Rattle.jobs.specs.Jobs.{member}
use Rattle.rules.specs.declared.access.Access.{Access}
use Rattle.rules.specs.Manager.{Manager, Writes}
use Rattle.rules.specs.Calls.{Admits, stops}
use Rattle.managers.specs.Tables.{Held, with_values}
use Rattle.open_manager.specs.declared.OpenTables.{OpenTables}
use Rattle.open_manager.specs.declared.records.Record.{Record}
use Rattle.open_manager.specs.Lists.{leaving}
use Rattle.open_manager.specs.Writers.{listed}
use Rattle.open_manager.specs.Records.{record_at}
use Rattle.open_manager.specs.Order.{precedes, reads_from, is_pending, has_voted}

-- the record of parameter p
abbrev pub record_in : OpenTables → ℕ → Record
record_in t p = record_at t.records.entries p

-- is k a pending reader of parameter p
abbrev pub reads_in : OpenTables → ℕ → ℕ → Bool
reads_in t p k = member (record_in t p).readers k

-- the jobs with a pending write of parameter p, the last one first
abbrev pub writers_in : OpenTables → ℕ → List ℕ
writers_in t p = listed (record_in t p).writers

-- every conflicting access is admitted
abbrev pub admits_all : Admits
admits_all j p a = true

-- so nothing is ever stopped
abbrev pub AdmitsEveryConflict : Type 0 → Type 0
AdmitsEveryConflict V = (m : Manager V) (j p : ℕ) (a : Access) → stops admits_all m j p a ≡ None

-- the pending writes of the jobs listed
abbrev pub writes_by : List ℕ → Writes (Unit {0})
writes_by [] = []
writes_by (j ∷ js) = (j, tt) ∷ writes_by js

-- what the tables hold
abbrev pub held_by : OpenTables → Held
held_by t = record {
  settled = replicate t.count.number tt;
  writes = λ p. writes_by (writers_in t p);
  readers = reads_in t;
  precedes = precedes t.order;
  reads_from = reads_from t.order;
  voted = has_voted t.order;
}

-- what the tables and the values in memory mean
abbrev pub meaning_of : {V : Type 0} → OpenTables → List V → Manager V
meaning_of t values = with_values (held_by t) values

-- the jobs of `gone` left every record, both relations and both sets, and nothing else changed
pub record Left (t : OpenTables) (gone : ℕ → Bool) (u : OpenTables) : Type 0 where
  pub count : u.count ≡ t.count
  pub readers : (p k : ℕ) → reads_in u p k ≡ (reads_in t p k && not (gone k))
  pub writers : (p : ℕ) → writers_in u p ≡ leaving gone (writers_in t p)
  pub precedes : (i k : ℕ) → precedes u.order i k ≡ (precedes t.order i k && (not (gone i) && not (gone k)))
  pub reads_from : (k i : ℕ) → reads_from u.order k i ≡ (reads_from t.order k i && (not (gone k) && not (gone i)))
  pub pending : (k : ℕ) → is_pending u.order k ≡ (is_pending t.order k && not (gone k))
  pub voted : (k : ℕ) → has_voted u.order k ≡ (has_voted t.order k && not (gone k))
