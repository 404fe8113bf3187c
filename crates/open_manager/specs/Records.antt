-- What is pending at each parameter.
use Rattle.std.specs.Prelude.{◌≡◌, ℕ, Bool, not, ◌&&◌, ◌||◌, List, [], ◌∷◌, ◌==◌, ◌≢◌, nat_eq, slice_index_or, refl}
use Rattle.jobs.specs.Sets.{any_below}
use Rattle.jobs.specs.Jobs.{member, no_jobs}
use Rattle.rules.specs.declared.access.Access.{Access}
use Rattle.rules.specs.Manager.{conflicts_among}
use Rattle.open_manager.specs.declared.writers.Writers.{Writers}
use Rattle.open_manager.specs.declared.records.Record.{Record}
use Rattle.open_manager.specs.Lists.{among, leaving}
use Rattle.open_manager.specs.Writers.{listed}

-- nobody writes
abbrev pub no_writers : Writers
no_writers = record { jobs = record { items = [] }; once = refl }

-- nobody reads or writes
abbrev pub no_record : Record
no_record = record { readers = no_jobs; writers = no_writers }

-- the record of parameter p
abbrev pub record_at : List Record → ℕ → Record
record_at entries p = slice_index_or entries p no_record

-- has k a pending access to the parameter of that record
abbrev pub holds : Record → ℕ → Bool
holds e k = member e.readers k || among (listed e.writers) k

-- has k a pending access to one of the first n parameters
abbrev pub holds_any : List Record → ℕ → ℕ → Bool
holds_any entries n k = any_below (λ p. holds (record_at entries p) k) n

-- with which jobs such an access of j conflicts
abbrev pub rivals : Record → ℕ → Access → ℕ → Bool
rivals e j a k = conflicts_among (member e.readers) (among (listed e.writers)) j a k

-- nobody has accessed the parameter
pub record Unused (e : Record) : Type 0 where
  pub readers : e.readers ≡ no_jobs
  pub writers : listed e.writers ≡ []

-- j became a reader, and nothing else changed
pub record WithReader (e : Record) (j : ℕ) (r : Record) : Type 0 where
  pub readers : (k : ℕ) → member r.readers k ≡ (member e.readers k || k == j)
  pub writers : r.writers ≡ e.writers

-- the last write is j's, in place of its earlier one, and nothing else changed
pub record WithWriter (e : Record) (j : ℕ) (r : Record) : Type 0 where
  pub readers : r.readers ≡ e.readers
  pub writers : listed r.writers ≡ j ∷ leaving (λ k. nat_eq k j) (listed e.writers)

-- j neither reads nor writes any more, and nothing else changed
pub record WithoutJob (e : Record) (j : ℕ) (r : Record) : Type 0 where
  pub readers : (k : ℕ) → member r.readers k ≡ (member e.readers k && not (k == j))
  pub writers : listed r.writers ≡ leaving (λ k. nat_eq k j) (listed e.writers)

-- j became a reader of parameter p, and no other record changed
pub record ReaderNoted (before : List Record) (p j : ℕ) (after : List Record) : Type 0 where
  pub here : WithReader (record_at before p) j (record_at after p)
  pub others : (q : ℕ) → (q ≢ p) → record_at after q ≡ record_at before q

-- the last write of parameter p is j's, and no other record changed
pub record WriterNoted (before : List Record) (p j : ℕ) (after : List Record) : Type 0 where
  pub here : WithWriter (record_at before p) j (record_at after p)
  pub others : (q : ℕ) → (q ≢ p) → record_at after q ≡ record_at before q

-- j left each record
abbrev pub JobLeft : List Record → ℕ → List Record → Type 0
JobLeft before j after = (p : ℕ) → WithoutJob (record_at before p) j (record_at after p)
