-- What holds of the tables of every open manager.
use Rattle.std.specs.Prelude.{◌≡◌, ℕ, ◌<◌, Bool, true, false, if◌then◌else◌, ◌||◌, List, [], ◌∷◌, ◌++◌, map, is_some, Some, ◌==◌, refl}
use Rattle.std.proofs.Common.{sym, ap, ◌∙◌, subst}
use Rattle.std.proofs.lemmas.Bool.{eqb-true, false≢true}
use Rattle.std.proofs.lemmas.List.{reverse-append}
use Rattle.std.proofs.lemmas.List.Folds.{list_any-append}
use Rattle.jobs.specs.declared.job.Job.{Job}
use Rattle.rules.specs.Manager.{write_by, wrote}
use Rattle.open_manager.specs.declared.OpenTables.{OpenTables}
use Rattle.open_manager.specs.Lists.{last_first, among}
use Rattle.open_manager.specs.Open.{record_in, writers_in, writes_by, held_by}

-- the first of some jobs is the last one listed
pub last_first_cons : (j : Job) (js : List Job) → last_first (j ∷ js) ≡ last_first js ++ j.number ∷ []
last_first_cons j js = reverse-append (j.number ∷ []) (map (λ i. i.number) js)

-- only numbers of jobs are listed
pub low_listed : (jobs : List Job) (k : ℕ) → among (last_first jobs) k ≡ true → k < 16
low_listed [] k h = absurd (false≢true h)
low_listed (j ∷ js) k h =
    go (among (last_first js) k) refl (k == j.number) refl (low_listed js k)
    (sym (ap (λ (ns : List ℕ). among ns k) (last_first_cons j js) ∙ list_any-append (λ i. k == i) (last_first js) (j.number ∷ [])) ∙ h)
  where
    go : (a : Bool) → among (last_first js) k ≡ a → (b : Bool) → (k == j.number) ≡ b → (among (last_first js) k ≡ true → k < 16)
        → (a || (b || false)) ≡ true → k < 16
    go true f b e ih h = ih f
    go false f true e ih h = subst (λ (i : ℕ). i < 16) (sym (eqb-true k j.number e)) j.low
    go false f false e ih h = absurd (false≢true h)

-- those listed have a pending write
pub wrote_listed : (js : List ℕ) (k : ℕ) → wrote k (writes_by js) ≡ among js k
wrote_listed [] k = refl
wrote_listed (j ∷ js) k = go (k == j) (wrote_listed js k)
  where
    go : (b : Bool) → wrote k (writes_by js) ≡ among js k → is_some (if b then Some tt else write_by k (writes_by js)) ≡ (b || among js k)
    go true ih = refl
    go false ih = ih

-- only jobs write
pub jobs_write : (t : OpenTables) (p k : ℕ) → wrote k ((held_by t).writes p) ≡ true → k < 16
jobs_write t p k h =
    low_listed (record_in t p).writers.jobs.items k (sym (wrote_listed (writers_in t p) k) ∙ h)
