-- Facts about rows of sets of jobs.
use Rattle.std.proofs.Common.{◌≡◌, ℕ, ◌<◌, ◌≤◌, Bool, true, false, if◌then◌else◌, not, ◌&&◌, ◌||◌, eqb, ltb, List, length, set, ◌^◌, sym, ap, subst, ◌∙◌, arith, length-set}
use Rattle.std.proofs.lemmas.List.{get_or_past, get_or-set_same, get_or-set_other}
use Rattle.std.proofs.lemmas.Bool.Decides.{nat_tests}
use Rattle.jobs.specs.declared.set.JobSet.{JobSet}
use Rattle.jobs.specs.Jobs.{member, no_jobs, jobs_where}
use Rattle.jobs.specs.Rows.{row_at}
use Rattle.jobs.proofs.Jobs.{member_test, member_none, member_past, nobody_is, set_fits}

-- a row with one job more
abbrev pub more : JobSet → ℕ → JobSet
more s to = jobs_where (λ k. member s k || eqb k to)

-- a row with one job less
abbrev pub less : JobSet → ℕ → JobSet
less s j = jobs_where (λ k. member s k && not (eqb k j))

-- the row b is a without the job
abbrev pub Loses : ℕ → JobSet → JobSet → Type 0
Loses j a b = b ≡ less a j

pub nobody_loses : (j : ℕ) → Loses j no_jobs no_jobs
nobody_loses j = nobody_is _ (λ k. let x = member_none k in grind (arith, nat_tests))

-- the members of a row to which a job may have been added
pub more_pairs : (s : JobSet) (b : Bool) (to k : ℕ) → to < 16 → member (if b then more s to else s) k ≡ (member s k || (b && eqb k to))
more_pairs s b to k l =
    let x = member_test (λ k. member s k || eqb k to) k in let y = member_past s k in grind (arith, nat_tests)

-- the members of a row from which a job was taken, or which was emptied
pub less_pairs : (s : JobSet) (b : Bool) (j k : ℕ) → member (if b then no_jobs else less s j) k ≡ (member s k && (not b && not (eqb k j)))
less_pairs s b j k =
    let x = member_none k in
    let y = member_test (λ k. member s k && not (eqb k j)) k in
    let z = member_past s k in
    grind (arith, nat_tests)

-- while one job is added to the rows of those of `from`: those that are no more `left` have it, and all else is as it was
pub record Adding (before : List JobSet) (from : JobSet) (to : ℕ) (rows : List JobSet) (left : JobSet) : Type 0 where
  pub long : length rows ≡ length before
  pub within : (i : ℕ) → member left i ≡ true → member from i ≡ true
  pub added : (i : ℕ) → row_at rows i ≡ (if member from i && not (member left i) then more (row_at before i) to else row_at before i)

module _ (before : List JobSet) (from : JobSet) (to : ℕ) where
  pub adding_more : (rows : List JobSet) (left rest s : JobSet) (n j : ℕ) → n ≡ j → n < length rows → member left j ≡ true
      → ((k : ℕ) → member rest k ≡ (member left k && not (eqb k j))) → s ≡ more (row_at rows n) to
      → Adding before from to rows left → Adding before from to (set rows n s) rest
  adding_more rows left rest s n j at l here gone e a = record {
    long = length-set rows n s ∙ a.long;
    within = λ i m. let x = gone i in let y = a.within i in grind (arith, nat_tests);
    added = λ i.
        let x = gone i in
        let y = a.within j here in
        let was = a.added i in
        let new : i ≡ n → row_at rows i ≡ row_at before i → s ≡ more (row_at before i) to =
        λ q same. rw (← q) at e ∙ ap (λ (t : JobSet). more t to) same in
        grind (arith, nat_tests, get_or-set_same rows n s no_jobs l, get_or-set_other rows n i s no_jobs);
  }

  pub adding_all : (rows : List JobSet) (left : JobSet) → ((k : ℕ) → member left k ≡ false) → Adding before from to rows left
      → (i : ℕ) → row_at rows i ≡ (if member from i then more (row_at before i) to else row_at before i)
  adding_all rows left none a i = let x = none i in let y = a.added i in grind (arith, nat_tests)

-- each row without the job, and then its own row emptied
pub emptied : (before rows : List JobSet) (none : JobSet) (n j : ℕ) → n ≡ j → n < length rows → none ≡ no_jobs
    → ((i : ℕ) → Loses j (row_at before i) (row_at rows i))
    → (i : ℕ) → row_at (set rows n none) i ≡ (if eqb i j then no_jobs else less (row_at before i) j)
emptied before rows none n j at l e each i =
    let x = each i in grind (arith, nat_tests, get_or-set_same rows n none no_jobs l, get_or-set_other rows n i none no_jobs)

-- while the rows that have j are looked for: those found have it, and are no more left to be asked
pub record Finding (rows : List JobSet) (j : ℕ) (found left : JobSet) : Type 0 where
  pub fits : found.bits < 2 ^ 16
  pub asked : (i : ℕ) → member found i ≡ (member (row_at rows i) j && (ltb i 16 && not (member left i)))

module _ (rows : List JobSet) (j : ℕ) where
  -- the job i was asked, and b tells whether its row has j
  pub finding_more : (found more left rest : JobSet) (n i : ℕ) (b : Bool) → n ≡ i → b ≡ member (row_at rows n) j → member left i ≡ true
      → ((k : ℕ) → member rest k ≡ (member left k && not (eqb k i)))
      → more ≡ (if b then jobs_where (λ k. member found k || eqb k i) else found)
      → Finding rows j found left → Finding rows j more rest
  finding_more found more left rest n i true at e here gone new f = record {
    fits = set_fits _ _ new;
    asked = λ k.
        let was = f.asked k in
        let y = gone k in
        let z = ap (λ (s : JobSet). member s k) new ∙ member_test (λ k. member found k || eqb k i) k in
        grind (arith, nat_tests);
  }
  finding_more found more left rest n i false at e here gone new f = record {
    fits = subst (λ (s : JobSet). s.bits < 2 ^ 16) (sym new) f.fits;
    asked = λ k.
        let was = f.asked k in let y = gone k in let z = ap (λ (s : JobSet). member s k) new in grind (arith, nat_tests);
  }

  pub finding_all : length rows ≡ 16 → (found left : JobSet) → ((i : ℕ) → member left i ≡ false) → Finding rows j found left
      → (i : ℕ) → member found i ≡ member (row_at rows i) j
  finding_all e found left none f i =
      let x = f.asked i in
      let y = none i in
      let past : 16 ≤ i → row_at rows i ≡ no_jobs = λ l. get_or_past rows i no_jobs (omega arith) in
      let z = member_none j in
      grind (arith, nat_tests)
