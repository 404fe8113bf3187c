-- Facts about listed jobs.
use Rattle.std.proofs.Common.{◌≡◌, ℕ, suc, ◌-◌, ◌<◌, ◌≤◌, Bool, true, false, not, ◌&&◌, ◌||◌, eqb, ◌⊎◌, List, [], ◌∷◌, ◌++◌, length, map, reverse, filter, slice_get, sym, refl, ap, ◌∙◌, inl, inr, arith}
use Rattle.std.specs.List.{list_any}
use Rattle.std.proofs.lemmas.List.Elements.{filter-append}
use Rattle.std.proofs.lemmas.List.Folds.{list_any-append}
use Rattle.std.proofs.lemmas.List.{map-append, reverse-append, append-nil, length-reverse, length-map}
use Rattle.std.proofs.lemmas.Bool.{and_parts, cases_eq, eq-eqb, ne_eqb}
use Rattle.std.proofs.lemmas.Bool.Decides.{nat_tests}
use Rattle.jobs.specs.declared.job.Job.{Job}
use Rattle.jobs.specs.Sets.{how_many}
use Rattle.jobs.specs.Jobs.{number_in}
use Rattle.jobs.proofs.Sets.{how_many_less, how_many_all}
use Rattle.open_manager.specs.Lists.{last_first, among, distinct, leaving, last_listed}
use Rattle.open_manager.specs.Laws.{last_first_cons}

-- one more at the end
pub last_first_push : (jobs : List Job) (j : Job) → last_first (jobs ++ j ∷ []) ≡ j.number ∷ last_first jobs
last_first_push jobs j =
    ap reverse (map-append (λ (i : Job). i.number) jobs (j ∷ [])) ∙ reverse-append (map (λ (i : Job). i.number) jobs) (j.number ∷ [])

pub length_listed : (jobs : List Job) → length (last_first jobs) ≡ length jobs
length_listed jobs = length-reverse (map (λ j. j.number) jobs) ∙ length-map jobs (λ j. j.number)

pub among_leaving : (gone : ℕ → Bool) (js : List ℕ) (k : ℕ) → among (leaving gone js) k ≡ (among js k && not (gone k))
among_leaving gone [] k = grind (arith, nat_tests)
among_leaving gone (j ∷ js) k = let ih = among_leaving gone js k in grind (arith, nat_tests)

pub leaving_twice : (g h : ℕ → Bool) (js : List ℕ) → leaving h (leaving g js) ≡ leaving (λ k. g k || h k) js
leaving_twice g h [] = refl
leaving_twice g h (j ∷ js) = let ih = leaving_twice g h js in grind (arith, nat_tests)

-- as many jobs are listed as places are taken
counted : (js : List ℕ) → ((k : ℕ) → among js k ≡ true → k < 16) → distinct js ≡ true → length js ≤ how_many (among js) 16
counted [] low h = omega arith
counted (j ∷ js) low h =
    let p = and_parts (not (among js j)) (distinct js) h in
    let here : among (j ∷ js) j ≡ true = let t = eq-eqb j j refl in grind (arith, nat_tests) in
    let up : (k : ℕ) → among js k ≡ true → among (j ∷ js) k ≡ true = λ k m. grind (arith, nat_tests) in
    let out : among js j ≡ false = let x = p.0 in grind (arith, nat_tests) in
    let ih = counted js (λ k m. low k (up k m)) p.1 in
    let more = how_many_less (among js) (among (j ∷ js)) up j out here 16 (low j here) in
    omega arith

-- where one job is not listed, there is room for it
pub room_for_one : (js : List ℕ) (j : ℕ) → ((k : ℕ) → among js k ≡ true → k < 16) → distinct js ≡ true → j < 16 → among js j ≡ false
    → length js < 16
room_for_one js j low h l out =
    let c = counted (j ∷ js) (λ k m. at k (cases_eq k j) m) (grind (arith, nat_tests)) in
    let most = (how_many_all (among (j ∷ js)) 16).0 in
    omega arith
  where
    at : (k : ℕ) → (k ≡ j) ⊎ (k ≡ j → ⊥) → among (j ∷ js) k ≡ true → k < 16
    at k (inl e) m = omega arith
    at k (inr n) m = let f = ne_eqb k j n in low k (grind (arith, nat_tests))

-- where nobody leaves, all stay
pub leaving_none : (gone : ℕ → Bool) → ((k : ℕ) → gone k ≡ false) → (js : List ℕ) → leaving gone js ≡ js
leaving_none gone none [] = refl
leaving_none gone none (j ∷ js) = let x = none j in let ih = leaving_none gone none js in grind (arith, nat_tests)

-- those that stay
pub last_first_filter : (gone : ℕ → Bool) (jobs : List Job)
    → last_first (filter (λ j. not (gone j.number)) jobs) ≡ leaving gone (last_first jobs)
last_first_filter gone [] = refl
last_first_filter gone (j ∷ jobs) =
    let ih = last_first_filter gone jobs in
    let stays = last_first_cons j (filter (λ i. not (gone i.number)) jobs) in
    let all = ap (leaving gone) (last_first_cons j jobs) ∙ filter-append (λ k. not (gone k)) (last_first jobs) (j.number ∷ []) in
    let none = append-nil (leaving gone (last_first jobs)) in
    grind (arith, nat_tests)

-- still nobody is listed twice
pub distinct_leaving : (gone : ℕ → Bool) (js : List ℕ) → distinct js ≡ true → distinct (leaving gone js) ≡ true
distinct_leaving gone [] h = refl
distinct_leaving gone (j ∷ js) h =
    let p = and_parts (not (among js j)) (distinct js) h in
    let x = p.0 in
    let ih = distinct_leaving gone js p.1 in
    let y = among_leaving gone js j in
    grind (arith, nat_tests)

-- all but one
module _ (j : ℕ) (xs ys : List Job) (kept : ys ≡ filter (λ w. not (eqb w.number j)) xs) where
  pub listed_kept : last_first ys ≡ leaving (λ k. eqb k j) (last_first xs)
  listed_kept = ap last_first kept ∙ last_first_filter (λ k. eqb k j) xs

  pub once_kept : distinct (last_first xs) ≡ true → distinct (last_first ys) ≡ true
  once_kept h = ap distinct listed_kept ∙ distinct_leaving (λ k. eqb k j) (last_first xs) h

pub contains_listed : (k : ℕ) (xs : List Job) → list_any (λ j. eqb j.number k) xs ≡ among (last_first xs) k
contains_listed k [] = refl
contains_listed k (j ∷ xs) =
    let ih = contains_listed k xs in
    let e = ap (λ (ns : List ℕ). among ns k) (last_first_cons j xs) ∙ list_any-append (λ i. eqb k i) (last_first xs) (j.number ∷ []) in
    grind (arith, nat_tests)

-- the last of some jobs is the first one listed
pub last_is_first : (jobs : List Job) → number_in (slice_get jobs (length jobs - 1)) ≡ last_listed (last_first jobs)
last_is_first [] = refl
last_is_first (j ∷ []) = refl
last_is_first (j ∷ i ∷ jobs) =
    ap (λ (n : ℕ). number_in (slice_get (j ∷ i ∷ jobs) n)) (let e : length (j ∷ i ∷ jobs) - 1 ≡ suc (length (i ∷ jobs) - 1) = omega arith in e)
    ∙ last_is_first (i ∷ jobs)
    ∙ sym (ap last_listed (last_first_cons j (i ∷ jobs))
    ∙ last_append (last_first (i ∷ jobs)) (j.number ∷ []) (let l = length_listed (i ∷ jobs) in omega arith))
  where
    last_append : (ks ms : List ℕ) → 0 < length ks → last_listed (ks ++ ms) ≡ last_listed ks
    last_append [] ms h = absurd (let b : ⊥ = omega arith in b)
    last_append (k ∷ ks) ms h = refl
