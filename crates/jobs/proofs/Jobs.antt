-- Facts about sets of jobs.
use Rattle.std.proofs.Common.{◌≡◌, ℕ, ◌-◌, ◌*◌, ◌%◌, ◌^◌, ◌<◌, ◌≤◌, Bool, true, false, not, ◌&&◌, ◌||◌, eqb, ltb, Some, None, Option, MatchOption, sym, ap, ◌∙◌, arith}
use lib.Bits.{bit_or, bit_and}
use lib.Count.{ones, count_trailing_zeros}
use Rattle.std.proofs.lemmas.Nat.{one_shl, or_lt, and_le_l}
use Rattle.std.proofs.lemmas.Bool.Decides.{nat_tests}
use Rattle.jobs.specs.declared.job.Job.{Job}
use Rattle.jobs.specs.declared.set.JobSet.{JobSet}
use Rattle.jobs.specs.Sets.{has, bits_where, lowest, how_many, any_below}
use Rattle.jobs.specs.Jobs.{member, set_of, no_jobs, jobs_where, number_in, after_next}
use Rattle.jobs.proofs.Sets.{has_or, has_and, has_zero, has_one, has_not, has_without, bits_where_lt, has_bits_where, bits_are, lowest_some, lowest_never, lowest_same, trailing_lowest, trailing_none, how_many_same, how_many_ones, how_many_less, any_same, zero_is_empty}

pub member_has : (s : JobSet) (k : ℕ) → k < 16 → member s k ≡ has s.bits k
member_has s k l = grind (arith, nat_tests)

-- no number past those of the jobs is a member
pub member_past : (s : JobSet) (k : ℕ) → 16 ≤ k → member s k ≡ false
member_past s k l = grind (arith, nat_tests)

-- a member is the number of a job
pub member_low : (s : JobSet) (k : ℕ) → member s k ≡ true → k < 16
member_low s k h = grind (arith, nat_tests)

-- a set of jobs is what its members make it
pub set_is : (s : JobSet) (f : ℕ → Bool) → s.bits < 2 ^ 16 → ((k : ℕ) → member s k ≡ f k) → s ≡ jobs_where f
set_is s f l e = ap set_of (bits_are 16 s.bits f l (λ k h. sym (member_has s k h) ∙ e k))

-- a set made by a test has only the bits of jobs
pub set_fits : (s : JobSet) (f : ℕ → Bool) → s ≡ jobs_where f → s.bits < 2 ^ 16
set_fits s f e = let x = bits_where_lt f 16 in let y : s.bits ≡ bits_where f 16 = ap (λ (t : JobSet). t.bits) e in omega arith

-- the members of a set made by a test, any number asked for
pub member_test : (f : ℕ → Bool) (k : ℕ) → member (jobs_where f) k ≡ (ltb k 16 && f k)
member_test f k = let x = has_bits_where f 16 k in grind (arith, nat_tests)

-- the members of a set made by a test
pub member_where : (f : ℕ → Bool) (k : ℕ) → k < 16 → member (jobs_where f) k ≡ f k
member_where f k l = let x = member_test f k in grind (arith, nat_tests)

pub member_none : (k : ℕ) → member no_jobs k ≡ false
member_none k = let x = has_zero k in grind (arith, nat_tests)

-- the set of nobody
pub nobody_is : (f : ℕ → Bool) → ((k : ℕ) → f k ≡ false) → no_jobs ≡ jobs_where f
nobody_is f h = set_is no_jobs f (omega arith) (λ k. member_none k ∙ sym (h k))

-- the iterator over the members gives one of them, and all others stay
pub next_some : (s t : JobSet) (j : ℕ) → Some j ≡ lowest (member s) 16 → t ≡ after_next s (Some j)
    → (member s j ≡ true) × ((k : ℕ) → member t k ≡ (member s k && not (eqb k j)))
next_some s t j h e = (
  (lowest_some (member s) 16 j (sym h)).1,
  λ k. let x = member_test (λ k. member s k && not (eqb k j)) k in ap (λ (u : JobSet). member u k) e ∙ (grind (arith, nat_tests)),
)

-- what is left after the lowest member has fewer members
pub fewer_left : (s t : JobSet) (j : ℕ) → Some j ≡ lowest (member s) 16 → t ≡ after_next s (Some j)
    → how_many (member t) 16 < how_many (member s) 16
fewer_left s t j h e =
    let step = next_some s t j h e in
    how_many_less (member t) (member s) (λ k m. let x = step.1 k in grind (arith, nat_tests)) j
    (let x = step.1 j in grind (arith, nat_tests)) step.0 16 (member_low s j step.0)

-- the iterator ends where no member is left
pub next_none : (s : JobSet) → None ≡ lowest (member s) 16 → (k : ℕ) → member s k ≡ false
next_none s h = lowest_never (member s) 16 (sym h) (member_past s)

-- what each operation on bits makes: the members, and the set

pub members_all : (k : ℕ) → member (set_of 65535) k ≡ ltb k 16
members_all k = let x = has_not 16 0 k in let y = has_zero k in grind (arith, nat_tests)

pub all_is : set_of 65535 ≡ jobs_where (λ k. true)
all_is = ap set_of (bits_are 16 65535 (λ k. true) (omega arith) (λ k l. let x = members_all k in grind (arith, nat_tests)))

pub members_one : (j k : ℕ) → j < 16 → member (set_of (1 * 2 ^ j % 2 ^ 16)) k ≡ eqb k j
members_one j k l = let x = one_shl j 16 l in let y = has_one j k in grind (arith, nat_tests)

pub one_is : (j : ℕ) → j < 16 → set_of (1 * 2 ^ j % 2 ^ 16) ≡ jobs_where (λ k. eqb k j)
one_is j l = set_is _ _ (omega arith) (λ k. members_one j k l)

pub members_union : (s t : JobSet) (k : ℕ) → member (set_of (bit_or s.bits t.bits)) k ≡ (member s k || member t k)
members_union s t k = let x = has_or s.bits t.bits k in grind (arith, nat_tests)

pub union_is : (s t : JobSet) → s.bits < 2 ^ 16 → t.bits < 2 ^ 16
    → set_of (bit_or s.bits t.bits) ≡ jobs_where (λ k. member s k || member t k)
union_is s t a b = set_is _ _ (or_lt 16 s.bits t.bits a b) (members_union s t)

pub members_common : (s t : JobSet) (k : ℕ) → member (set_of (bit_and s.bits t.bits)) k ≡ (member s k && member t k)
members_common s t k = let x = has_and s.bits t.bits k in grind (arith, nat_tests)

pub common_is : (s t : JobSet) → s.bits < 2 ^ 16 → set_of (bit_and s.bits t.bits) ≡ jobs_where (λ k. member s k && member t k)
common_is s t a = set_is _ _ (omega (arith, and_le_l s.bits t.bits)) (members_common s t)

pub members_without : (s t : JobSet) (k : ℕ) → s.bits < 2 ^ 16 → t.bits < 2 ^ 16
    → member (set_of (bit_and s.bits (65535 - t.bits))) k ≡ (member s k && not (member t k))
members_without s t k a b = let x = has_without 16 s.bits t.bits k a b in grind (arith, nat_tests)

pub without_is : (s t : JobSet) → s.bits < 2 ^ 16 → t.bits < 2 ^ 16
    → set_of (bit_and s.bits (65535 - t.bits)) ≡ jobs_where (λ k. member s k && not (member t k))
without_is s t a b = set_is _ _ (omega (arith, and_le_l s.bits (65535 - t.bits))) (λ k. members_without s t k a b)

pub empty_is : (s : JobSet) → s.bits < 2 ^ 16 → eqb s.bits 0 ≡ not (any_below (member s) 16)
empty_is s l = zero_is_empty 16 s.bits l ∙ ap not (sym (any_same (member s) (has s.bits) 16 (member_has s)))

pub count_is : (s : JobSet) → s.bits < 2 ^ 16 → ones s.bits ≡ how_many (member s) 16
count_is s l = how_many_ones 16 s.bits l ∙ sym (how_many_same (member s) (has s.bits) 16 (member_has s))

pub lowest_is : (s : JobSet) (r : Option Job) → s.bits < 2 ^ 16
    → MatchOption r (16 ≤ count_trailing_zeros 16 s.bits) (λ j. j.number ≡ count_trailing_zeros 16 s.bits)
    → number_in r ≡ lowest (member s) 16
lowest_is s None l h = sym (lowest_same (member s) (has s.bits) 16 (member_has s) ∙ trailing_none 16 s.bits h)
lowest_is s (Some j) l h =
    let low = j.low in
    ap Some h ∙ sym (lowest_same (member s) (has s.bits) 16 (member_has s) ∙ trailing_lowest 16 s.bits (omega arith))

pub ruleset operations = (members_all, all_is, members_one, one_is, members_union, union_is, members_common, common_is, members_without, without_is, empty_is, count_is, lowest_is)
