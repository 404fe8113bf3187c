-- Facts about sets of numbers as bits and as tests, each over the size.
use Rattle.std.proofs.Common.{◌≡◌, ℕ, zero, suc, ◌+◌, ◌-◌, ◌*◌, ◌/◌, ◌%◌, ◌^◌, ◌<◌, ◌≤◌, Bool, true, false, not, ◌&&◌, ◌||◌, if◌then◌else◌, eqb, ltb, Some, None, sym, refl, ap, ◌∙◌, pow-suc, arith}
use lib.Bits.{bit_or, bit_and}
use lib.Count.{ones, ones_step, count_trailing_zeros, under}
use Rattle.std.proofs.lemmas.Nat.{pow_pos, or_shifted}
use Rattle.std.proofs.lemmas.Nat.Bits.{bit_at_lowest, bit_at-suc, bit_at-zero, bit_at-lt, bit_at_and, bit_at_or, bit_at_above, bit_at-pow_same, bit_at-pow_other, same_from_bits_below}
use Rattle.std.proofs.lemmas.Bool.Decides.{nat_tests}
use Rattle.jobs.specs.Sets.{has, bits_where, lowest, how_many, any_below}

-- the bit above is the bit of the half
pub has_suc : (a k : ℕ) → has a (suc k) ≡ has (a / 2) k
has_suc a k = let x = bit_at-suc a k in grind (arith, nat_tests)

pub has_or : (a b k : ℕ) → has (bit_or a b) k ≡ (has a k || has b k)
has_or a b k = let x = bit_at_or a b k in let y = bit_at-lt a k in let z = bit_at-lt b k in grind (arith, nat_tests)

pub has_and : (a b k : ℕ) → has (bit_and a b) k ≡ (has a k && has b k)
has_and a b k = let x = bit_at_and a b k in let y = bit_at-lt a k in let z = bit_at-lt b k in grind (arith, nat_tests)

-- a number below 2 ^ w has no member from w on
pub has_past : (w a k : ℕ) → a < 2 ^ w → w ≤ k → has a k ≡ false
has_past w a k l h = let x = bit_at_above a w k l h in grind (arith, nat_tests)

pub has_zero : (k : ℕ) → has 0 k ≡ false
has_zero k = let x = bit_at-zero k in grind (arith, nat_tests)

pub has_one : (j k : ℕ) → has (2 ^ j) k ≡ eqb k j
has_one j k = let same = bit_at-pow_same j in let other = bit_at-pow_other j k in grind (arith, nat_tests)

-- all bits of a width turned round
pub has_not : (w a k : ℕ) → k < w → a < 2 ^ w → has (2 ^ w - 1 - a) k ≡ not (has a k)
has_not zero a k h l = absurd (omega arith)
has_not (suc w) a zero h l =
    let x = bit_at_lowest a in let y = bit_at_lowest (2 ^ suc w - 1 - a) in
    let turned : (2 ^ suc w - 1 - a) % 2 ≡ 1 - a % 2 = omega (arith, pow-suc 2 w) in
    grind (arith, nat_tests)
has_not (suc w) a (suc k) h l =
    let half : (2 ^ suc w - 1 - a) / 2 ≡ 2 ^ w - 1 - a / 2 = omega (arith, pow-suc 2 w) in
    let ih = has_not w (a / 2) k (omega arith) (omega (arith, pow-suc 2 w)) in
    has_suc (2 ^ suc w - 1 - a) k ∙ ap (λ (n : ℕ). has n k) half ∙ ih ∙ ap not (sym (has_suc a k))

-- what is left of a set without the members of another
pub has_without : (w a b k : ℕ) → a < 2 ^ w → b < 2 ^ w → has (bit_and a (2 ^ w - 1 - b)) k ≡ (has a k && not (has b k))
has_without w a b k la lb =
    let x = has_and a (2 ^ w - 1 - b) k in let y = has_not w b k in let z = has_past w a k la in grind (arith, nat_tests)

-- two sets with the same members are the same number
pub has_ext : (w a b : ℕ) → a < 2 ^ w → b < 2 ^ w → ((k : ℕ) → k < w → has a k ≡ has b k) → a ≡ b
has_ext w a b la lb e =
    same_from_bits_below w a b la lb
    (λ k l. let x = e k l in let y = bit_at-lt a k in let z = bit_at-lt b k in grind (arith, nat_tests))

pub bits_where_lt : (f : ℕ → Bool) (n : ℕ) → bits_where f n < 2 ^ n
unfolding bits_where
bits_where_lt f zero = omega arith
bits_where_lt f (suc n) = let ih = bits_where_lt f n in let e = pow-suc 2 n in grind (arith, nat_tests)

-- the members of a set made by a test
pub has_bits_where : (f : ℕ → Bool) (n k : ℕ) → has (bits_where f n) k ≡ (ltb k n && f k)
unfolding bits_where
has_bits_where f zero k = let x = has_zero k in grind (arith, nat_tests)
has_bits_where f (suc n) k =
    let ih = has_bits_where f n k in
    let low = bits_where f n in
    let joined : low + 2 ^ n ≡ bit_or (1 * 2 ^ n) low = rw (or_shifted 1 n low (bits_where_lt f n)) (omega arith) in
    let either = has_or (1 * 2 ^ n) low k in
    let new = has_one n k in
    grind (arith, nat_tests)

-- a number with just the members that pass a test is the set made by that test
pub bits_are : (w a : ℕ) (f : ℕ → Bool) → a < 2 ^ w → ((k : ℕ) → k < w → has a k ≡ f k) → a ≡ bits_where f w
bits_are w a f l e =
    has_ext w a (bits_where f w) l (bits_where_lt f w)
    (λ k h. let x = e k h in let y = has_bits_where f w k in grind (arith, nat_tests))

pub lowest_none : (f : ℕ → Bool) (n : ℕ) → lowest f n ≡ None → (k : ℕ) → k < n → f k ≡ false
unfolding lowest
lowest_none f zero h k l = absurd (omega arith)
lowest_none f (suc n) h k l = let ih = lowest_none f n in grind (arith, nat_tests)

-- the lowest passes, and none below it does
pub lowest_some : (f : ℕ → Bool) (n j : ℕ) → lowest f n ≡ Some j → (j < n) × (f j ≡ true) × ((k : ℕ) → k < j → f k ≡ false)
unfolding lowest
lowest_some f zero j h = absurd cc
lowest_some f (suc n) j h = let ih = lowest_some f n j in let none = lowest_none f n in grind (arith, nat_tests)

-- none passes at all, where none does from n on
pub lowest_never : (f : ℕ → Bool) (n : ℕ) → lowest f n ≡ None → ((k : ℕ) → n ≤ k → f k ≡ false) → (k : ℕ) → f k ≡ false
lowest_never f n h past k = let x = lowest_none f n h k in let y = past k in grind (arith, nat_tests)

-- none passes below n
pub none_lowest : (f : ℕ → Bool) (n : ℕ) → ((k : ℕ) → k < n → f k ≡ false) → lowest f n ≡ None
unfolding lowest
none_lowest f zero h = refl
none_lowest f (suc n) h = let x = none_lowest f n (λ k l. h k (omega arith)) in let y = h n in grind (arith, nat_tests)

-- the lowest is the same for two tests that agree
pub lowest_same : (f g : ℕ → Bool) (n : ℕ) → ((k : ℕ) → k < n → f k ≡ g k) → lowest f n ≡ lowest g n
unfolding lowest
lowest_same f g zero e = refl
lowest_same f g (suc n) e = let x = lowest_same f g n (λ k l. e k (omega arith)) in let y = e n in grind (arith, nat_tests)

-- the first that passes is the lowest
pub first_lowest : (f : ℕ → Bool) (n j : ℕ) → j < n → f j ≡ true → ((k : ℕ) → k < j → f k ≡ false) → lowest f n ≡ Some j
unfolding lowest
first_lowest f zero j l t h = absurd (omega arith)
first_lowest f (suc n) j l t h =
    let lower : j < n → lowest f n ≡ Some j = λ m. first_lowest f n j m t h in
    let last : n ≤ j → lowest f n ≡ None = λ m. none_lowest f n (λ k q. h k (omega arith)) in
    grind (arith, nat_tests)

-- the zeros below the lowest member, in w bits
trailing_low : (w a : ℕ) → ((k : ℕ) → k < count_trailing_zeros w a → has a k ≡ false)
    × (count_trailing_zeros w a < w → has a (count_trailing_zeros w a) ≡ true)
unfolding count_trailing_zeros
trailing_low zero a = (λ k l. absurd (omega arith), λ l. absurd (omega arith))
trailing_low (suc w) a = go (a % 2) refl (trailing_low w (a / 2))
  where
    bottom : has a 0 ≡ eqb (a % 2) 1
    bottom = let x = bit_at_lowest a in grind (arith, nat_tests)

    below : (k t : ℕ) → a % 2 ≡ 0 → ((k : ℕ) → k < t → has (a / 2) k ≡ false) → k < suc t → has a k ≡ false
    below zero t e h l = let x = bottom in grind (arith, nat_tests)
    below (suc k) t e h l = has_suc a k ∙ h k (omega arith)

    go : (d : ℕ) → a % 2 ≡ d
        → ((k : ℕ) → k < count_trailing_zeros w (a / 2) → has (a / 2) k ≡ false) × (count_trailing_zeros w (a / 2) < w → has (a / 2) (count_trailing_zeros w (a / 2)) ≡ true)
        → ((k : ℕ) → k < under d (count_trailing_zeros w (a / 2)) → has a k ≡ false)
        × (under d (count_trailing_zeros w (a / 2)) < suc w → has a (under d (count_trailing_zeros w (a / 2))) ≡ true)
    go zero e ih =
        (λ k l. below k (count_trailing_zeros w (a / 2)) e ih.0 l, λ l. has_suc a (count_trailing_zeros w (a / 2)) ∙ ih.1 (omega arith))
    go (suc d) e ih = (λ k l. absurd (omega arith), λ l. let x = bottom in grind (arith, nat_tests))

-- the lowest member by the zeros below it
pub trailing_lowest : (w a : ℕ) → count_trailing_zeros w a < w → lowest (has a) w ≡ Some (count_trailing_zeros w a)
trailing_lowest w a l = first_lowest (has a) w (count_trailing_zeros w a) l ((trailing_low w a).1 l) (trailing_low w a).0

pub trailing_none : (w a : ℕ) → w ≤ count_trailing_zeros w a → lowest (has a) w ≡ None
trailing_none w a l = none_lowest (has a) w (λ k h. (trailing_low w a).0 k (omega arith))

-- counted from the bottom
how_many_bottom : (f : ℕ → Bool) (n : ℕ) → how_many f (suc n) ≡ (if f 0 then 1 else 0) + how_many (λ k. f (suc k)) n
unfolding how_many
how_many_bottom f zero = omega arith
how_many_bottom f (suc n) = let x = how_many_bottom f n in omega arith

pub how_many_same : (f g : ℕ → Bool) (n : ℕ) → ((k : ℕ) → k < n → f k ≡ g k) → how_many f n ≡ how_many g n
unfolding how_many
how_many_same f g zero e = refl
how_many_same f g (suc n) e = let x = how_many_same f g n (λ k l. e k (omega arith)) in let y = e n in grind (arith, nat_tests)

-- the count of the members is the count of the ones among the bits
pub how_many_ones : (w a : ℕ) → a < 2 ^ w → ones a ≡ how_many (has a) w
unfolding how_many ones
how_many_ones zero a l = let z : a ≡ 0 = omega arith in rw z
how_many_ones (suc w) a l =
    let ih = how_many_ones w (a / 2) (omega (arith, pow-suc 2 w)) in
    let same = how_many_same (λ k. has a (suc k)) (has (a / 2)) w (λ k h. has_suc a k) in
    let bottom = how_many_bottom (has a) w in
    let low : (if has a 0 then 1 else 0) ≡ a % 2 =
    let x = bit_at-lt a 0 in let y = bit_at_lowest a in grind (arith, nat_tests) in
    omega (arith, ones_step a)

pub how_many_le : (f g : ℕ → Bool) → ((k : ℕ) → f k ≡ true → g k ≡ true) → (n : ℕ) → how_many f n ≤ how_many g n
unfolding how_many
how_many_le f g h zero = omega arith
how_many_le f g h (suc n) = let ih = how_many_le f g h n in let x = h n in grind (arith, nat_tests)

-- a smaller set has fewer members
pub how_many_less : (f g : ℕ → Bool) → ((k : ℕ) → f k ≡ true → g k ≡ true) → (k : ℕ) → f k ≡ false → g k ≡ true
    → (n : ℕ) → k < n → how_many f n < how_many g n
unfolding how_many
how_many_less f g h k a b zero l = absurd (omega arith)
how_many_less f g h k a b (suc n) l =
    let ih = how_many_less f g h k a b n in let x = h n in let y = how_many_le f g h n in grind (arith, nat_tests)

-- at most n are below n, and if there are n, each of them passes
pub how_many_all : (f : ℕ → Bool) (n : ℕ) → (how_many f n ≤ n) × (n ≤ how_many f n → (k : ℕ) → k < n → f k ≡ true)
unfolding how_many
how_many_all f zero = (omega arith, λ a k l. absurd (omega arith))
how_many_all f (suc n) =
    let ih = how_many_all f n in let x = ih.0 in (grind (arith, nat_tests), λ a k l. grind (arith, nat_tests, ih.1))

pub any_at : (f : ℕ → Bool) (n : ℕ) → any_below f n ≡ true → (k : ℕ) × (k < n) × (f k ≡ true)
unfolding any_below
any_at f zero h = absurd cc
any_at f (suc n) h = let ih = any_at f n in grind (arith, nat_tests)

pub any_from : (f : ℕ → Bool) (n k : ℕ) → k < n → f k ≡ true → any_below f n ≡ true
unfolding any_below
any_from f zero k l h = absurd (omega arith)
any_from f (suc n) k l h = let ih = any_from f n k in grind (arith, nat_tests)

pub any_none : (f : ℕ → Bool) (n : ℕ) → ((k : ℕ) → k < n → f k ≡ false) → any_below f n ≡ false
unfolding any_below
any_none f zero h = refl
any_none f (suc n) h = let x = any_none f n (λ k l. h k (omega arith)) in let y = h n in grind (arith, nat_tests)

pub any_same : (f g : ℕ → Bool) (n : ℕ) → ((k : ℕ) → k < n → f k ≡ g k) → any_below f n ≡ any_below g n
unfolding any_below
any_same f g zero e = refl
any_same f g (suc n) e = let x = any_same f g n (λ k l. e k (omega arith)) in let y = e n in grind (arith, nat_tests)

-- a test that may pass at one more place
pub any_more : (f g : ℕ → Bool) (n p : ℕ) (b : Bool) → ((q : ℕ) → g q ≡ (f q || (eqb q p && b)))
    → any_below g n ≡ (any_below f n || (ltb p n && b))
unfolding any_below
any_more f g zero p b e = grind (arith, nat_tests)
any_more f g (suc n) p b e = let ih = any_more f g n p b e in let x = e n in grind (arith, nat_tests)

-- a test that passes at the same places, or nowhere
pub any_and : (f g : ℕ → Bool) (n : ℕ) (b : Bool) → ((q : ℕ) → g q ≡ (f q && b)) → any_below g n ≡ (any_below f n && b)
unfolding any_below
any_and f g zero b e = refl
any_and f g (suc n) b e = let ih = any_and f g n b e in let x = e n in grind (arith, nat_tests)

-- the number 0 is the set of none
pub zero_is_empty : (w a : ℕ) → a < 2 ^ w → eqb a 0 ≡ not (any_below (has a) w)
zero_is_empty w a l =
    let nobody : ((k : ℕ) → k < w → has a k ≡ false) → a ≡ 0 =
    λ e. has_ext w a 0 l (pow_pos w) (λ k h. e k h ∙ sym (has_zero k)) in
    let some = any_from (has a) w in
    let none = any_none (has a) w in
    grind (arith, nat_tests, has_zero)
