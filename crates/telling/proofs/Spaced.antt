-- Facts about the numbers that are told in a row.
use Rattle.std.proofs.Common.{◌≡◌, ℕ, zero, suc, ◌<◌, Bool, true, false, not, ◌&&◌, eqb, ◌⊎◌, [], ◌++◌, sym, refl, inl, inr, codes, arith}
use Rattle.std.specs.Fmt.{decimal}
use Rattle.std.proofs.lemmas.Bool.{cases_order}
use Rattle.std.proofs.lemmas.Bool.Decides.{nat_tests}
use Rattle.std.proofs.lemmas.List.{append-nil, append_assoc}
use Rattle.telling.specs.Answers.{spaced}

-- nothing is told where no number passes the test
pub spaced_none : (f : ℕ → Bool) (n : ℕ) → ((k : ℕ) → k < n → f k ≡ false) → spaced f n ≡ []
unfolding spaced
spaced_none f zero h = refl
spaced_none f (suc n) h = rw (spaced_none f n (λ k l. h k (omega arith)), h n (omega arith))

-- the lowest number that passes comes first, and then the others
pub spaced_first : (f g : ℕ → Bool) (n j : ℕ) → j < n → f j ≡ true → ((k : ℕ) → k < j → f k ≡ false)
    → ((k : ℕ) → g k ≡ (f k && not (eqb k j))) → spaced f n ≡ (codes " " ++ decimal j) ++ spaced g n
unfolding spaced
spaced_first f g zero j l t h e = absurd (omega arith)
spaced_first f g (suc n) j l t h e = go (cases_order j n) (λ m. spaced_first f g n j m t h e)
  where
    go : (j ≡ n) ⊎ ((j < n) ⊎ (n < j)) → (j < n → spaced f n ≡ (codes " " ++ decimal j) ++ spaced g n)
        → spaced f (suc n) ≡ (codes " " ++ decimal j) ++ spaced g (suc n)
    go (inl q) ih =
        let before = spaced_none f n (λ k m. h k (omega arith)) in
        let after = spaced_none g n (λ k m. let x = h k (omega arith) in let y = e k in grind (arith, nat_tests)) in
        let here : f n ≡ true = rw q at t in
        let gone : g n ≡ false = let y = e n in grind (arith, nat_tests) in
        rw (before, after, here, gone, q) (sym (append-nil (codes " " ++ decimal n)))
    go (inr (inl q)) ih =
        let same : g n ≡ f n = let y = e n in grind (arith, nat_tests) in
        rw (ih q, same, append_assoc)
    go (inr (inr q)) ih = absurd (omega arith)
