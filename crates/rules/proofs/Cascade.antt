-- The computed set of those that go is exactly those that go, for any number of jobs.
use Rattle.std.proofs.Common.{◌≡◌, ℕ, zero, suc, ◌<◌, ◌≤◌, Bool, true, false, not, ◌&&◌, ◌||◌, ◌⊎◌, sym, refl, ◌∙◌, inl, inr, arith}
use Rattle.std.proofs.lemmas.Bool.Decides.{nat_tests}
use Rattle.std.proofs.lemmas.Bool.{or_cases, and_parts}
use Rattle.jobs.specs.Sets.{any_below, how_many}
use Rattle.jobs.proofs.Sets.{any_at, any_from, any_none, how_many_less, how_many_all}
use Rattle.rules.specs.Cascade.{Goes, at_first, in_turn, gone_after, goes}

module _ (w : ℕ) (first : ℕ → Bool) (reads_from : ℕ → ℕ → Bool) where
  abbrev gone : ℕ → ℕ → Bool
  gone n k = gone_after w first reads_from n k

  abbrev from_gone : ℕ → ℕ → ℕ → Bool
  from_gone n k i = elim (reads_from k i) [ true ↦ gone n i | false ↦ false ]

  gone_first : (k : ℕ) → gone zero k ≡ first k
  unfolding gone_after
  gone_first k = refl

  gone_suc : (n k : ℕ) → gone (suc n) k ≡ (gone n k || any_below (from_gone n k) w)
  unfolding gone_after
  gone_suc n k = grind (arith, nat_tests)

  -- who read from one that goes is in the next round
  gone_on : (n k i : ℕ) → i < w → gone n i ≡ true → reads_from k i ≡ true → gone (suc n) k ≡ true
  gone_on n k i l h t =
      let x = any_from (from_gone n k) w i l (grind (arith, nat_tests)) in
      let y = gone_suc n k in
      grind (arith, nat_tests)

  gone_up : (n k : ℕ) → gone n k ≡ true → gone (suc n) k ≡ true
  gone_up n k h = let y = gone_suc n k in grind (arith, nat_tests)

  -- and in the next round there are only those
  gone_off : (n k : ℕ) → gone (suc n) k ≡ true
      → (gone n k ≡ true) ⊎ ((i : ℕ) × (i < w) × (gone n i ≡ true) × (reads_from k i ≡ true))
  gone_off n k h = go (or_cases (gone n k) (any_below (from_gone n k) w) (sym (gone_suc n k) ∙ h))
    where
      go : (gone n k ≡ true) ⊎ (any_below (from_gone n k) w ≡ true)
          → (gone n k ≡ true) ⊎ ((i : ℕ) × (i < w) × (gone n i ≡ true) × (reads_from k i ≡ true))
      go (inl a) = inl a
      go (inr a) =
          let x = any_at (from_gone n k) w a in
          let y = x.2 in
          inr (x.0, x.1, grind (arith, nat_tests), grind (arith, nat_tests))

  gone_goes : (n k : ℕ) → k < w → gone n k ≡ true → Goes w first reads_from k
  gone_goes zero k l h = at_first l (sym (gone_first k) ∙ h)
  gone_goes (suc n) k l h = go (gone_off n k h) (gone_goes n)
    where
      go : (gone n k ≡ true) ⊎ ((i : ℕ) × (i < w) × (gone n i ≡ true) × (reads_from k i ≡ true))
          → ((i : ℕ) → i < w → gone n i ≡ true → Goes w first reads_from i) → Goes w first reads_from k
      go (inl a) ih = ih k l a
      go (inr x) ih = in_turn l (ih x.0 x.1 x.2) x.3

  up : (n k : ℕ) → first k ≡ true → gone n k ≡ true
  up zero k h = gone_first k ∙ h
  up (suc n) k h = gone_up n k (up n k h)

  -- a round after which nobody is added
  abbrev Shut : ℕ → Type 0
  Shut n = (k i : ℕ) → k < w → i < w → gone n i ≡ true → reads_from k i ≡ true → gone n k ≡ true

  shut_suc : (n : ℕ) → Shut n → Shut (suc n)
  shut_suc n s k i lk li a t = gone_on n k i li (go (gone_off n i a)) t
    where
      go : (gone n i ≡ true) ⊎ ((h : ℕ) × (h < w) × (gone n h ≡ true) × (reads_from i h ≡ true)) → gone n i ≡ true
      go (inl b) = b
      go (inr x) = s i x.0 li x.1 x.2 x.3

  -- as long as somebody is added in each round, there are as many as rounds
  reach : (n : ℕ) → Shut n ⊎ (n ≤ how_many (gone n) w)
  reach zero = inr (omega arith)
  reach (suc n) = go (reach n)
    where
      added : ℕ → Bool
      added k = not (gone n k) && gone (suc n) k

      decided : (t : Bool) → any_below added w ≡ t → n ≤ how_many (gone n) w → Shut (suc n) ⊎ (suc n ≤ how_many (gone (suc n)) w)
      decided true e h =
          let x = any_at added w e in
          let y = and_parts (not (gone n x.0)) (gone (suc n) x.0) x.2 in
          let z = y.0 in
          inr (let u = how_many_less (gone n) (gone (suc n)) (gone_up n) x.0 (grind (arith, nat_tests)) y.1 w x.1 in omega arith)
      decided false e h = inl (shut_suc n (λ k i lk li a t.
          let x = gone_on n k i li a t in
          let y = any_from added w k lk in
          grind (arith, nat_tests)))

      go : Shut n ⊎ (n ≤ how_many (gone n) w) → Shut (suc n) ⊎ (suc n ≤ how_many (gone (suc n)) w)
      go (inl s) = inl (shut_suc n s)
      go (inr h) = decided (any_below added w) refl h

  shut : Shut w
  shut = go (reach w)
    where
      go : Shut w ⊎ (w ≤ how_many (gone w) w) → Shut w
      go (inl s) = s
      go (inr h) = λ k i lk li a t. (how_many_all (gone w) w).1 h k lk

  goes_below : {k : ℕ} → Goes w first reads_from k → k < w
  goes_below (at_first l h) = l
  goes_below (in_turn l g h) = l

  pub goes_gone : {k : ℕ} → Goes w first reads_from k → (k < w) × (goes w first reads_from k ≡ true)
  goes_gone {k} (at_first l h) = (l, up w k h)
  goes_gone {k} (in_turn {i = i} l g h) = (l, shut k i l (goes_below g) (goes_gone g).1 h)

  pub gone_only : (k : ℕ) → k < w → goes w first reads_from k ≡ true → Goes w first reads_from k
  gone_only k l h = gone_goes w k l h

  -- whoever is in a round is one of the first, or read from somebody
  pub gone_cause : (n k : ℕ) → gone n k ≡ true → (first k ≡ true) ⊎ ((i : ℕ) × (reads_from k i ≡ true))
  gone_cause zero k h = inl (sym (gone_first k) ∙ h)
  gone_cause (suc n) k h = go (gone_off n k h) (gone_cause n k)
    where
      go : (gone n k ≡ true) ⊎ ((i : ℕ) × (i < w) × (gone n i ≡ true) × (reads_from k i ≡ true))
          → (gone n k ≡ true → (first k ≡ true) ⊎ ((i : ℕ) × (reads_from k i ≡ true))) → (first k ≡ true) ⊎ ((i : ℕ) × (reads_from k i ≡ true))
      go (inl a) ih = ih a
      go (inr x) ih = inr (x.0, x.3)

  -- where nobody is first, nobody goes
  pub goes_nobody : ((k : ℕ) → first k ≡ false) → (k : ℕ) → goes w first reads_from k ≡ false
  goes_nobody h k = none w k
    where
      none : (n k : ℕ) → gone n k ≡ false
      none zero k = gone_first k ∙ h k
      none (suc n) k =
          let x = none n k in
          let y = any_none (from_gone n k) w (λ i l. let z = none n i in grind (arith, nat_tests)) in
          let e = gone_suc n k in
          grind (arith, nat_tests)
