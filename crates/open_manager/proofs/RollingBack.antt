-- Who goes when jobs are rolled back one after the other, each with its readers.
use Rattle.std.proofs.Common.{◌≡◌, ℕ, ◌<◌, Bool, true, false, not, ◌&&◌, ◌||◌, eqb, ◌⊎◌, sym, refl, ap, ◌∙◌, inl, inr, arith}
use Rattle.std.proofs.lemmas.Bool.Decides.{nat_tests}
use Rattle.std.proofs.lemmas.Bool.{cases_Bool, cases_eq, eq-eqb, ne_eqb, eqb-true, or_cases}
use Rattle.rules.specs.Cascade.{Goes, at_first, in_turn, goes}
use Rattle.rules.proofs.Cascade.{goes_gone, gone_only, gone_cause}
use Rattle.open_manager.specs.RollBack.{RolledBack}

-- who goes with fewer goes with more
goes_more : (w : ℕ) (first more : ℕ → Bool) (reads others : ℕ → ℕ → Bool)
    → ((k : ℕ) → k < w → first k ≡ true → Goes w more others k) → ((k i : ℕ) → reads k i ≡ true → others k i ≡ true)
    → {k : ℕ} → Goes w first reads k → Goes w more others k
goes_more w first more reads others f r {k} (at_first l h) = f k l h
goes_more w first more reads others f r {k} (in_turn {i = i} l g h) = in_turn l (goes_more w first more reads others f r g) (r k i h)

module _ (reads : ℕ → ℕ → Bool) (pending : ℕ → Bool) where
  -- nobody goes where nobody is to be rolled back
  pub rolled_none : (first gone : ℕ → Bool) → ((k : ℕ) → first k ≡ true → pending k ≡ true → ⊥) → ((k : ℕ) → gone k ≡ false)
      → RolledBack first reads pending gone
  rolled_none first gone nobody none = record {
    all = λ k h p. absurd (nobody k h p);
    closed = λ k i h r. absurd (let x = none i in let z : ◌≡◌ {A = ℕ} 0 1 = grind (arith, nat_tests) in omega arith);
    only = λ k h. absurd (let x = none k in let z : ◌≡◌ {A = ℕ} 0 1 = grind (arith, nat_tests) in omega arith);
  }

  module _ (gone : ℕ → Bool) (reads' : ℕ → ℕ → Bool) (pending' : ℕ → Bool)
      (left : (k i : ℕ) → reads' k i ≡ (reads k i && (not (gone k) && not (gone i))))
      (stay : (k : ℕ) → pending' k ≡ (pending k && not (gone k))) where
    fewer : (k i : ℕ) → reads' k i ≡ true → reads k i ≡ true
    fewer k i h = let x = left k i in grind (arith, nat_tests)

    -- after those of `gone` one more job is rolled back
    pub rolled_more : (first more gone' all' : ℕ → Bool) (j : ℕ) → j < 16 → ((k : ℕ) → more k ≡ (first k || eqb k j))
        → ((k : ℕ) → all' k ≡ (gone k || gone' k)) → RolledBack first reads pending gone
        → RolledBack (λ k. eqb k j) reads' pending' gone' → RolledBack more reads pending all'
    rolled_more first more gone' all' j low m a r r' = record {
      all = λ k h p.
          let x = m k in
          let y = a k in
          let z = stay k in
          let u = r.all k in
          let v = r'.all k in
          grind (arith, nat_tests);
      closed = λ k i h t.
          let x = a k in
          let y = a i in
          let z = left k i in
          let u = r.closed k i in
          let v = r'.closed k i in
          grind (arith, nat_tests);
      only = λ k h. went k (or_cases (gone k) (gone' k) (sym (a k) ∙ h));
    }
      where
        went : (k : ℕ) → (gone k ≡ true) ⊎ (gone' k ≡ true) → Goes 16 more reads k
        went k (inl h) = goes_more 16 first more reads reads (λ i l f. at_first l (let x = m i in grind (arith, nat_tests))) (λ i s f. f) (r.only k h)
        went k (inr h) =
            goes_more 16 (λ i. eqb i j) more reads' reads (λ i l f. at_first l (let x = m i in grind (arith, nat_tests))) fewer (r'.only k h)

  module _ (j : ℕ) (reads' : ℕ → ℕ → Bool) (pending' : ℕ → Bool)
      (left : (k i : ℕ) → reads' k i ≡ (reads k i && (not (eqb k j) && not (eqb i j))))
      (stay : (k : ℕ) → pending' k ≡ (pending k && not (eqb k j))) where
    -- one job left, and then its readers were rolled back
    pub rolled_one : (readers gone all' : ℕ → Bool) → j < 16 → ((k i : ℕ) → reads k i ≡ true → pending k ≡ true)
        → ((k : ℕ) → readers k ≡ reads k j) → ((k : ℕ) → all' k ≡ (gone k || eqb k j))
        → RolledBack readers reads' pending' gone → RolledBack (λ k. eqb k j) reads pending all'
    rolled_one readers gone all' low known who a r = record {
      all = λ k h p. let x = a k in grind (arith, nat_tests);
      closed = λ k i h t. shut k i h t (cases_eq i j);
      only = λ k h. went k (or_cases (gone k) (eqb k j) (sym (a k) ∙ h));
    }
      where
        shut : (k i : ℕ) → all' i ≡ true → reads k i ≡ true → (i ≡ j) ⊎ (i ≡ j → ⊥) → all' k ≡ true
        shut k i h t (inl e) =
            let read : reads k j ≡ true = ap (reads k) (sym e) ∙ t in
            let x = a k in
            let y = who k in
            let z = stay k in
            let u = known k i t in
            let v = r.all k in
            grind (arith, nat_tests)
        shut k i h t (inr n) =
            let f = ne_eqb i j n in
            let x = a k in
            let y = a i in
            let z = left k i in
            let u = r.closed k i in
            grind (arith, nat_tests)

        started : Goes 16 (λ k. eqb k j) reads j
        started = at_first low (eq-eqb j j refl)

        went : (k : ℕ) → (gone k ≡ true) ⊎ (eqb k j ≡ true) → Goes 16 (λ k. eqb k j) reads k
        went k (inl h) =
            goes_more 16 readers (λ k. eqb k j) reads' reads (λ i l f. in_turn l started (sym (who i) ∙ f))
            (λ k i f. let x = left k i in grind (arith, nat_tests)) (r.only k h)
        went k (inr h) = let e = eqb-true k j h in at_first (omega arith) h

    -- so that besides the job exactly those went that go with its readers
    pub rolled_readers : (readers gone : ℕ → Bool) → ((k : ℕ) → pending k ≡ true → k < 16)
        → ((k i : ℕ) → reads k i ≡ true → pending k ≡ true) → ((k : ℕ) → readers k ≡ reads k j) → RolledBack readers reads' pending' gone
        → (k : ℕ) → (gone k && not (eqb k j)) ≡ (goes 16 (λ i. reads i j) reads k && not (eqb k j))
    rolled_readers readers gone jobs known who r k = same (cases_eq k j) (cases_Bool (gone k)) (cases_Bool (goes 16 (λ i. reads i j) reads k))
      where
        near : (k : ℕ) → (k ≡ j → ⊥) → reads k j ≡ true → gone k ≡ true
        near k n h =
            let f = ne_eqb k j n in
            let x = who k in
            let y = stay k in
            let z = known k j h in
            let u = r.all k in
            grind (arith, nat_tests)

        back : {k : ℕ} → Goes 16 (λ i. reads i j) reads k → (k ≡ j) ⊎ (gone k ≡ true)
        back {k} (at_first l h) = go (cases_eq k j)
          where
            go : (k ≡ j) ⊎ (k ≡ j → ⊥) → (k ≡ j) ⊎ (gone k ≡ true)
            go (inl e) = inl e
            go (inr n) = inr (near k n h)
        back {k} (in_turn {i = i} l g h) = go (cases_eq k j) (back g)
          where
            on : (k ≡ j → ⊥) → (i ≡ j) ⊎ (i ≡ j → ⊥) → gone i ≡ true → gone k ≡ true
            on n (inl e) m = near k n (ap (reads k) (sym e) ∙ h)
            on n (inr o) m = let f = ne_eqb k j n in let f' = ne_eqb i j o in let x = left k i in let u = r.closed k i m in grind (arith, nat_tests)

            go : (k ≡ j) ⊎ (k ≡ j → ⊥) → (i ≡ j) ⊎ (gone i ≡ true) → (k ≡ j) ⊎ (gone k ≡ true)
            go (inl e) b = inl e
            go (inr n) (inl e) = inr (near k n (ap (reads k) (sym e) ∙ h))
            go (inr n) (inr m) = inr (on n (cases_eq i j) m)

        onward : {k : ℕ} → Goes 16 readers reads' k → Goes 16 (λ i. reads i j) reads k
        onward g =
            goes_more 16 readers (λ i. reads i j) reads' reads (λ i l f. at_first l (sym (who i) ∙ f))
            (λ k i f. let x = left k i in grind (arith, nat_tests)) g

        low : goes 16 (λ i. reads i j) reads k ≡ true → k < 16
        low h = cause (gone_cause 16 (λ i. reads i j) reads 16 k h)
          where
            cause : (reads k j ≡ true) ⊎ ((i : ℕ) × (reads k i ≡ true)) → k < 16
            cause (inl f) = jobs k (known k j f)
            cause (inr x) = jobs k (known k x.0 x.1)

        same : (k ≡ j) ⊎ (k ≡ j → ⊥) → (gone k ≡ true) ⊎ (gone k ≡ false)
            → (goes 16 (λ i. reads i j) reads k ≡ true) ⊎ (goes 16 (λ i. reads i j) reads k ≡ false)
            → (gone k && not (eqb k j)) ≡ (goes 16 (λ i. reads i j) reads k && not (eqb k j))
        same (inl e) a b = let f = eq-eqb k j e in grind (arith, nat_tests)
        same (inr n) (inl a) b = let x = (goes_gone 16 (λ i. reads i j) reads (onward (r.only k a))).1 in grind (arith, nat_tests)
        same (inr n) (inr a) (inr b) = grind (arith, nat_tests)
        same (inr n) (inr a) (inl b) = missed (back (gone_only 16 (λ i. reads i j) reads k (low b) b))
          where
            missed : (k ≡ j) ⊎ (gone k ≡ true) → (gone k && not (eqb k j)) ≡ (goes 16 (λ i. reads i j) reads k && not (eqb k j))
            missed (inl e) = absurd (n e)
            missed (inr g) = grind (arith, nat_tests)

  -- those that went are exactly those that go
  pub rolled_goes : (first gone : ℕ → Bool) → ((k : ℕ) → pending k ≡ true → k < 16) → ((k : ℕ) → first k ≡ true → pending k ≡ true)
      → ((k i : ℕ) → reads k i ≡ true → pending k ≡ true) → RolledBack first reads pending gone
      → (k : ℕ) → gone k ≡ goes 16 first reads k
  rolled_goes first gone jobs start known r k = same (cases_Bool (gone k)) (cases_Bool (goes 16 first reads k))
    where
      back : {k : ℕ} → Goes 16 first reads k → gone k ≡ true
      back {k} (at_first l h) = r.all k h (start k h)
      back {k} (in_turn {i = i} l g h) = r.closed k i (back g) h

      low : goes 16 first reads k ≡ true → k < 16
      low h = cause (gone_cause 16 first reads 16 k h)
        where
          cause : (first k ≡ true) ⊎ ((i : ℕ) × (reads k i ≡ true)) → k < 16
          cause (inl f) = jobs k (start k f)
          cause (inr x) = jobs k (known k x.0 x.1)

      same : (gone k ≡ true) ⊎ (gone k ≡ false) → (goes 16 first reads k ≡ true) ⊎ (goes 16 first reads k ≡ false)
          → gone k ≡ goes 16 first reads k
      same (inl a) b = a ∙ sym (goes_gone 16 first reads (r.only k a)).1
      same (inr a) (inl b) =
          absurd (let x = back (gone_only 16 first reads k (low b) b) in let z : ◌≡◌ {A = ℕ} 0 1 = grind (arith, nat_tests) in omega arith)
      same (inr a) (inr b) = a ∙ sym b
