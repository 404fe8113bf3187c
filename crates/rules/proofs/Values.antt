-- Facts about the value at a place of a list.
use Rattle.std.proofs.Common.{◌≡◌, ℕ, zero, suc, ◌+◌, ◌<◌, ◌≤◌, Bool, true, not, ◌&&◌, ◌≢◌, List, [], ◌∷◌, length, get_or, take, set, Some, None, sym, refl, ap, ◌∙◌, arith}
use Rattle.std.specs.List.{slice_get}
use Rattle.std.specs.Option.{unwrap_or}
use Rattle.std.proofs.lemmas.Option.{slice_get_read}
use Rattle.std.proofs.lemmas.Bool.Decides.{nat_tests}
use Rattle.jobs.specs.Sets.{names}
use Rattle.rules.specs.Manager.{Writes, write_by, wrote, last_writer, without}
use Rattle.rules.specs.Changes.{settled_from}

module _ {V : Type 0} where
  -- what was read from a place is the value there
  pub value_read : (xs : List V) (i : ℕ) (x : V) → i < length xs → x ≡ get_or xs i x → slice_get xs i ≡ Some x
  value_read xs i x h e = slice_get_read xs (length xs) i x refl h e

  -- there is a value at each place
  pub value_some : (xs : List V) (i : ℕ) → i < length xs → (v : V) × (slice_get xs i ≡ Some v)
  value_some [] i h = absurd (let b : ⊥ = omega arith in b)
  value_some (x ∷ xs) zero h = (x, refl)
  value_some (x ∷ xs) (suc i) h = value_some xs i (omega arith)

  pub value_take : (n : ℕ) (xs : List V) (i : ℕ) → i < n → slice_get (take n xs) i ≡ slice_get xs i
  value_take zero xs i h = absurd (let b : ⊥ = omega arith in b)
  value_take (suc n) [] i h = refl
  value_take (suc n) (x ∷ xs) zero h = refl
  value_take (suc n) (x ∷ xs) (suc i) h = value_take n xs i (omega arith)

  pub value_take_past : (n : ℕ) (xs : List V) (i : ℕ) → n ≤ i → slice_get (take n xs) i ≡ None
  value_take_past zero xs i h = refl
  value_take_past (suc n) [] i h = refl
  value_take_past (suc n) (x ∷ xs) zero h = absurd (let b : ⊥ = omega arith in b)
  value_take_past (suc n) (x ∷ xs) (suc i) h = value_take_past n xs i (omega arith)

  pub value_set_same : (xs : List V) (i : ℕ) (v : V) → i < length xs → slice_get (set xs i v) i ≡ Some v
  value_set_same [] i v h = absurd (let b : ⊥ = omega arith in b)
  value_set_same (x ∷ xs) zero v h = refl
  value_set_same (x ∷ xs) (suc i) v h = value_set_same xs i v (omega arith)

  pub value_set_other : (xs : List V) (i k : ℕ) (v : V) → k ≢ i → slice_get (set xs i v) k ≡ slice_get xs k
  value_set_other [] i k v n = refl
  value_set_other (x ∷ xs) zero zero v n = absurd (n refl)
  value_set_other (x ∷ xs) zero (suc k) v n = refl
  value_set_other (x ∷ xs) (suc i) zero v n = refl
  value_set_other (x ∷ xs) (suc i) (suc k) v n = value_set_other xs i k v (λ e. n (ap suc e))

  -- two lists with the same values at all places are the same
  pub value_ext : (xs ys : List V) → ((k : ℕ) → slice_get xs k ≡ slice_get ys k) → xs ≡ ys
  value_ext [] [] e = refl
  value_ext [] (y ∷ ys) e = absurd (let h = e 0 in let z : ◌≡◌ {A = ℕ} 0 1 = cc in omega arith)
  value_ext (x ∷ xs) [] e = absurd (let h = e 0 in let z : ◌≡◌ {A = ℕ} 0 1 = cc in omega arith)
  value_ext (x ∷ xs) (y ∷ ys) e =
      let head : x ≡ y = let h = e 0 in cc in
      let tail : xs ≡ ys = value_ext xs ys (λ k. e (suc k)) in
      cc

  -- the settled values once j's pending writes are settled
  pub value_settled : (j : ℕ) (writes : ℕ → Writes V) (p : ℕ) (xs : List V) (k : ℕ)
      → slice_get (settled_from j writes p xs) k ≡ elim (slice_get xs k) [ None ↦ None | Some v ↦ Some (unwrap_or (write_by j (writes (p + k))) v) ]
  value_settled j writes p [] k = refl
  value_settled j writes p (x ∷ xs) zero =
      let e : p + 0 ≡ p = omega arith in ap (λ (q : ℕ). Some (unwrap_or (write_by j (writes q)) x)) (sym e)
  value_settled j writes p (x ∷ xs) (suc k) =
      let e : suc p + k ≡ p + suc k = omega arith in
      value_settled j writes (suc p) xs k
      ∙ ap (λ (q : ℕ). elim (slice_get xs k) [ None ↦ None | Some v ↦ Some (unwrap_or (write_by j (writes q)) v) ]) e

  -- as many as before
  pub length_settled : (j : ℕ) (writes : ℕ → Writes V) (p : ℕ) (xs : List V) → length (settled_from j writes p xs) ≡ length xs
  length_settled j writes p [] = refl
  length_settled j writes p (x ∷ xs) = ap suc (length_settled j writes (suc p) xs)

  -- who still has a pending write once the jobs of `gone` have left
  pub wrote_without : (gone : ℕ → Bool) (ws : Writes V) (j : ℕ) → wrote j (without gone ws) ≡ (wrote j ws && not (gone j))
  wrote_without gone [] j = refl
  wrote_without gone (w ∷ ws) j = let ih = wrote_without gone ws j in grind (arith, nat_tests)

  -- the job of the last pending write has a pending write
  pub last_wrote : (ws : Writes V) (i : ℕ) → names (last_writer ws) i ≡ true → wrote i ws ≡ true
  last_wrote [] i h = absurd (let z : ◌≡◌ {A = ℕ} 0 1 = cc in omega arith)
  last_wrote (w ∷ ws) i h = grind (arith, nat_tests)
