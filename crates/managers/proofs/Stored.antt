-- The pending writes of a parameter, by the jobs that wrote and the values at their places.
use Rattle.std.proofs.Common.{◌≡◌, ℕ, Bool, true, false, cond, eqb, ◌≢◌, ◌⊎◌, List, [], ◌∷◌, set, is_some, Some, None, Option, sym, refl, ap, ◌∙◌, ap₂, inl, inr, arith}
use Rattle.std.specs.List.{slice_get}
use Rattle.std.proofs.lemmas.Bool.{cases_eq, eq-eqb, ne_eqb}
use Rattle.std.proofs.lemmas.Bool.Decides.{nat_tests}
use Rattle.rules.specs.Manager.{Writes, write_by, wrote, last_writer, last_or, without}
use Rattle.rules.proofs.Values.{value_set_other}
use Rattle.managers.specs.Memory.{place}
use Rattle.managers.specs.Tables.{with_write, writes_with}

-- the pending writes of a parameter, as tables hold them
abbrev Noted : Type 0
Noted = Writes (Unit {0})

module _ {V : Type 0} (n p : ℕ) where
  -- the writes are those of the jobs that stay, once others have left
  pub writes_without : (vs : List V) (gone : ℕ → Bool) (ws : Noted) → without gone (writes_with n p vs ws) ≡ writes_with n p vs (without gone ws)
  writes_without vs gone [] = refl
  writes_without vs gone (w ∷ ws) =
      left (slice_get vs (place n p w.0)) (gone w.0) refl
      ∙ ap (λ (xs : Writes V). cond (gone w.0) xs (with_write w.0 (slice_get vs (place n p w.0)) xs)) (writes_without vs gone ws)
      ∙ sym (right (gone w.0))
    where
      left : (o : Option V) (b : Bool) → gone w.0 ≡ b
          → without gone (with_write w.0 o (writes_with n p vs ws)) ≡ cond b (without gone (writes_with n p vs ws)) (with_write w.0 o (without gone (writes_with n p vs ws)))
      left None true h = refl
      left None false h = refl
      left (Some v) true h = ap (λ (b : Bool). cond b (without gone (writes_with n p vs ws)) ((w.0, v) ∷ without gone (writes_with n p vs ws))) h
      left (Some v) false h = ap (λ (b : Bool). cond b (without gone (writes_with n p vs ws)) ((w.0, v) ∷ without gone (writes_with n p vs ws))) h

      right : (b : Bool) → writes_with n p vs (cond b (without gone ws) (w ∷ without gone ws))
          ≡ cond b (writes_with n p vs (without gone ws)) (with_write w.0 (slice_get vs (place n p w.0)) (writes_with n p vs (without gone ws)))
      right true = refl
      right false = refl

  -- values elsewhere make no difference
  pub writes_same : (vs us : List V) (ws : Noted) → ((k : ℕ) → wrote k ws ≡ true → slice_get us (place n p k) ≡ slice_get vs (place n p k))
      → writes_with n p us ws ≡ writes_with n p vs ws
  writes_same vs us [] e = refl
  writes_same vs us (w ∷ ws) e =
      ap₂ (λ (o : Option V) (xs : Writes V). with_write w.0 o xs) (e w.0 (let t = eq-eqb w.0 w.0 refl in grind (arith, nat_tests)))
      (writes_same vs us ws (λ k h. e k (grind (arith, nat_tests))))

  pub writes_set : (vs : List V) (i : ℕ) (v : V) (ws : Noted) → ((k : ℕ) → wrote k ws ≡ true → place n p k ≢ i)
      → writes_with n p (set vs i v) ws ≡ writes_with n p vs ws
  writes_set vs i v ws apart = writes_same vs (set vs i v) ws (λ k h. value_set_other vs i (place n p k) v (apart k h))

  -- j's write has the value at its place
  pub write_by_is : (vs : List V) (j : ℕ) (ws : Noted) → write_by j (writes_with n p vs ws) ≡ cond (wrote j ws) (slice_get vs (place n p j)) None
  write_by_is vs j [] = refl
  write_by_is vs j (w ∷ ws) = go (cases_eq j w.0) (write_by_is vs j ws)
    where
      own : (o : Option V) (b : Bool) → write_by j (writes_with n p vs ws) ≡ cond b o None → write_by j (with_write j o (writes_with n p vs ws)) ≡ o
      own None true h = h
      own None false h = h
      own (Some v) b h = let t = eq-eqb j j refl in grind (arith, nat_tests)

      other : (o : Option V) → eqb j w.0 ≡ false → write_by j (with_write w.0 o (writes_with n p vs ws)) ≡ write_by j (writes_with n p vs ws)
      other None f = refl
      other (Some v) f = grind (arith, nat_tests)

      here : (b : Bool) → eqb j w.0 ≡ b → wrote j (w ∷ ws) ≡ cond b true (wrote j ws)
      here true h = ap (λ (b : Bool). is_some (cond b (Some w.1) (write_by j ws))) h
      here false h = ap (λ (b : Bool). is_some (cond b (Some w.1) (write_by j ws))) h

      go : (j ≡ w.0) ⊎ (j ≡ w.0 → ⊥) → write_by j (writes_with n p vs ws) ≡ cond (wrote j ws) (slice_get vs (place n p j)) None
          → write_by j (with_write w.0 (slice_get vs (place n p w.0)) (writes_with n p vs ws)) ≡ cond (wrote j (w ∷ ws)) (slice_get vs (place n p j)) None
      go (inl e) ih =
          ap (λ (k : ℕ). write_by j (with_write k (slice_get vs (place n p k)) (writes_with n p vs ws))) (sym e)
          ∙ own (slice_get vs (place n p j)) (wrote j ws) ih
          ∙ ap (λ (b : Bool). cond b (slice_get vs (place n p j)) None) (sym (here true (eq-eqb j w.0 e)))
      go (inr ne) ih =
          other (slice_get vs (place n p w.0)) (ne_eqb j w.0 ne) ∙ ih
          ∙ ap (λ (b : Bool). cond b (slice_get vs (place n p j)) None) (sym (here false (ne_eqb j w.0 ne)))

  -- each job that wrote has a value at its place
  abbrev pub Valued : List V → Noted → Type 0
  Valued vs ws = (k : ℕ) → wrote k ws ≡ true → (v : V) × (slice_get vs (place n p k) ≡ Some v)

  pub wrote_is : (vs : List V) (ws : Noted) → Valued vs ws → (k : ℕ) → wrote k (writes_with n p vs ws) ≡ wrote k ws
  wrote_is vs ws some k = ap is_some (write_by_is vs k ws) ∙ go (wrote k ws) refl
    where
      go : (b : Bool) → wrote k ws ≡ b → is_some (cond b (slice_get vs (place n p k)) None) ≡ b
      go true h = ap is_some (some k h).1
      go false h = refl

  pub last_writer_is : (vs : List V) (ws : Noted) → Valued vs ws → last_writer (writes_with n p vs ws) ≡ last_writer ws
  last_writer_is vs [] some = refl
  last_writer_is vs (w ∷ ws) some =
      ap (λ (o : Option V). last_writer (with_write w.0 o (writes_with n p vs ws))) (some w.0 (let t = eq-eqb w.0 w.0 refl in grind (arith, nat_tests))).1

  -- what a read answers: the value at the place of the last writer, or the settled value where there is none
  pub last_written : (vs : List V) (ws : Noted) (v x : V) (j : ℕ) → last_writer ws ≡ Some j → slice_get vs (place n p j) ≡ Some x
      → last_or v (writes_with n p vs ws) ≡ x
  last_written vs [] v x j h e = absurd (let z : ◌≡◌ {A = ℕ} 0 1 = cc in omega arith)
  last_written vs (w ∷ ws) v x j h e =
      let same : w.0 ≡ j = cc in
      ap (λ (o : Option V). last_or v (with_write w.0 o (writes_with n p vs ws))) (ap (λ (k : ℕ). slice_get vs (place n p k)) same ∙ e)

  pub last_settled : (vs : List V) (ws : Noted) (v : V) → last_writer ws ≡ None → last_or v (writes_with n p vs ws) ≡ v
  last_settled vs [] v h = refl
  last_settled vs (w ∷ ws) v h = absurd (let z : ◌≡◌ {A = ℕ} 0 1 = cc in omega arith)
