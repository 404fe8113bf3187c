-- A loop over the parameters that settles the pending writes of a job in memory, and what it leaves there.
use Rattle.std.proofs.Common.{◌≡◌, ℕ, ◌+◌, ◌*◌, ◌<◌, ◌≤◌, Bool, true, false, cond, ◌&&◌, ltb, ◌≢◌, ◌⊎◌, List, length, take, set, Some, None, Option, sym, refl, ap, ◌∙◌, ap₂, inl, inr, arith, length-set}
use Rattle.std.specs.List.{slice_get}
use Rattle.std.specs.Option.{unwrap_or}
use Rattle.std.proofs.lemmas.Bool.{cases_eq, cases_lt, lt-ltb, le-ltb}
use Rattle.rules.specs.Manager.{Writes, write_by}
use Rattle.rules.specs.Changes.{settled_from}
use Rattle.rules.proofs.Values.{value_some, value_take, value_take_past, value_set_same, value_set_other, value_ext, value_settled}
use Rattle.managers.specs.Memory.{place, Settles}

module _ {V : Type 0} (wrote : ℕ → Bool) (n j : ℕ) (before : List V) where
  -- the value of parameter k once it is settled
  abbrev settled_at : ℕ → Option V
  settled_at k = cond (wrote k) (slice_get before (place n k j)) (slice_get before k)

  -- the parameters below i are settled, and all else is as it was
  abbrev pub Settling : List V → ℕ → Type 0
  Settling now i =
      (length now ≡ length before)
      × ((k : ℕ) → k < i → slice_get now k ≡ settled_at k)
      × ((k : ℕ) → i ≤ k → slice_get now k ≡ slice_get before k)

  more : (now : List V) (i : ℕ) (after : List V) → Settling now i → length after ≡ length now → slice_get after i ≡ settled_at i
      → ((k : ℕ) → k ≢ i → slice_get after k ≡ slice_get now k) → Settling after (i + 1)
  more now i after s len here others = (
    len ∙ s.0,
    λ k l. below k l (cases_eq k i),
    λ k l. let ne : k ≢ i = omega arith in others k ne ∙ s.2 k (omega arith),
  )
    where
      below : (k : ℕ) → k < i + 1 → (k ≡ i) ⊎ (k ≡ i → ⊥) → slice_get after k ≡ settled_at k
      below k l (inl e) = ap (λ (k : ℕ). slice_get after k) e ∙ here ∙ ap settled_at (sym e)
      below k l (inr ne) = others k ne ∙ s.1 k (omega arith)

  -- a parameter that the job did not write
  pub settling_skip : (now : List V) (i : ℕ) → Settling now i → wrote i ≡ false → Settling now (i + 1)
  settling_skip now i s w =
      more now i now s refl (s.2 i (omega arith) ∙ ap (λ (b : Bool). cond b (slice_get before (place n i j)) (slice_get before i)) (sym w)) (λ k ne. refl)

  -- a parameter that the job wrote
  pub settling_more : (now : List V) (i : ℕ) (x : V) → i < n → n ≤ length now → Settling now i → wrote i ≡ true
      → slice_get now (place n i j) ≡ Some x → Settling (set now i x) (i + 1)
  settling_more now i x l room s w e =
      more now i (set now i x) s (length-set now i x)
      (value_set_same now i x (omega arith) ∙ sym e ∙ s.2 (place n i j) (omega arith)
      ∙ ap (λ (b : Bool). cond b (slice_get before (place n i j)) (slice_get before i)) (sym w))
      (λ k ne. value_set_other now i k x ne)

  pub settling_done : (now : List V) (i : ℕ) → i ≡ n → Settling now i → Settles wrote n j before now
  settling_done now i end s = record { len = s.0; values = λ k. at k (cases_lt k n) }
    where
      at : (k : ℕ) → (k < n) ⊎ (n ≤ k) → slice_get now k ≡ cond (ltb k n && wrote k) (slice_get before (place n k j)) (slice_get before k)
      at k (inl l) =
          s.1 k (omega arith) ∙ ap (λ (b : Bool). cond (b && wrote k) (slice_get before (place n k j)) (slice_get before k)) (sym (lt-ltb k n l))
      at k (inr l) =
          s.2 k (omega arith) ∙ ap (λ (b : Bool). cond (b && wrote k) (slice_get before (place n k j)) (slice_get before k)) (sym (le-ltb k n l))

module _ {V : Type 0} {wrote : ℕ → Bool} {n j : ℕ} {vs after : List V} (s : Settles wrote n j vs after) where
  -- all places but those of the settled values are as they were
  pub settle_past : (k : ℕ) → n ≤ k → slice_get after k ≡ slice_get vs k
  settle_past k h =
      s.values k ∙ ap (λ (b : Bool). cond (b && wrote k) (slice_get vs (place n k j)) (slice_get vs k)) (le-ltb k n h)

  -- the settled values are those of the rule, where each pending write of j stands at its place
  pub settle_front : (writes : ℕ → Writes V) → 32 * n ≤ length vs → j < 16
      → ((p : ℕ) → p < n → write_by j (writes p) ≡ cond (wrote p) (slice_get vs (place n p j)) None)
      → take n after ≡ settled_from j writes 0 (take n vs)
  settle_front writes room low by = value_ext _ _ (λ k. at k (cases_lt k n))
    where
      -- a settled value after the settling, from that before it
      settles : ℕ → Option V → Option V
      settles k o = elim o [ None ↦ None | Some v ↦ Some (unwrap_or (write_by j (writes (0 + k))) v) ]

      pick : (b : Bool) (x v : V) → cond b (Some x) (Some v) ≡ Some (unwrap_or (cond b (Some x) None) v)
      pick true x v = refl
      pick false x v = refl

      at : (k : ℕ) → (k < n) ⊎ (n ≤ k) → slice_get (take n after) k ≡ slice_get (settled_from j writes 0 (take n vs)) k
      at k (inl l) =
          let b : Bool = wrote k in
          let v = value_some vs k (omega arith) in
          let x = value_some vs (place n k j) (omega arith) in
          value_take n after k l
          ∙ s.values k
          ∙ ap (λ (c : Bool). cond (c && b) (slice_get vs (place n k j)) (slice_get vs k)) (lt-ltb k n l)
          ∙ ap₂ (λ (y z : Option V). cond b y z) x.1 v.1
          ∙ pick b x.0 v.0
          ∙ ap (λ (y : Option V). Some (unwrap_or (cond b y None) v.0)) (sym x.1)
          ∙ ap (λ (y : Option V). Some (unwrap_or y v.0)) (sym (by k l))
          ∙ ap (λ (q : ℕ). Some (unwrap_or (write_by j (writes q)) v.0)) (let e : k ≡ 0 + k = omega arith in e)
          ∙ sym (value_settled j writes 0 (take n vs) k ∙ ap (settles k) (value_take n vs k l ∙ v.1))
      at k (inr l) =
          value_take_past n after k l
          ∙ sym (value_settled j writes 0 (take n vs) k ∙ ap (settles k) (value_take_past n vs k l))
