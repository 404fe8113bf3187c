-- Tables of entries: one entry at each place, and a loop that changes each in turn.
use Rattle.std.proofs.Common.{◌≡◌, ℕ, ◌+◌, ◌<◌, ◌≤◌, List, length, get_or, set, replicate, ◌∙◌, arith, length-set}
use Rattle.std.proofs.lemmas.List.{get_or-set_same, get_or-set_other, get_or_default, get_or_past, get_or-replicate, length-replicate}

-- what holds of an entry, and of the default, holds everywhere in a table that has this entry at each place
pub repeated : {X : Type 0} (d : X) (P : X → Type 0) (n : ℕ) (e : X) → P e → P d → (p : ℕ) → P (get_or (replicate n e) p d)
repeated d P n e here past p = grind (arith, get_or-replicate n p e d, get_or_past (replicate n e) p d, length-replicate n e)

module _ {X : Type 0} (d : X) (R : X → X → Type 0) where
  -- the entries below i were changed as R says, and those from i on are as they were
  abbrev pub Walked : List X → List X → ℕ → Type 0
  Walked before now i =
      (length now ≡ length before)
      × ((k : ℕ) → k < i → R (get_or before k d) (get_or now k d))
      × ((k : ℕ) → i ≤ k → get_or now k d ≡ get_or before k d)

  pub walked_more : (before now : List X) (i : ℕ) (e r : X) → i < length now → Walked before now i → R (get_or now i e) r
      → Walked before (set now i r) (i + 1)
  walked_more before now i e r l w h = (
    length-set now i r ∙ w.0,
    λ k m. let old = get_or_default now i e d l in let changed = w.1 k in let same = w.2 k in
        grind (arith, get_or-set_same now i r d l, get_or-set_other now i k r d),
    λ k m. let same = w.2 k in grind (arith, get_or-set_other now i k r d),
  )

  -- at the end each entry was changed so, and past the end where the default was
  pub walked_all : (before now : List X) (i : ℕ) → length now ≤ i → R d d → Walked before now i
      → (k : ℕ) → R (get_or before k d) (get_or now k d)
  walked_all before now i l h w k =
      let long = w.0 in let changed = w.1 k in grind (arith, get_or_past before k d, get_or_past now k d)
