-- Tables with the values in memory follow the rules where the tables alone do.
use Rattle.std.proofs.Common.{◌≡◌, ℕ, ◌*◌, ◌<◌, ◌≤◌, Bool, true, cond, not, ◌&&◌, ◌||◌, eqb, ◌≢◌, ◌⊎◌, List, ◌∷◌, length, set, Some, None, Option, sym, refl, ap, ◌∙◌, inl, inr, arith, length-take-le}
use Rattle.std.specs.List.{slice_get}
use mathlib.Core.Path.{fun_ext}
use lib.Seq.{take-set-le}
use Rattle.std.proofs.lemmas.Bool.{cases_eq, eq-eqb, ne_eqb}
use Rattle.std.proofs.lemmas.Bool.Decides.{nat_tests}
use Rattle.jobs.specs.Sets.{names, lowest, any_below}
use Rattle.jobs.proofs.Sets.{any_same}
use Rattle.rules.specs.declared.access.Access.{Access}
use Rattle.rules.specs.declared.access.Access.TheVariants.{Read, Write}
use Rattle.rules.specs.Manager.{Manager, Writes, wrote, accesses, pending, conflicts_among, conflicts, without}
use Rattle.rules.specs.Changes.{read, write, settle, leave}
use Rattle.rules.specs.Calls.{Admits, stops}
use Rattle.rules.proofs.Values.{value_some, value_set_same, wrote_without}
use Rattle.rules.proofs.Same.{same}
use Rattle.managers.specs.Memory.{place, Settles}
use Rattle.managers.specs.Tables.{Held, with_write, writes_with, with_values}
use Rattle.managers.proofs.Settling.{settle_front, settle_past}
use Rattle.managers.proofs.Stored.{writes_without, writes_same, writes_set, wrote_is, last_writer_is, write_by_is}

module _ {V : Type 0} (m : Held) (vs : List V) (room : 32 * length m.settled ≤ length vs) (low : (p k : ℕ) → wrote k (m.writes p) ≡ true → k < 16) where
  abbrev pub n : ℕ
  n = length m.settled

  abbrev pub filled : Manager V
  filled = with_values m vs

  -- there are as many parameters
  pub count_is : length filled.settled ≡ n
  count_is = length-take-le n vs (omega arith)

  -- each job that writes has a value at its place
  valued : (p : ℕ) → p < n → (k : ℕ) → wrote k (m.writes p) ≡ true → (v : V) × (slice_get vs (place n p k) ≡ Some v)
  valued p l k h = let x = low p k h in value_some vs (place n p k) (omega arith)

  pub who_wrote : (p k : ℕ) → p < n → wrote k (filled.writes p) ≡ wrote k (m.writes p)
  who_wrote p k l = wrote_is n p vs (m.writes p) (valued p l) k

  -- the same jobs conflict
  pub conflicts_are : (j p : ℕ) (a : Access) (k : ℕ) → p < n → conflicts filled j p a k ≡ conflicts m j p a k
  conflicts_are j p a k l =
      ap (λ (f : ℕ → Bool). conflicts_among (m.readers p) f j a k) (fun_ext (λ i. who_wrote p i l))

  pub stops_are : (admits : Admits) (j p : ℕ) (a : Access) → p < n → stops admits filled j p a ≡ stops admits m j p a
  stops_are admits j p a l =
      ap (λ (f : ℕ → Bool). elim (lowest f 16) [ None ↦ None | Some k ↦ cond (admits j p a) None (Some k) ])
      (fun_ext (λ k. conflicts_are j p a k l))

  -- the same jobs are pending
  pub pending_are : (j : ℕ) → pending filled j ≡ pending m j
  pending_are j =
      ap (λ (c : ℕ). any_below (λ p. accesses filled j p) c) count_is
      ∙ any_same _ _ n (λ p l. ap (λ (b : Bool). m.readers p j || b) (who_wrote p j l))

  -- a read
  pub read_filled : (j p : ℕ) → p < n → with_values (read j p m) vs ≡ read j p filled
  read_filled j p l = same (with_values (read j p m) vs) (read j p filled) (record {
    settled = refl;
    writes = λ q. refl;
    readers = λ q k. refl;
    precedes = λ i k. ap (λ (b : Bool). m.precedes i k || (eqb k j && b)) (sym (conflicts_are j p Read i l));
    reads_from = λ k i.
        ap (λ (o : Option ℕ). m.reads_from k i || (eqb k j && not (eqb i j) && names o i))
        (sym (last_writer_is n p vs (m.writes p) (valued p l)));
    voted = λ k. refl;
  })

  -- a write, whose value is stored at its place
  pub write_filled : (j p : ℕ) (v : V) → j < 16 → p < n → with_values (write j p tt m) (set vs (place n p j) v) ≡ write j p v filled
  write_filled j p v small l = same (with_values (write j p tt m) ws) (write j p v filled) (record {
    settled = take-set-le n vs (place n p j) v (omega arith);
    writes = λ q. writes q (cases_eq q p);
    readers = λ q k. refl;
    precedes = λ i k. ap (λ (b : Bool). m.precedes i k || (eqb k j && b)) (sym (conflicts_are j p Write i l));
    reads_from = λ k i. refl;
    voted = λ k. refl;
  })
    where
      ws : List V
      ws = set vs (place n p j) v

      -- the job's own write is gone from among the others
      others : Writes (Unit {0})
      others = without (λ k. eqb k j) (m.writes p)

      not_own : (k : ℕ) → wrote k others ≡ true → place n p k ≢ place n p j
      not_own k h e =
          let x = wrote_without (λ i. eqb i j) (m.writes p) k in
          let q : k ≡ j = omega arith in
          let y = eq-eqb k j q in
          let z : ◌≡◌ {A = ℕ} 0 1 = grind (arith, nat_tests) in
          omega arith

      stored : slice_get ws (place n p j) ≡ Some v
      stored = value_set_same vs (place n p j) v (omega arith)

      writes : (q : ℕ) → (q ≡ p) ⊎ (q ≡ p → ⊥)
          → writes_with n q ws (cond (eqb q p) ((j, tt) ∷ others) (m.writes q))
          ≡ cond (eqb q p) ((j, v) ∷ without (λ k. eqb k j) (filled.writes p)) (filled.writes q)
      writes q (inl e) =
          rw e (ap (λ (b : Bool). writes_with n p ws (cond b ((j, tt) ∷ others) (m.writes p))) (eq-eqb p p refl)
          ∙ ap (λ (o : Option V). with_write j o (writes_with n p ws others)) stored
          ∙ ap (λ (xs : Writes V). (j, v) ∷ xs)
          (writes_set n p vs (place n p j) v others not_own ∙ sym (writes_without n p vs (λ k. eqb k j) (m.writes p)))
          ∙ ap (λ (b : Bool). cond b ((j, v) ∷ without (λ k. eqb k j) (filled.writes p)) (filled.writes p)) (sym (eq-eqb p p refl)))
      writes q (inr ne) =
          ap (λ (b : Bool). writes_with n q ws (cond b ((j, tt) ∷ others) (m.writes q))) (ne_eqb q p ne)
          ∙ writes_set n q vs (place n p j) v (m.writes q)
          (λ k h. let lk = low q k h in let d : place n q k ≢ place n p j = λ e. ne (omega arith) in d)
          ∙ ap (λ (b : Bool). cond b ((j, v) ∷ without (λ k. eqb k j) (filled.writes p)) (filled.writes q)) (sym (ne_eqb q p ne))

  -- jobs leave, and no value changes
  pub leave_filled : (gone : ℕ → Bool) → with_values (leave gone m) vs ≡ leave gone filled
  leave_filled gone = same (with_values (leave gone m) vs) (leave gone filled) (record {
    settled = refl;
    writes = λ p. sym (writes_without n p vs gone (m.writes p));
    readers = λ p k. refl;
    precedes = λ i k. refl;
    reads_from = λ k i. refl;
    voted = λ k. refl;
  })

  -- the pending writes of a job become settled values, and then jobs leave
  pub settle_filled : (j : ℕ) (gone : ℕ → Bool) (after : List V) → j < 16 → Settles (λ p. wrote j (m.writes p)) n j vs after
      → with_values (leave gone m) after ≡ leave gone (settle j filled)
  settle_filled j gone after small s = same (with_values (leave gone m) after) (leave gone (settle j filled)) (record {
    settled = settle_front s filled.writes room small (λ p l. write_by_is n p vs j (m.writes p));
    writes = λ p.
        writes_same n p vs after (without gone (m.writes p)) (λ k h. settle_past s (place n p k) (omega arith))
        ∙ sym (writes_without n p vs gone (m.writes p));
    readers = λ p k. refl;
    precedes = λ i k. refl;
    reads_from = λ k i. refl;
    voted = λ k. refl;
  })
