-- Who has a pending access to a parameter, and so is pending.
use Rattle.std.proofs.Common.{◌≡◌, ℕ, ◌<◌, true, false, not, ◌&&◌, ◌||◌, eqb, ◌⊎◌, List, sym, refl, ap, ◌∙◌, inl, inr, arith}
use Rattle.std.proofs.lemmas.Bool.{cases_eq, eq-eqb, ne_eqb}
use Rattle.std.proofs.lemmas.Bool.Decides.{nat_tests}
use Rattle.jobs.specs.declared.set.JobSet.{JobSet}
use Rattle.jobs.specs.Jobs.{member}
use Rattle.jobs.proofs.Sets.{any_from, any_none, any_more, any_and}
use Rattle.jobs.proofs.Jobs.{member_none}
use Rattle.open_manager.specs.declared.OpenTables.{OpenTables}
use Rattle.open_manager.specs.declared.records.Record.{Record}
use Rattle.open_manager.specs.Lists.{among}
use Rattle.open_manager.specs.Writers.{listed}
use Rattle.open_manager.specs.Records.{record_at, holds, holds_any, Unused, ReaderNoted, WriterNoted, JobLeft}
use Rattle.open_manager.specs.Order.{is_pending}
use Rattle.open_manager.specs.Open.{record_in}
use Rattle.open_manager.proofs.Lists.{among_leaving}

-- whoever has a pending access to a parameter is pending
pub holder_pending : (t : OpenTables) (p : ℕ) (e : Record) (k : ℕ) → e ≡ record_in t p → p < t.count.number → holds e k ≡ true
    → is_pending t.order k ≡ true
holder_pending t p e k is l h =
    t.exact k ∙ any_from (λ q. holds (record_in t q) k) t.count.number p l (ap (λ (x : Record). holds x k) (sym is) ∙ h)

module _ (before after : List Record) (n p j : ℕ) (l : p < n) where
  -- j has an access more, to parameter p
  holds_more : ((k : ℕ) → holds (record_at after p) k ≡ (holds (record_at before p) k || eqb k j))
      → ((q : ℕ) → (q ≡ p → ⊥) → record_at after q ≡ record_at before q) → (k : ℕ) → holds_any after n k ≡ (holds_any before n k || eqb k j)
  holds_more here others k =
      let x = any_more (λ q. holds (record_at before q) k) (λ q. holds (record_at after q) k) n p (eqb k j) (λ q. at q (cases_eq q p)) in
      grind (arith, nat_tests)
    where
      at : (q : ℕ) → (q ≡ p) ⊎ (q ≡ p → ⊥) → holds (record_at after q) k ≡ (holds (record_at before q) k || (eqb q p && eqb k j))
      at q (inl e) = let t = eq-eqb p p refl in rw e (here k ∙ (grind (arith, nat_tests)))
      at q (inr ne) = let f = ne_eqb q p ne in ap (λ (x : Record). holds x k) (others q ne) ∙ (grind (arith, nat_tests))

  pub holds_read : ReaderNoted before p j after → (k : ℕ) → holds_any after n k ≡ (holds_any before n k || eqb k j)
  holds_read r = holds_more (λ k.
      let x = r.here.readers k in
      let y : among (listed (record_at after p).writers) k ≡ among (listed (record_at before p).writers) k =
      ap (λ w. among (listed w) k) r.here.writers in
      grind (arith, nat_tests)) r.others

  pub holds_write : WriterNoted before p j after → (k : ℕ) → holds_any after n k ≡ (holds_any before n k || eqb k j)
  holds_write r = holds_more (λ k.
      let x : member (record_at after p).readers k ≡ member (record_at before p).readers k = ap (λ (s : JobSet). member s k) r.here.readers in
      let y : among (listed (record_at after p).writers) k ≡ _ = ap (λ (js : List ℕ). among js k) r.here.writers in
      let z = among_leaving (λ i. eqb i j) (listed (record_at before p).writers) k in
      grind (arith, nat_tests)) r.others

-- j has no access any more
pub holds_left : (before after : List Record) (n j : ℕ) → JobLeft before j after → (k : ℕ) → holds_any after n k ≡ (holds_any before n k && not (eqb k j))
holds_left before after n j l k =
    any_and (λ q. holds (record_at before q) k) (λ q. holds (record_at after q) k) n (not (eqb k j)) (λ q.
    let x = (l q).readers k in
    let y : among (listed (record_at after q).writers) k ≡ _ = ap (λ (js : List ℕ). among js k) (l q).writers in
    let z = among_leaving (λ i. eqb i j) (listed (record_at before q).writers) k in
    grind (arith, nat_tests))

-- nobody has an access where no record was accessed
pub holds_none : (entries : List Record) (n : ℕ) → ((p : ℕ) → Unused (record_at entries p)) → (k : ℕ) → holds_any entries n k ≡ false
holds_none entries n u k =
    any_none (λ p. holds (record_at entries p) k) n (λ p l.
    let x : member (record_at entries p).readers k ≡ false = ap (λ (s : JobSet). member s k) (u p).readers ∙ member_none k in
    let y : among (listed (record_at entries p).writers) k ≡ false = ap (λ (js : List ℕ). among js k) (u p).writers in
    grind (arith, nat_tests))
