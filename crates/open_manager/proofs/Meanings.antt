-- What each operation on the tables of an open manager does to what they hold.
use Rattle.std.proofs.Common.{◌≡◌, ℕ, Bool, not, ◌&&◌, ◌||◌, eqb, ◌⊎◌, List, replicate, None, Option, sym, refl, ap, ◌∙◌, inl, inr, arith}
use mathlib.Core.Path.{fun_ext}
use Rattle.std.proofs.lemmas.List.{length-replicate}
use Rattle.std.proofs.lemmas.Bool.{cases_eq, eq-eqb, ne_eqb}
use Rattle.std.proofs.lemmas.Bool.Decides.{nat_tests}
use Rattle.jobs.specs.declared.set.JobSet.{JobSet}
use Rattle.jobs.specs.Sets.{names, any_below}
use Rattle.jobs.specs.Jobs.{member}
use Rattle.jobs.proofs.Sets.{any_same}
use Rattle.rules.specs.declared.access.Access.{Access}
use Rattle.rules.specs.declared.access.Access.TheVariants.{Read, Write}
use Rattle.rules.specs.Manager.{accesses, pending, conflicts_among, conflicts}
use Rattle.rules.specs.Changes.{read, write, leave}
use Rattle.rules.proofs.Same.{same}
use Rattle.managers.specs.declared.memory.Count.{Count}
use Rattle.managers.specs.Tables.{Held}
use Rattle.open_manager.specs.declared.OpenTables.{OpenTables}
use Rattle.open_manager.specs.declared.order.Order.{Order}
use Rattle.open_manager.specs.declared.records.Record.{Record}
use Rattle.open_manager.specs.Lists.{last_listed}
use Rattle.open_manager.specs.Writers.{listed}
use Rattle.open_manager.specs.Records.{record_at, rivals, ReaderNoted, WriterNoted}
use Rattle.open_manager.specs.Order.{precedes, reads_from, is_pending, has_voted, WithAccess}
use Rattle.open_manager.specs.Laws.{wrote_listed}
use Rattle.open_manager.specs.Open.{record_in, reads_in, writers_in, writes_by, held_by, Left}
use Rattle.open_manager.proofs.Writes.{writes_leaving, last_is}

module _ (t : OpenTables) where
  abbrev m : Held
  m = held_by t

  -- with whom an access conflicts is told by the record
  pub conflicts_are : (j p : ℕ) (a : Access) (k : ℕ) → conflicts m j p a k ≡ rivals (record_in t p) j a k
  conflicts_are j p a k =
      ap (λ (f : ℕ → Bool). conflicts_among (member (record_in t p).readers) f j a k) (fun_ext (λ i. wrote_listed (writers_in t p) i))

  -- who is pending is told by the order
  pub pending_is : (j : ℕ) → pending m j ≡ is_pending t.order j
  pending_is j =
      ap (λ (n : ℕ). any_below (λ p. accesses m j p) n) (length-replicate t.count.number tt)
      ∙ any_same _ _ t.count.number (λ p l. ap (λ (b : Bool). reads_in t p j || b) (wrote_listed (writers_in t p) j))
      ∙ sym (t.exact j)

  -- an access of j to parameter p, which those that it conflicts with precede, leaves these records and this order
  module _ (entries : List Record) (order : Order) (j p : ℕ) (earlier : JobSet) where
    abbrev after : Held
    after = record {
      settled = m.settled;
      writes = λ q. writes_by (listed (record_at entries q).writers);
      readers = λ q k. member (record_at entries q).readers k;
      precedes = precedes order;
      reads_from = reads_from order;
      voted = has_voted order;
    }

    abbrev Conflicting : Access → Type 0
    Conflicting a = (k : ℕ) → member earlier k ≡ rivals (record_in t p) j a k

    preceded : (a : Access) {source : Option ℕ} → Conflicting a → WithAccess t.order j earlier source order
        → (i k : ℕ) → precedes order i k ≡ (precedes t.order i k || (eqb k j && conflicts m j p a i))
    preceded a is r i k =
        let x = r.precedes i k in let y = is i in let z = conflicts_are j p a i in grind (arith, nat_tests)

    pub read_means : Conflicting Read → WithAccess t.order j earlier (last_listed (writers_in t p)) order
        → ReaderNoted t.records.entries p j entries → after ≡ read j p m
    read_means is r noted = same after (read j p m) (record {
      settled = refl;
      writes = λ q. ap writes_by (writers q (cases_eq q p));
      readers = λ q k. readers q k (cases_eq q p);
      precedes = preceded Read is r;
      reads_from = λ k i.
          r.reads_from k i
          ∙ ap (λ (o : Option ℕ). reads_from t.order k i || (eqb k j && not (eqb i j) && names o i)) (sym (last_is (writers_in t p)));
      voted = λ k. ap (λ (s : JobSet). member s k) r.voted;
    })
      where
        writers : (q : ℕ) → (q ≡ p) ⊎ (q ≡ p → ⊥) → listed (record_at entries q).writers ≡ writers_in t q
        writers q (inl e) = rw e (ap listed noted.here.writers)
        writers q (inr ne) = ap (λ (x : Record). listed x.writers) (noted.others q ne)

        readers : (q k : ℕ) → (q ≡ p) ⊎ (q ≡ p → ⊥) → member (record_at entries q).readers k ≡ (reads_in t q k || (eqb q p && eqb k j))
        readers q k (inl e) = let b = eq-eqb p p refl in rw e (noted.here.readers k ∙ (grind (arith, nat_tests)))
        readers q k (inr ne) = let b = ne_eqb q p ne in ap (λ (x : Record). member x.readers k) (noted.others q ne) ∙ (grind (arith, nat_tests))

    pub write_means : Conflicting Write → WithAccess t.order j earlier None order
        → WriterNoted t.records.entries p j entries → after ≡ write j p tt m
    write_means is r noted = same after (write j p tt m) (record {
      settled = refl;
      writes = λ q. writes q (cases_eq q p);
      readers = λ q k. readers q k (cases_eq q p);
      precedes = preceded Write is r;
      reads_from = λ k i. let x = r.reads_from k i in grind (arith, nat_tests);
      voted = λ k. ap (λ (s : JobSet). member s k) r.voted;
    })
      where
        readers : (q k : ℕ) → (q ≡ p) ⊎ (q ≡ p → ⊥) → member (record_at entries q).readers k ≡ reads_in t q k
        readers q k (inl e) = rw e (ap (λ (s : JobSet). member s k) noted.here.readers)
        readers q k (inr ne) = ap (λ (x : Record). member x.readers k) (noted.others q ne)

        writes : (q : ℕ) → (q ≡ p) ⊎ (q ≡ p → ⊥) → writes_by (listed (record_at entries q).writers) ≡ (write j p tt m).writes q
        writes q (inl e) =
            let here = ap writes_by noted.here.writers in
            let others = writes_leaving (λ k. eqb k j) (writers_in t p) in
            let same = eq-eqb p p refl in
            rw e (grind (arith, nat_tests))
        writes q (inr ne) =
            let there = ap (λ (x : Record). writes_by (listed x.writers)) (noted.others q ne) in
            let other = ne_eqb q p ne in
            grind (arith, nat_tests)

  pub leave_means : (u : OpenTables) (gone : ℕ → Bool) → Left t gone u → held_by u ≡ leave gone m
  leave_means u gone l = same (held_by u) (leave gone m) (record {
    settled = ap (λ (n : Count). replicate n.number tt) l.count;
    writes = λ p. ap writes_by (l.writers p) ∙ sym (writes_leaving gone (writers_in t p));
    readers = l.readers;
    precedes = l.precedes;
    reads_from = l.reads_from;
    voted = l.voted;
  })
