-- The calls on tables and the memory that belongs to them obey the rules, where those of the tables do.
use Rattle.std.proofs.Common.{◌≡◌, ℕ, ◌*◌, ◌<◌, ◌≤◌, true, false, not, leb, List, length, set, Some, None, Ok, Err, Option, Result, sym, refl, ap, ◌∙◌, ap₂, arith}
use Rattle.std.specs.List.{slice_get}
use Rattle.std.proofs.lemmas.Bool.{eq-eqb}
use Rattle.jobs.specs.declared.set.JobSet.{JobSet}
use Rattle.jobs.specs.Sets.{names}
use Rattle.rules.specs.declared.access.Access.{Access}
use Rattle.rules.specs.declared.access.Access.TheVariants.{Read, Write}
use Rattle.rules.specs.declared.fault.ManagerFault.{ManagerFault}
use Rattle.rules.specs.declared.fault.ManagerFault.TheVariants.{NoJob, NoParameter, Voted, VotedAlready, NotVoted, Conflict, ReadFrom, Ordered}
use Rattle.rules.specs.Manager.{Manager, wrote, last_or, last_writer, pending}
use Rattle.rules.specs.Changes.{read, write, vote, lost_to_commit, lost_to_roll_back}
use Rattle.rules.specs.Calls.{Admits, Answered, Obeys, access_of, pending_of, read_of, write_of, vote_of, commit_of, roll_back_of, refuse_by, stops, source_of, rival_of}
use Rattle.rules.proofs.Calls.{obeys, refused, passed}
use Rattle.rules.proofs.Values.{value_take, last_wrote}
use Rattle.managers.specs.Memory.{place, Settles}
use Rattle.managers.specs.Faults.{fault_if, fault_by, pending_fault}
use Rattle.managers.specs.Tables.{Held, with_values, vote_if_free, Leaves, last_place}
use Rattle.managers.proofs.Refusals.{access_refused, access_accepted, pending_refused, pending_accepted}
use Rattle.managers.proofs.Stored.{last_written, last_settled}
use Rattle.managers.proofs.Filled.{count_is, stops_are, pending_are, read_filled, write_filled, leave_filled, settle_filled}

module _ {V : Type 0} (m : Held) (vs : List V) (room : 32 * length m.settled ≤ length vs) (low : (p k : ℕ) → wrote k (m.writes p) ≡ true → k < 16) where
  abbrev n : ℕ
  n = length m.settled

  abbrev with : Manager V
  with = with_values m vs

  -- an access, of the tables alone and with the values
  module _ {A B : Type 0} (admits : Admits) (j p : ℕ) (a : Access) (x : Unit {0} → Answered A (Unit {0})) (y : V → Answered B V) where
    abbrev why : Option ManagerFault
    why = fault_if (leb 16 j) NoJob (fault_if (leb n p) NoParameter (fault_if (m.voted j) Voted (fault_by (stops admits m j p a) Conflict None)))

    -- what the tables refuse is refused
    access_fails : (f : ManagerFault) → (access_of admits m j p a x).0 ≡ Err f → ((u : Unit {0}) → (b : A) × ((x u).0 ≡ Ok b))
        → access_of admits with j p a y ≡ (Err f, with)
    access_fails f r ok = go why refl
      where
        go : (o : Option ManagerFault) → why ≡ o → access_of admits with j p a y ≡ (Err f, with)
        go (Some g) h =
            let q = access_refused m n refl admits j p a x (stops admits m j p a) (λ l. refl) g h in
            let e : ◌≡◌ {A = Result A ManagerFault} (Err g) (Err f) = sym (ap (λ (z : Answered A (Unit {0})). z.0) q) ∙ r in
            let same : g ≡ f = cc in
            access_refused with n (count_is m vs room low) admits j p a y (stops admits m j p a) (stops_are m vs room low admits j p a) g h
            ∙ ap (λ (f : ManagerFault). (Err f, with)) same
        go None h =
            let q = access_accepted m n refl admits j p a x (stops admits m j p a) (λ l. refl) h in
            let u = ok q.4.0 in
            let e : ◌≡◌ {A = Result A ManagerFault} (Ok u.0) (Err f) = sym (ap (λ (z : Answered A (Unit {0})). z.0) q.4.2 ∙ u.1) ∙ r in
            absurd (let z : ◌≡◌ {A = ℕ} 0 1 = cc in omega arith)

    -- what the tables accept is accepted
    access_passes : (b : A) → (access_of admits m j p a x).0 ≡ Ok b
        → (j < 16) × (p < n) × (access_of admits m j p a x ≡ x tt) × ((v : V) × (slice_get vs p ≡ Some v) × (access_of admits with j p a y ≡ y v))
    access_passes b r = go why refl
      where
        go : (o : Option ManagerFault) → why ≡ o
            → (j < 16) × (p < n) × (access_of admits m j p a x ≡ x tt) × ((v : V) × (slice_get vs p ≡ Some v) × (access_of admits with j p a y ≡ y v))
        go (Some g) h =
            let q = access_refused m n refl admits j p a x (stops admits m j p a) (λ l. refl) g h in
            let e : ◌≡◌ {A = Result A ManagerFault} (Err g) (Ok b) = sym (ap (λ (z : Answered A (Unit {0})). z.0) q) ∙ r in
            absurd (let z : ◌≡◌ {A = ℕ} 0 1 = cc in omega arith)
        go None h =
            let q = access_accepted m n refl admits j p a x (stops admits m j p a) (λ l. refl) h in
            let t = access_accepted with n (count_is m vs room low) admits j p a y (stops admits m j p a) (stops_are m vs room low admits j p a) h in
            (q.0, q.1, q.4.2, (t.4.0, sym (value_take n vs p q.1) ∙ t.4.1, t.4.2))

  module _ (admits : Admits) (j p : ℕ) (now : Held) where
    abbrev reads : Unit {0} → Answered (Unit {0}) (Unit {0})
    reads = λ v. (Ok (last_or v (m.writes p)), read j p m)

    pub read_fails : (f : ManagerFault) → Obeys (read_of admits m j p) (Err f) now → read_of admits with j p ≡ (Err f, with)
    read_fails f o = access_fails admits j p Read reads (λ v. (Ok (last_or v (with.writes p)), read j p with)) f (sym o.answer) (λ u. (tt, refl))

    -- the place that is read lies in memory
    pub last_inside : Obeys (read_of admits m j p) (Ok tt) now → last_place now p < length vs
    last_inside o =
        let q = access_passes admits j p Read reads (λ v. (Ok (last_or v (with.writes p)), read j p with)) tt (sym o.answer) in
        let is : now ≡ read j p m = o.after ∙ ap (λ (z : Answered (Unit {0}) (Unit {0})). z.1) q.2 in
        let at : last_place now p ≡ last_place m p = ap (λ (k : Held). last_place k p) is in
        let b = inside q.1 (last_writer (m.writes p)) refl in
        omega arith
      where
        inside : p < n → (o : Option ℕ) → last_writer (m.writes p) ≡ o → elim o [ None ↦ p | Some k ↦ place n p k ] < length vs
        inside l None h = omega arith
        inside l (Some k) h =
            let w = low p k (last_wrote (m.writes p) k (ap (λ (o : Option ℕ). names o k) h ∙ eq-eqb k k refl)) in
            omega arith

    pub read_passes : (x : V) → Obeys (read_of admits m j p) (Ok tt) now → slice_get vs (last_place now p) ≡ Some x
        → Obeys (read_of admits with j p) (Ok x) (with_values now vs)
    read_passes x o s =
        let q = access_passes admits j p Read reads (λ v. (Ok (last_or v (with.writes p)), read j p with)) tt (sym o.answer) in
        let is : now ≡ read j p m = o.after ∙ ap (λ (z : Answered (Unit {0}) (Unit {0})). z.1) q.2 in
        let at : slice_get vs (last_place m p) ≡ Some x = ap (λ (k : Held). slice_get vs (last_place k p)) (sym is) ∙ s in
        let v = q.3 in
        obeys (v.2 ∙ ap₂ (λ (x : V) (k : Manager V). (Ok x, k)) (value v.0 v.1 (last_writer (m.writes p)) refl at)
        (sym (ap (λ (k : Held). with_values k vs) is ∙ read_filled m vs room low j p q.1)))
      where
        value : (v : V) → slice_get vs p ≡ Some v → (o : Option ℕ) → last_writer (m.writes p) ≡ o
            → slice_get vs (elim o [ None ↦ p | Some k ↦ place n p k ]) ≡ Some x → last_or v (with.writes p) ≡ x
        value v e None h s = let same : v ≡ x = cc in last_settled n p vs (m.writes p) v h ∙ same
        value v e (Some k) h s = last_written n p vs (m.writes p) v x k h s

    abbrev writes : Unit {0} → Answered (Unit {0}) (Unit {0})
    writes = λ _. (Ok tt, write j p tt m)

    pub write_fails : (v : V) (f : ManagerFault) → Obeys (write_of admits m j p tt) (Err f) now → write_of admits with j p v ≡ (Err f, with)
    write_fails v f o = access_fails admits j p Write writes (λ _. (Ok tt, write j p v with)) f (sym o.answer) (λ u. (tt, refl))

    -- the place that is written lies in memory
    pub write_inside : Obeys (write_of admits m j p tt) (Ok tt) now → (length now.settled ≡ n) × (place n p j < length vs)
    write_inside o =
        let q = access_passes {B = Unit {0}} admits j p Write writes (λ v. (Ok tt, write j p v with)) tt (sym o.answer) in
        let is : now ≡ write j p tt m = o.after ∙ ap (λ (z : Answered (Unit {0}) (Unit {0})). z.1) q.2 in
        let a = q.0 in
        let b = q.1 in
        (ap (λ (k : Held). length k.settled) is, omega arith)

    pub write_passes : (v : V) (i : ℕ) → i ≡ place n p j → Obeys (write_of admits m j p tt) (Ok tt) now
        → Obeys (write_of admits with j p v) (Ok tt) (with_values now (set vs i v))
    write_passes v i at o =
        let q = access_passes admits j p Write writes (λ _. (Ok tt, write j p v with)) tt (sym o.answer) in
        let is : now ≡ write j p tt m = o.after ∙ ap (λ (z : Answered (Unit {0}) (Unit {0})). z.1) q.2 in
        obeys (q.3.2 ∙ ap (λ (k : Manager V). (Ok tt, k))
        (sym (ap₂ (λ (k : Held) (i : ℕ). with_values k (set vs i v)) is at ∙ write_filled m vs room low j p v q.0 q.1)))

  module _ (j : ℕ) where
    -- a call for a job that is not pending
    pub pending_fails : {A : Type 0} (x : Answered A V) (f : ManagerFault) → pending_fault m j ≡ Some f → pending_of with j x ≡ (Err f, with)
    pending_fails x f h = pending_refused with j x (pending m j) (pending_are m vs room low j) f h

    pending_passes : {A : Type 0} (x : Answered A V) → pending_fault m j ≡ None → (j < 16) × (pending m j ≡ true) × (pending_of with j x ≡ x)
    pending_passes x h = pending_accepted with j x (pending m j) (pending_are m vs room low j) h

    -- a second vote
    pub vote_again : pending_fault m j ≡ None → m.voted j ≡ true → Obeys (vote_of with j) (Err VotedAlready) with
    vote_again h v = obeys ((pending_passes _ h).2 ∙ refused (m.voted j) VotedAlready with _ v)

    pub vote_passes : (r : Result (Unit {0}) ManagerFault) (now : Held) → pending_fault m j ≡ None → m.voted j ≡ false → Obeys (vote_if_free m j) r now
        → Obeys (vote_of with j) r (with_values now vs)
    vote_passes r now h unvoted o =
        obeys ((pending_passes _ h).2 ∙ passed (m.voted j) VotedAlready with _ unvoted ∙ free (source_of m j) (rival_of m j)
        ∙ ap₂ (λ (r : Result (Unit {0}) ManagerFault) (k : Held). (r, with_values k vs)) (sym o.answer) (sym o.after))
      where
        free : (a b : Option ℕ)
            → refuse_by {A = Unit {0}} a ReadFrom with (refuse_by b Ordered with (Ok tt, vote j with))
            ≡ (
              (refuse_by {A = Unit {0}} a ReadFrom m (refuse_by b Ordered m (Ok tt, vote j m))).0,
              with_values (refuse_by {A = Unit {0}} a ReadFrom m (refuse_by b Ordered m (Ok tt, vote j m))).1 vs,
            )
        free None None = refl
        free None (Some k) = refl
        free (Some k) b = refl

    -- committing a job that has not voted
    pub commit_fails : pending_fault m j ≡ None → m.voted j ≡ false → Obeys (commit_of with j) (Err NotVoted) with
    commit_fails h v = obeys ((pending_passes _ h).2 ∙ refused (not (m.voted j)) NotVoted with _ (ap not v))

    pub commit_passes : (lost : JobSet) (now : Held) (after : List V) → pending_fault m j ≡ None → m.voted j ≡ true
        → Settles (λ p. wrote j (m.writes p)) n j vs after → Leaves m (lost_to_commit m j) j lost now
        → Obeys (commit_of with j) (Ok lost) (with_values now after)
    commit_passes lost now after h v s l =
        let q = pending_passes _ h in
        obeys (q.2 ∙ passed (not (m.voted j)) NotVoted with _ (ap not v)
        ∙ ap₂ (λ (s : JobSet) (k : Manager V). (Ok s, k)) (sym l.told)
        (sym (ap (λ (k : Held). with_values k after) l.after ∙ settle_filled m vs room low j _ after q.0 s)))

    pub roll_back_passes : (lost : JobSet) (now : Held) → pending_fault m j ≡ None → Leaves m (lost_to_roll_back m j) j lost now
        → Obeys (roll_back_of with j) (Ok lost) (with_values now vs)
    roll_back_passes lost now h l =
        obeys ((pending_passes _ h).2
        ∙ ap₂ (λ (s : JobSet) (k : Manager V). (Ok s, k)) (sym l.told)
        (sym (ap (λ (k : Held). with_values k vs) l.after ∙ leave_filled m vs room low _)))
