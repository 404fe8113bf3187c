-- Tables that find the faults of an access, or of a call for a pending job, in the order of the rules refuse as the rules do.
use Rattle.std.proofs.Common.{◌≡◌, ℕ, ◌<◌, Bool, true, false, not, leb, length, Some, None, Err, Option, sym, refl, ◌∙◌, subst, arith}
use Rattle.std.proofs.lemmas.Option.{slice_get_past}
use Rattle.std.specs.List.{slice_get}
use Rattle.std.proofs.lemmas.Bool.{leb-true, leb-false, not-false}
use Rattle.rules.specs.declared.access.Access.{Access}
use Rattle.rules.specs.declared.fault.ManagerFault.{ManagerFault}
use Rattle.rules.specs.declared.fault.ManagerFault.TheVariants.{NoJob, NoParameter, Voted, NotPending, Conflict}
use Rattle.rules.specs.Manager.{Manager, pending}
use Rattle.rules.specs.Calls.{Admits, Answered, access_of, pending_of, refuse_if, refuse_by, stops}
use Rattle.rules.proofs.Values.{value_some}
use Rattle.managers.specs.Faults.{fault_if, fault_by}
use Rattle.managers.proofs.Faults.{Matches, matches_if, matches_by, matches_unless}

module _ {A V : Type 0} (m : Manager V) (n : ℕ) (count : length m.settled ≡ n) where
  -- an access, where o is the job in its way
  module _ (admits : Admits) (j p : ℕ) (a : Access) (x : V → Answered A V) (o : Option ℕ) (way : p < n → stops admits m j p a ≡ o) where
    abbrev fault : Option ManagerFault
    fault = fault_if (leb 16 j) NoJob (fault_if (leb n p) NoParameter (fault_if (m.voted j) Voted (fault_by o Conflict None)))

    abbrev rule : Answered A V
    rule = access_of admits m j p a x

    -- what holds of an access that is accepted
    abbrev Accepted : Answered A V → Type 0
    Accepted y = (j < 16) × (p < n) × (m.voted j ≡ false) × (o ≡ None) × ((v : V) × (slice_get m.settled p ≡ Some v) × (y ≡ x v))

    access_matches : Matches m Accepted fault rule
    access_matches =
        matches_if m Accepted _ _ _ _ (λ l.
        matches_unless m Accepted (leb n p) _ _ _
        (λ e. let past = leb-true n p e in slice_get_past m.settled p (omega arith))
        (λ e.
        let inside : p < n = leb-false n p e in
        let v = value_some m.settled p (omega arith) in (
          v.0,
          v.1,
          matches_if m Accepted _ _ _ _ (λ u.
              subst (λ (o : Option ℕ). Matches m Accepted (fault_by o Conflict None) (refuse_by (stops admits m j p a) Conflict m (x v.0)))
              (way inside)
              (matches_by m Accepted (stops admits m j p a) Conflict None (x v.0)
              (λ none. (leb-false 16 j l, inside, u, sym (way inside) ∙ none, (v.0, v.1, refl))))),
        )))

    pub access_refused : (f : ManagerFault) → fault ≡ Some f → rule ≡ (Err f, m)
    access_refused f h = subst (λ (o : Option ManagerFault). Matches m Accepted o rule) h access_matches

    pub access_accepted : fault ≡ None → Accepted rule
    access_accepted h = subst (λ (o : Option ManagerFault). Matches m Accepted o rule) h access_matches

module _ {A V : Type 0} (m : Manager V) (j : ℕ) (x : Answered A V) (b : Bool) (is : pending m j ≡ b) where
  abbrev away : Option ManagerFault
  away = fault_if (leb 16 j) NoJob (fault_if (not b) NotPending None)

  abbrev asked : Answered A V
  asked = pending_of m j x

  -- what holds of a call for a pending job
  abbrev Found : Answered A V → Type 0
  Found y = (j < 16) × (b ≡ true) × (y ≡ x)

  pending_matches : Matches m Found away asked
  pending_matches =
      matches_if m Found _ _ _ _ (λ l.
      subst (λ (c : Bool). Matches m Found (fault_if (not b) NotPending None) (refuse_if (not c) NotPending m x)) (sym is)
      (matches_if m Found (not b) NotPending None x (λ h. (leb-false 16 j l, not-false b h, refl))))

  pub pending_refused : (f : ManagerFault) → away ≡ Some f → asked ≡ (Err f, m)
  pending_refused f h = subst (λ (o : Option ManagerFault). Matches m Found o asked) h pending_matches

  pub pending_accepted : away ≡ None → Found asked
  pending_accepted h = subst (λ (o : Option ManagerFault). Matches m Found o asked) h pending_matches
