-- Tables that find the faults of a call in the order of its rule refuse what the rule refuses.
use Rattle.std.proofs.Common.{◌≡◌, ℕ, Bool, true, false, IsErrAnd, Some, None, Err, Option, Result, sym, refl, ap, ◌∙◌, subst}
use Rattle.std.proofs.lemmas.Result.{err_from_is_err_and}
use Rattle.rules.specs.declared.fault.ManagerFault.{ManagerFault}
use Rattle.rules.specs.declared.fault.ManagerFault.TheVariants.{NoParameter}
use Rattle.rules.specs.Manager.{Manager}
use Rattle.rules.specs.Calls.{Answered, Obeys, refuse_if, refuse_by, refuse_unless}
use Rattle.rules.proofs.Calls.{obeys}
use Rattle.managers.specs.Faults.{fault_if, fault_by}

module _ {A V : Type 0} (m : Manager V) (P : Answered A V → Type 0) where
  -- the rule refuses with the fault that was found, and where none was found P holds of it
  abbrev pub Matches : Option ManagerFault → Answered A V → Type 0
  Matches None y = P y
  Matches (Some f) y = y ≡ (Err f, m)

  pub matches_if : (b : Bool) (f : ManagerFault) (o : Option ManagerFault) (y : Answered A V)
      → (b ≡ false → Matches o y) → Matches (fault_if b f o) (refuse_if b f m y)
  matches_if true f o y h = refl
  matches_if false f o y h = h refl

  pub matches_by : (k : Option ℕ) (f : ℕ → ManagerFault) (o : Option ManagerFault) (y : Answered A V)
      → (k ≡ None → Matches o y) → Matches (fault_by k f o) (refuse_by k f m y)
  matches_by None f o y h = h refl
  matches_by (Some k) f o y h = refl

  -- a parameter is not there exactly if there is no settled value
  pub matches_unless : (b : Bool) (s : Option V) (o : Option ManagerFault) (y : V → Answered A V)
      → (b ≡ true → s ≡ None) → (b ≡ false → (v : V) × (s ≡ Some v) × Matches o (y v))
      → Matches (fault_if b NoParameter o) (refuse_unless s m y)
  matches_unless true s o y none some = ap (λ (s : Option V). refuse_unless s m y) (none refl)
  matches_unless false s o y none some =
      let x = some refl in
      subst (λ (s : Option V). Matches o (refuse_unless s m y)) (sym x.1) x.2

module _ {A V : Type 0} where
  -- a call that ends with the fault of a call below obeys the rule that refuses so
  pub exits : {rule : Answered A V} {m : Manager V} (f : ManagerFault) (r : Result A ManagerFault)
      → IsErrAnd r (λ e. e ≡ f) → rule ≡ (Err f, m) → Obeys rule r m
  exits {m = m} f r h e =
      let p = err_from_is_err_and r h in
      obeys (e ∙ ap (λ (r : Result A ManagerFault). (r, m)) (sym (p.1 ∙ ap (λ (f : ManagerFault). Err f) p.2)))
