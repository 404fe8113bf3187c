-- What a kind of manager cites to show that it follows the rules.
use Rattle.std.proofs.Common.{◌≡◌, ℕ, Bool, true, false, None, Ok, Err, Option, Result, sym, ap, arith}
use Rattle.rules.specs.declared.fault.ManagerFault.{ManagerFault}
use Rattle.rules.specs.Manager.{Manager}
use Rattle.rules.specs.Calls.{Answered, refuse_if, refuse_by, Obeys}

module _ {A V : Type 0} where
  pub obeys : {rule : Answered A V} {r : Result A ManagerFault} {m : Manager V} → rule ≡ (r, m) → Obeys rule r m
  obeys e = record { answer = ap (λ (x : Answered A V). x.0) (sym e); after = ap (λ (x : Answered A V). x.1) (sym e) }

  -- a refusal whose test holds, and one whose test does not
  pub refused : (b : Bool) (f : ManagerFault) (m : Manager V) (x : Answered A V) → b ≡ true → refuse_if b f m x ≡ (Err f, m)
  refused b f m x e = ap (λ (c : Bool). refuse_if c f m x) e

  pub passed : (b : Bool) (f : ManagerFault) (m : Manager V) (x : Answered A V) → b ≡ false → refuse_if b f m x ≡ x
  passed b f m x e = ap (λ (c : Bool). refuse_if c f m x) e

  -- nobody is in the way
  pub unblocked : (o : Option ℕ) (f : ℕ → ManagerFault) (m : Manager V) (x : Answered A V) → o ≡ None → refuse_by o f m x ≡ x
  unblocked o f m x e = ap (λ (u : Option ℕ). refuse_by u f m x) e

  -- an accepted call got past each refusal
  pub accepted_past : (b : Bool) (f : ManagerFault) (m : Manager V) (x : Answered A V) (a : A) → (refuse_if b f m x).0 ≡ Ok a → x.0 ≡ Ok a
  accepted_past true f m x a h = absurd (let z : ◌≡◌ {A = ℕ} 0 1 = cc in omega arith)
  accepted_past false f m x a h = h
