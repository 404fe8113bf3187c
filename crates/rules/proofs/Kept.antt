-- What holds of a manager still holds after a call, if it does where the call gets past its refusals.
use Rattle.std.proofs.Common.{◌≡◌, ℕ, ◌<◌, Bool, true, false, not, leb, Some, None, Option, refl}
use Rattle.std.specs.List.{slice_get}
use Rattle.std.proofs.lemmas.Bool.{leb-false, not-false}
use Rattle.rules.specs.declared.access.Access.{Access}
use Rattle.rules.specs.declared.fault.ManagerFault.{ManagerFault}
use Rattle.rules.specs.declared.fault.ManagerFault.TheVariants.{NoJob, Voted, NotPending, Conflict}
use Rattle.rules.specs.Manager.{Manager, pending}
use Rattle.rules.specs.Calls.{Answered, Admits, refuse_if, refuse_by, refuse_unless, stops, access_of, pending_of}

module _ {A V : Type 0} (P : Manager V → Type 0) where
  pub kept_if : (b : Bool) (f : ManagerFault) (m : Manager V) (x : Answered A V) → P m → (b ≡ false → P x.1) → P (refuse_if b f m x).1
  kept_if true f m x h past = h
  kept_if false f m x h past = past refl

  pub kept_by : (o : Option ℕ) (f : ℕ → ManagerFault) (m : Manager V) (x : Answered A V) → P m → (o ≡ None → P x.1) → P (refuse_by o f m x).1
  kept_by None f m x h past = past refl
  kept_by (Some k) f m x h past = h

  pub kept_unless : (o : Option V) (m : Manager V) (x : V → Answered A V) → P m → ((v : V) → o ≡ Some v → P (x v).1) → P (refuse_unless o m x).1
  kept_unless None m x h past = h
  kept_unless (Some v) m x h past = past v refl

  -- past all refusals of an access
  pub kept_access : (admits : Admits) (m : Manager V) (j p : ℕ) (a : Access) (x : V → Answered A V) → P m
      → ((v : V) → j < 16 → slice_get m.settled p ≡ Some v → m.voted j ≡ false → stops admits m j p a ≡ None → P (x v).1)
      → P (access_of admits m j p a x).1
  kept_access admits m j p a x h past =
      kept_if (leb 16 j) NoJob m _ h (λ low.
      kept_unless (slice_get m.settled p) m _ h (λ v at.
      kept_if (m.voted j) Voted m _ h (λ n.
      kept_by (stops admits m j p a) Conflict m _ h (λ free.
      past v (leb-false 16 j low) at n free))))

  -- past the refusals of a call for a job that has to be pending
  pub kept_pending : (m : Manager V) (j : ℕ) (x : Answered A V) → P m → (j < 16 → pending m j ≡ true → P x.1) → P (pending_of m j x).1
  kept_pending m j x h past =
      kept_if (leb 16 j) NoJob m _ h (λ low.
      kept_if (not (pending m j)) NotPending m _ h (λ here.
      past (leb-false 16 j low) (not-false (pending m j) here)))
