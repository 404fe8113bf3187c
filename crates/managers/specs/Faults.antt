-- The first fault of several.
use Rattle.std.specs.Prelude.{ℕ, Bool, if◌then◌else◌, not, Some, None, Option, nat_le}
use Rattle.rules.specs.declared.fault.ManagerFault.{ManagerFault}
use Rattle.rules.specs.declared.fault.ManagerFault.TheVariants.{NoJob, NotPending}
use Rattle.rules.specs.Manager.{Manager, pending}

-- that fault where the test holds, or else the next
abbrev pub fault_if : Bool → ManagerFault → Option ManagerFault → Option ManagerFault
fault_if b f next = if b then Some f else next

-- that fault where some job is in the way
abbrev pub fault_by : Option ℕ → (ℕ → ManagerFault) → Option ManagerFault → Option ManagerFault
fault_by None f next = next
fault_by (Some k) f next = Some (f k)

-- why a call for a job j that has to be pending is refused
abbrev pub pending_fault : {V : Type 0} → Manager V → ℕ → Option ManagerFault
pending_fault m j =
    fault_if (nat_le 16 j) NoJob
    (fault_if (not (pending m j)) NotPending
    None)
