-- Facts about the order between pending jobs.
use Rattle.std.proofs.Common.{◌≡◌, ℕ, false, ◌&&◌, ◌||◌, None, arith}
use Rattle.std.proofs.lemmas.Bool.Decides.{nat_tests}
use Rattle.jobs.specs.Relations.{row}
use Rattle.jobs.proofs.Sets.{lowest_never}
use Rattle.jobs.proofs.Jobs.{member_past}
use Rattle.open_manager.specs.declared.order.Order.{Order}
use Rattle.open_manager.specs.Order.{precedes, reads_from, has_voted, source_in, rival_in}

pub no_source : (o : Order) (j : ℕ) → source_in o j ≡ None → (k : ℕ) → reads_from o j k ≡ false
no_source o j h = lowest_never (reads_from o j) 16 h (member_past (row o.reads_from j))

pub no_rival : (o : Order) (j : ℕ) → rival_in o j ≡ None → (k : ℕ) → (has_voted o k && (precedes o k j || precedes o j k)) ≡ false
no_rival o j h =
    lowest_never (λ k. has_voted o k && (precedes o k j || precedes o j k)) 16 h (λ k l. let x = member_past o.voted k l in grind (arith, nat_tests))
