-- Two managers hold the same where each part of what they hold is the same.
use Rattle.std.proofs.Common.{◌≡◌, ℕ}
use Rattle.rules.specs.Manager.{Manager}

module _ {V : Type 0} where
  pub record Alike (m n : Manager V) : Type 0 where
    pub settled : m.settled ≡ n.settled
    pub writes : (p : ℕ) → m.writes p ≡ n.writes p
    pub readers : (p k : ℕ) → m.readers p k ≡ n.readers p k
    pub precedes : (i k : ℕ) → m.precedes i k ≡ n.precedes i k
    pub reads_from : (k i : ℕ) → m.reads_from k i ≡ n.reads_from k i
    pub voted : (k : ℕ) → m.voted k ≡ n.voted k

  pub same : (m n : Manager V) → Alike m n → m ≡ n
  same m n e = λ i. record {
    settled = e.settled i;
    writes = λ p. e.writes p i;
    readers = λ p k. e.readers p k i;
    precedes = λ a b. e.precedes a b i;
    reads_from = λ a b. e.reads_from a b i;
    voted = λ k. e.voted k i;
  }
