-- A loop that tells the settled value of each parameter.
use Rattle.std.proofs.Common.{ℕ, ◌+◌, List, Some, None, Option, IfSome, sym, add-one}
use Rattle.std.specs.Io.KnownBytes.{Appends}
use Rattle.std.proofs.lemmas.List.{append-nil}
use Rattle.rules.specs.Manager.{Manager}
use Rattle.rules.specs.Calls.{settled_of}
use Rattle.telling.specs.declared.lines.Call.TheVariants.{Settled}
use Rattle.telling.specs.Answers.{value_words}
use Rattle.telling.specs.Lines.{line, settled_lines}
use Rattle.telling.proofs.Written.{then_written}

module _ {V : Type 0} (text : V → Option (List ℕ)) (m : Manager V) where
  -- nothing is told at first
  pub lines_none : (a : Option (List ℕ)) → IfSome (settled_lines text m 0) (Appends a a)
  unfolding settled_lines
  lines_none None = tt
  lines_none (Some s) = sym (append-nil s)

  -- the line of one more parameter
  pub lines_more : (n : ℕ) (a b c : Option (List ℕ)) → IfSome (settled_lines text m n) (Appends a b)
      → IfSome (line text (Settled n) (value_words text) (settled_of m n)) (Appends b c) → IfSome (settled_lines text m (n + 1)) (Appends a c)
  unfolding settled_lines
  lines_more n a b c x y = rw add-one (then_written (settled_lines text m n) (line text (Settled n) (value_words text) (settled_of m n)) a b c x y)
