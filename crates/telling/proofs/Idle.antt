-- The calls that no manager takes.
use Rattle.std.proofs.Common.{◌≡◌, ℕ, zero, suc, ◌≤◌, List, [], ◌∷◌, length, None, Option, IfSome, Err, Result, refl, ap, ◌∙◌, subst, arith}
use Rattle.std.specs.List.{slice_get}
use Rattle.std.specs.Io.KnownBytes.{Appends}
use Rattle.rules.specs.declared.fault.ManagerFault.{ManagerFault}
use Rattle.rules.specs.declared.fault.ManagerFault.TheVariants.{NoJob, NoParameter, NotPending}
use Rattle.rules.specs.Manager.{Manager}
use Rattle.rules.specs.Calls.{Admits, Answered, write_of, vote_of}
use Rattle.telling.specs.declared.lines.Call.TheVariants.{Read, Write, Vote}
use Rattle.telling.specs.Answers.{value_words, done_words}
use Rattle.telling.specs.Lines.{Tells, line}
use Rattle.telling.specs.Scenes.{IsIdle, refusal_lines}
use Rattle.telling.proofs.Written.{then_told}

module _ {V : Type 0} where
  value_past : (xs : List V) (i : ℕ) → length xs ≤ i → slice_get xs i ≡ None
  value_past [] i h = refl
  value_past (x ∷ xs) zero h = absurd (let b : ⊥ = omega arith in b)
  value_past (x ∷ xs) (suc i) h = value_past xs i (omega arith)

  module _ (m : Manager V) (idle : IsIdle m) where
    -- there is no such parameter
    write_refused : (admits : Admits) (v : V) → write_of admits m 15 8 v ≡ (Err NoParameter, m)
    write_refused admits v = rw (value_past m.settled 8 idle.few)

    -- the job is not pending
    vote_refused : vote_of m 15 ≡ (Err NotPending, m)
    vote_refused = rw idle.idle

    -- a refused read, then a write of n, and then a vote of k, are told as refused
    pub told_refused : {E : Type 0} (r : Result (Unit {0}) E) (text : V → Option (List ℕ)) (admits : Admits) (v : V) (n k : Manager V)
        (a b c d : Option (List ℕ)) → n ≡ m → k ≡ (write_of admits n 15 8 v).1 → IfSome (line text (Read 16 5) (value_words text) (Err NoJob)) (Appends a b)
        → IfSome (line text (Write 15 8 v) done_words (write_of admits n 15 8 v).0) (Appends b c) → Tells r (line text (Vote 15) done_words (vote_of k 15).0) c d
        → Tells r (refusal_lines text v) a d
    told_refused r text admits v n k a b c d before after read write vote =
        then_told r (line text (Read 16 5) (value_words text) (Err NoJob)) _ a b d read
        (then_told r (line text (Write 15 8 v) done_words (Err NoParameter)) (line text (Vote 15) done_words (Err NotPending)) b c d
        (subst (λ (x : Result (Unit {0}) ManagerFault). IfSome (line text (Write 15 8 v) done_words x) (Appends b c)) written write)
        (subst (λ (x : Result (Unit {0}) ManagerFault). Tells r (line text (Vote 15) done_words x) c d) voted vote))
      where
        refused : write_of admits n 15 8 v ≡ (Err NoParameter, m)
        refused = ap (λ (x : Manager V). write_of admits x 15 8 v) before ∙ write_refused admits v

        written : (write_of admits n 15 8 v).0 ≡ Err NoParameter
        written = ap (λ (x : Answered (Unit {0}) V). x.0) refused

        voted : (vote_of k 15).0 ≡ Err NotPending
        voted =
            ap (λ (x : Manager V). (vote_of x 15).0) (after ∙ ap (λ (x : Answered (Unit {0}) V). x.1) refused)
            ∙ ap (λ (x : Answered (Unit {0}) V). x.0) vote_refused
