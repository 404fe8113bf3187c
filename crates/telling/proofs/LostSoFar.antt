-- A loop that tells the members of a set of jobs one by one.
use Rattle.std.proofs.Common.{◌≡◌, ℕ, List, ◌++◌, Some, None, sym, ap, ◌∙◌, subst, refl, codes}
use Rattle.std.specs.Fmt.{HasWritten, decimal}
use Rattle.std.specs.declared.fmt.Formatter.{Formatter}
use Rattle.std.proofs.lemmas.Grind.{put_two}
use Rattle.std.proofs.lemmas.List.{append-nil, append_assoc}
use Rattle.jobs.specs.declared.set.JobSet.{JobSet}
use Rattle.jobs.specs.Sets.{lowest}
use Rattle.jobs.specs.Jobs.{member, after_next}
use Rattle.jobs.proofs.Sets.{lowest_some}
use Rattle.jobs.proofs.Jobs.{next_some, next_none}
use Rattle.telling.specs.Answers.{spaced}
use Rattle.telling.proofs.Spaced.{spaced_none, spaced_first}

module _ {W : Type 0} (took : W → List ℕ → W → Type 0) (lost : JobSet) (f : Formatter W) where
  -- g is f after telling the jobs of `lost`, but for those that are left
  pub record LostSoFar (left : JobSet) (g : Formatter W) : Type 0 where
    pub told : List ℕ
    pub wrote : HasWritten took f told g
    pub rest : told ++ spaced (member left) 16 ≡ codes "lost" ++ spaced (member lost) 16

  pub lost_more : (left less : JobSet) (j : ℕ) (g h : Formatter W) → Some j ≡ lowest (member left) 16 → less ≡ after_next left (Some j)
      → LostSoFar left g → HasWritten took g (codes " " ++ decimal j) h → LostSoFar less h
  lost_more left less j g h next e so_far w =
      let low = lowest_some (member left) 16 j (sym next) in
      let first = spaced_first (member left) (member less) 16 j low.0 low.1 low.2 (next_some left less j next e).1 in
      record {
        told = so_far.told ++ (codes " " ++ decimal j);
        wrote = put_two took f g h so_far.told (codes " " ++ decimal j) _ so_far.wrote w refl;
        rest = append_assoc so_far.told (codes " " ++ decimal j) (spaced (member less) 16)
            ∙ ap (λ (l : List ℕ). so_far.told ++ l) (sym first) ∙ so_far.rest;
      }

  pub lost_all : (left : JobSet) (g : Formatter W) → None ≡ lowest (member left) 16 → LostSoFar left g
      → HasWritten took f (codes "lost" ++ spaced (member lost) 16) g
  lost_all left g done so_far =
      let none = spaced_none (member left) 16 (λ k l. next_none left done k) in
      subst (λ (l : List ℕ). HasWritten took f l g)
      (sym (append-nil so_far.told) ∙ ap (λ (l : List ℕ). so_far.told ++ l) (sym none) ∙ so_far.rest) so_far.wrote
