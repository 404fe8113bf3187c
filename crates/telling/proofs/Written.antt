-- Text that is written after other text.
use Rattle.std.proofs.Common.{◌≡◌, ℕ, List, [], ◌++◌, Some, None, Option, IfSome, Ok, Err, Result, ap, ◌∙◌}
use Rattle.std.specs.Fmt.{◌++?◌, WritesText}
use Rattle.std.specs.Io.KnownBytes.{Appends}
use Rattle.std.proofs.lemmas.List.{append_assoc}
use Rattle.std.proofs.lemmas.Fmt.{contents_after_writes}
use Rattle.arrayvec.specs.ArrayString.{ArrayString}
use Rattle.telling.specs.Lines.{Tells}

-- what is written after something else is written
pub then_written : (o p a b c : Option (List ℕ)) → IfSome o (Appends a b) → IfSome p (Appends b c) → IfSome (o ++? p) (Appends a c)
then_written None p a b c x y = tt
then_written (Some s) None a b c x y = tt
then_written (Some s) (Some t) None b c x y = tt
then_written (Some s) (Some t) (Some u) None c x y = absurd x
then_written (Some s) (Some t) (Some u) (Some v) None x y = absurd y
then_written (Some s) (Some t) (Some u) (Some v) (Some w) x y = y ∙ ap (λ (l : List ℕ). l ++ t) x ∙ append_assoc u s t

-- and told where that succeeds
pub then_told : {E : Type 0} (r : Result (Unit {0}) E) (o p a b c : Option (List ℕ)) → IfSome o (Appends a b) → Tells r p b c → Tells r (o ++? p) a c
then_told (Ok u) o p a b c x y = then_written o p a b c x y
then_told (Err e) o p a b c x y = tt

-- a text that was empty, after that was written to it
pub only_text : (s t : ArrayString) (o : Option (List ℕ)) → s.bytes ≡ [] → WritesText (λ s bytes t. t.bytes ≡ s.bytes ++ bytes) s o t
    → IfSome o (λ words. t.bytes ≡ words)
only_text s t None e w = tt
only_text s t (Some words) e w =
    contents_after_writes _ (λ (s : ArrayString). s.bytes) (λ s bytes t h. h) s words t w ∙ ap (λ (l : List ℕ). l ++ words) e
