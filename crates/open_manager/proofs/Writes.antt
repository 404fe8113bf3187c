-- The pending writes of a parameter, by the jobs listed.
use Rattle.std.proofs.Common.{◌≡◌, ℕ, ◌≤◌, Bool, List, [], ◌∷◌, None, refl, ap, arith}
use Rattle.std.proofs.lemmas.List.{get_or_past}
use Rattle.std.proofs.lemmas.Bool.Decides.{nat_tests}
use Rattle.rules.specs.Manager.{last_writer, without}
use Rattle.open_manager.specs.declared.OpenTables.{OpenTables}
use Rattle.open_manager.specs.declared.records.Record.{Record}
use Rattle.open_manager.specs.Lists.{leaving, last_listed}
use Rattle.open_manager.specs.Writers.{listed}
use Rattle.open_manager.specs.Records.{no_record}
use Rattle.open_manager.specs.Open.{writers_in, writes_by}

-- the writes of those that stay, once others have left
pub writes_leaving : (gone : ℕ → Bool) (js : List ℕ) → without gone (writes_by js) ≡ writes_by (leaving gone js)
writes_leaving gone [] = refl
writes_leaving gone (j ∷ js) = let ih = writes_leaving gone js in grind (arith, nat_tests)

pub last_is : (js : List ℕ) → last_writer (writes_by js) ≡ last_listed js
last_is [] = refl
last_is (j ∷ js) = refl

-- past the table nobody writes
pub none_past : (t : OpenTables) (p : ℕ) → 64 ≤ p → writers_in t p ≡ []
none_past t p l =
    ap (λ (r : Record). listed r.writers) (get_or_past t.records.entries p no_record (omega (arith, t.records.whole)))

pub last_past : (t : OpenTables) (p : ℕ) → 64 ≤ p → last_writer (writes_by (writers_in t p)) ≡ None
last_past t p l = ap (λ (js : List ℕ). last_writer (writes_by js)) (none_past t p l)
