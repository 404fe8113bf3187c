-- The duty modes and their words.
use Rattle.std.specs.Prelude.{ℕ, List, codes}
use Rattle.values.specs.declared.mode.Mode.{Mode}
use Rattle.values.specs.declared.mode.Mode.TheVariants.{Off, Hand, Auto}

abbrev pub word_of : Mode → List ℕ
word_of Off = codes "off"
word_of Hand = codes "hand"
word_of Auto = codes "auto"
