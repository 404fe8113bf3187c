use Rattle.rules.proofs.Sound.{stays_sound}
use Rattle.rules.proofs.theorems.every_call_keeps_managers_sound.Goals as goal

pub returns : goal.returns
returns g c = stays_sound
