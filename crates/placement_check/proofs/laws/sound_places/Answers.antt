use Rattle.placement_check.proofs.Sound.{sound}
use Rattle.placement_check.proofs.laws.sound_places.Goals as goal

pub returns : goal.returns
returns c = λ slots p pay_is h. sound slots p h pay_is
