use Rattle.cert_soundness.proofs.Outcome.{sound}
use Rattle.cert_soundness.proofs.sound_yes.Goals as goal

pub returns : goal.returns
returns c = λ book w cert are length_is pay_is h. sound book w cert are length_is pay_is h
