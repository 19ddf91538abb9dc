use Rattle.cert_soundness.proofs.ShortText.{short}
use Rattle.cert_soundness.proofs.short_text.Goals as goal

pub returns : goal.returns
returns c = λ book w cert within is priced few. short book w cert within is priced few
