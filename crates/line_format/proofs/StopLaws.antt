-- Which stop of the reader comes from which stop at a line.
use Rattle.std.proofs.Common.{◌≡◌, ℕ, refl}
use Rattle.line_format.specs.Stops.{text_stop}
use Rattle.line_format.specs.declared.stop.LineStop.{LineStop}
use Rattle.line_format.specs.declared.stop.LineStop.TheVariants.{Form, Limit, Memory}
use Rattle.line_format.specs.declared.stop.TextStop.TheVariants as text

-- the reader stops for the form at a place only where the line that begins there stops for its form
pub form_stop : {L : Type 0} (stop : LineStop L) (here place : ℕ) → text_stop stop here ≡ text.Form place → (stop ≡ Form) × (here ≡ place)
form_stop Form here place is = (refl, cc)
form_stop (Limit limit) here place is = absurd (cc is)
form_stop Memory here place is = absurd (cc is)

-- the reader stops for a limit only where a line stops for that limit
pub limit_stop : {L : Type 0} (stop : LineStop L) (here : ℕ) (excess : L) → text_stop stop here ≡ text.Limit excess → stop ≡ Limit excess
limit_stop Form here excess is = absurd (cc is)
limit_stop (Limit limit) here excess is = cc
limit_stop Memory here excess is = absurd (cc is)
