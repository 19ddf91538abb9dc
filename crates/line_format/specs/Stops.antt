-- What stops the reader of a text.
use Rattle.std.specs.Prelude.{ℕ}
use Rattle.line_format.specs.declared.stop.LineStop.{LineStop}
use Rattle.line_format.specs.declared.stop.LineStop.TheVariants.{Form, Limit, Memory}
use Rattle.line_format.specs.declared.stop.TextStop.{TextStop}
use Rattle.line_format.specs.declared.stop.TextStop.TheVariants as text

-- the stop of the reader at the line that begins at this place
abbrev pub text_stop : {L : Type 0} → LineStop L → ℕ → TextStop L
text_stop Form place = text.Form place
text_stop (Limit limit) place = text.Limit limit
text_stop Memory place = text.Memory
