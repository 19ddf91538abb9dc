-- Whole numbers of a piece.
use Rattle.std.specs.Prelude.{◌≡◌, ℕ, ◌^◌, Bool, List, length, get_or, ◌≤◌, ◌<◌}
use Rattle.line_format.specs.Numeral.{numeral}
use Rattle.cert_stream.specs.declared.line.fields.Field.{Field}
use Rattle.cert_stream.specs.declared.line.LinePart.{LinePart}
use Rattle.cert_stream.specs.declared.line.phase.Phase.TheVariants.{Space}
use Rattle.cert_stream.specs.Pieces.{between}

-- a number is in the piece from this place on, and a space after it
pub record IsField (piece : List ℕ) (at : ℕ) (f : Field) : Type 0 where
  pub spelled : between at f.end piece ≡ numeral f.size
  pub from : at ≤ f.end
  pub within : f.end < length piece
  pub space : get_or piece f.end 0 ≡ 32

-- the first digits of a number are in the piece from this place on
pub record IsFront (piece : List ℕ) (at : ℕ) (f : Field) : Type 0 where
  pub spelled : between at f.end piece ≡ numeral f.size
  pub from : at ≤ f.end
  pub within : f.end ≤ length piece
  pub low : f.size < 10 ^ 14

-- a line after the space where a number has to begin, with that many numbers before it
abbrev pub after_space : ℕ → Bool → LinePart
after_space many over = record { phase = Space; count = many; beyond = over }
