-- What bytes of a piece make of a reader.
use Rattle.std.specs.Prelude.{◌≡◌, ℕ, ◌≤◌, ◌<◌, List, ◌++◌, get_or, ℤ}
use Rattle.cert_grammar.specs.Lines.{Line}
use Rattle.cert_stream.specs.declared.reader.Reader.{Reader}
use Rattle.cert_stream.specs.declared.reader.Progress.{Progress}
use Rattle.cert_stream.specs.declared.reader.Progress.TheVariants.{Open, Ended}
use Rattle.cert_stream.specs.Pieces.{between}
use Rattle.cert_stream.specs.Standing.{StandsBehind, EndsBehind}

-- After the same lines the reader stands for the text with the bytes from this place on; or they make the line whole that is due, and
-- its line feed follows.
abbrev pub Advances : Reader → List ℤ → List ℕ → List Line → List ℕ → ℕ → Progress → Type 0
Advances r room text items piece at (Open end) = StandsBehind r room (text ++ between at end piece) items
Advances r room text items piece at (Ended end) = (get_or piece end 0 ≡ 10)
    × EndsBehind r room (text ++ between at end piece) items

-- a byte was read at least, and none after the piece
abbrev pub IsWithin : ℕ → ℕ → Progress → Type 0
IsWithin at size (Open end) = (at < end) × (end ≤ size)
IsWithin at size (Ended end) = (at ≤ end) × (end < size)
