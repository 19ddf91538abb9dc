-- Why a line is not taken, and what the numbers of a line are.
use Rattle.std.specs.Prelude.{◌≡◌, ◌≢◌, ℕ, ◌≤◌, List, ◌∷◌, ◌++◌}
use Rattle.std.specs.List.{AllByRecursion}
use Rattle.limits.specs.declared.TheConstants.{MOST_AMOUNT}
use Rattle.limits.specs.declared.LimitKind.TheVariants.{Categories, Lots, States}
use Rattle.line_format.specs.Fields.{FieldEnds}
use Rattle.lots.specs.declared.LotStop.{LotStop}
use Rattle.lots.specs.declared.LotStop.TheVariants as lots
use Rattle.book_grammar.specs.BookLines.{Excess}
use Rattle.line_format.specs.declared.stop.LineStop.{LineStop}
use Rattle.line_format.specs.declared.stop.LineStop.TheVariants.{Form, Limit, Memory}

-- the numbers of a book's lines: none is above the greatest amount
abbrev pub AreNumbers : List ℕ → Type 0
AreNumbers ns = AllByRecursion (λ n. n ≤ MOST_AMOUNT) ns

-- the text is a space, a field without spaces, and what follows it
pub record IsField (text field more : List ℕ) : Type 0 where
  pub spelled : text ≡ 32 ∷ field ++ more
  pub own : AllByRecursion (λ c. c ≢ 32) field
  pub stops : FieldEnds more

-- a count without lots is a fault of form
abbrev pub line_stop : LotStop → LineStop Excess
line_stop (lots.Categories count) = Limit (Categories, count)
line_stop (lots.Zero category) = Form
line_stop (lots.Lots count) = Limit (Lots, count)
line_stop (lots.States count) = Limit (States, count)
line_stop lots.Memory = Memory
