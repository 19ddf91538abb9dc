-- The form of a file of weights for the bidders of a book: which lists have a text, and its lines.
use Rattle.std.specs.Prelude.{ℕ, ◌≤◌, Option, None, List, [], ◌∷◌, ◌++◌, codes, length}
use Rattle.std.specs.Fmt.{decimal}
use Rattle.line_format.specs.LineText.{Said, Says}
use Rattle.auction_model.specs.Book.{Bidder, Book}
use Rattle.auction_model.specs.Prices.{AreWeights}
use Rattle.limits.specs.declared.TheConstants.{MOST_WEIGHT}

-- no line exceeds a limit
abbrev pub Line : Type 0
Line = List ℕ × Option ⊥

abbrev pub IsWeight : ℕ → Type 0
IsWeight w = (1 ≤ w) × (w ≤ MOST_WEIGHT)

-- the line of the bidder of this name
abbrev pub weight_line : List ℕ → ℕ → Line
weight_line name w = (codes "weight " ++ (name ++ 32 ∷ decimal w), None)

-- the lines of the first bidders, as many as there are weights
abbrev pub weight_lines : List Bidder → List ℕ → List Line
weight_lines bidders [] = []
weight_lines [] (w ∷ weights) = []
weight_lines (b ∷ bidders) (w ∷ weights) = weight_line b.name w ∷ weight_lines bidders weights

abbrev pub lines : Book → List ℕ → List Line
lines book weights = (codes "weights 1", None) ∷ (weight_lines book.bidders weights ++ (codes "end", None) ∷ [])

-- the reading of bytes as weights of a book: a list of one weight for each bidder, or the place of the first faulty
-- line
abbrev pub WeightsSay : Book → List ℕ → Said (List ℕ) ⊥ → Type 0
WeightsSay book bytes said = Says (AreWeights (length book.bidders)) (lines book) bytes said
