-- The stages of reading weights, and which lines bring the reader from one to the next. They serve the reader's own contracts.
-- The meaning of bytes as weights is defined without them.
use Rattle.std.specs.Prelude.{◌≡◌, ◌⊎◌, ℕ, ◌+◌, ◌<◌, ◌≤◌, Option, None, List, [], ◌∷◌, ◌++◌, codes, length}
use Rattle.auction_model.specs.Book.{Book, bidder_of}
use Rattle.weights_file.specs.WeightsForm.{IsWeight, weight_line}
use Rattle.weights_file.specs.declared.read.Stage.{Stage}
use Rattle.weights_file.specs.declared.read.Stage.TheVariants.{Start, Listing, Ended}

-- the line of the bidder after those that have a weight
abbrev pub Weighs : Book → List ℕ → List ℕ → Stage → Type 0
Weighs book given line next =
    (length given < length book.bidders)
    × ((w : ℕ) × IsWeight w × (line ≡ (weight_line (bidder_of book (length given + 1)).name w).0)
    × (next ≡ Listing (given ++ w ∷ [])))

-- the last line, after the lines of all bidders
abbrev pub Ends : Book → List ℕ → List ℕ → Stage → Type 0
Ends book given line next = (length book.bidders ≤ length given) × (line ≡ codes "end") × (next ≡ Ended given)

abbrev pub Step : Book → Stage → List ℕ → Stage → Type 0
Step book Start line next = (line ≡ codes "weights 1") × (next ≡ Listing [])
Step book (Listing given) line next = Weighs book given line next ⊎ Ends book given line next
Step book (Ended given) line next = ⊥

-- no stage exceeds a limit
abbrev pub excess : Stage → Option ⊥
excess stage = None
