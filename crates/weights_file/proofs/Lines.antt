-- The lines of weights: they have no line feed, and each says one weight.
use Rattle.std.proofs.Common.{◌≡◌, ℕ, ◌+◌, ◌-◌, ◌<◌, List, [], ◌∷◌, ◌++◌, length, get_or, refl, ap, arith}
use Rattle.std.specs.Prelude.{codes}
use Rattle.std.specs.List.{AllByRecursion}
use Rattle.std.specs.Fmt.{decimal}
use Rattle.std.proofs.lemmas.List.{append_cancel_left}
use Rattle.wide_num.proofs.Decimal.{decimal_one, numeral_decimal}
use Rattle.line_format.specs.LineText.{IsLine}
use Rattle.line_format.proofs.Lines.{line_append}
use Rattle.auction_model.specs.Book.{Bidder, Book, bidder_of, no_bidder}
use Rattle.book_grammar.specs.BookForm.{AreBidders, IsName}
use Rattle.bid_book.proofs.Spelled.{digits_line, name_line}
use Rattle.weights_file.specs.WeightsForm.{IsWeight, Line, weight_line, weight_lines}

weight_word : IsLine (codes "weight ")
weight_word = (
  (λ is. absurd (omega arith)),
  (
    (λ is. absurd (omega arith)),
    (
      (λ is. absurd (omega arith)),
      ((λ is. absurd (omega arith)), ((λ is. absurd (omega arith)), ((λ is. absurd (omega arith)), ((λ is. absurd (omega arith)), tt)))),
    ),
  ),
)

-- the first line has no line feed
pub first_word : IsLine (codes "weights 1")
first_word = (
  (λ is. absurd (omega arith)),
  (
    (λ is. absurd (omega arith)),
    (
      (λ is. absurd (omega arith)),
      (
        (λ is. absurd (omega arith)),
        (
          (λ is. absurd (omega arith)),
          (
            (λ is. absurd (omega arith)),
            ((λ is. absurd (omega arith)), ((λ is. absurd (omega arith)), ((λ is. absurd (omega arith)), tt))),
          ),
        ),
      ),
    ),
  ),
)

-- nor has the last one
pub end_word : IsLine (codes "end")
end_word = ((λ is. absurd (omega arith)), ((λ is. absurd (omega arith)), ((λ is. absurd (omega arith)), tt)))

-- nor has the line of a weight
pub weight_feeds : (name : List ℕ) (w : ℕ) → IsName name → IsWeight w → IsLine (weight_line name w).0
weight_feeds name w is weight =
    line_append (codes "weight ") (name ++ 32 ∷ decimal w) weight_word
    (line_append name (32 ∷ decimal w) (name_line name is) (
      (λ feed. absurd (omega arith)),
      digits_line (decimal w)
          (numeral_decimal w (omega (arith, weight.1))).digits,
    ))

-- a line with a bidder's name says one weight
pub weight_one : (name : List ℕ) (v w : ℕ) → IsWeight v → IsWeight w → (weight_line name v).0 ≡ (weight_line name w).0 → v ≡ w
weight_one name v w first second is =
    let behind : name ++ 32 ∷ decimal v ≡ name ++ 32 ∷ decimal w = append_cancel_left (codes "weight ") (name ++ 32 ∷ decimal v) (name ++ 32 ∷ decimal w) is in
    let fields : 32 ∷ decimal v ≡ 32 ∷ decimal w = append_cancel_left name (32 ∷ decimal v) (32 ∷ decimal w) behind in
    let same : decimal v ≡ decimal w = cc in
    decimal_one v w (omega (arith, first.1)) (omega (arith, second.1)) same

-- one more weight is one more line
pub weight_more : (bidders : List Bidder) (given : List ℕ) (w : ℕ) → length given < length bidders
    → weight_lines bidders (given ++ w ∷ []) ≡ weight_lines bidders given ++ weight_line (get_or bidders (length given) no_bidder).name w ∷ []
weight_more [] given w lt = absurd (omega arith)
weight_more (b ∷ bidders) [] w lt = refl
weight_more (b ∷ bidders) (v ∷ given) w lt = ap (λ (r : List Line). weight_line b.name v ∷ r) (weight_more bidders given w (omega arith))

-- the bidder of the next number is the one after those that have a weight
pub next_is : (book : Book) (given : List ℕ) → bidder_of book (length given + 1) ≡ get_or book.bidders (length given) no_bidder
next_is book given = let e : length given + 1 - 1 ≡ length given = omega arith in rw e refl

-- bidders that keep the rules of a book have names of the form
pub names : (supply reserves : List ℕ) (front bs : List Bidder) → AreBidders supply reserves front bs → AllByRecursion (λ b. IsName b.name) bs
names supply reserves front [] all = tt
names supply reserves front (b ∷ bs) all = (all.0.name, names supply reserves (front ++ b ∷ []) bs all.1)
