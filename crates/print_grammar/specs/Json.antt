-- The JSON of an outcome: the compact text of one object, whose keys are in alphabetical order, and a line feed. All amounts
-- are gross, just like in the text of prices.
use Rattle.std.specs.Prelude.{◌≡◌, ℕ, zero, suc, Option, Some, None, List, [], ◌∷◌, ◌++◌, codes, map, ℤ, ◌+ℤ◌}
use Rattle.serde_json.specs.Data.{Data, Members, array, member, no_members, number, object, string, unsigned}
use Rattle.serde_json.specs.Find.{of_integer}
use Rattle.serde_json.specs.View.{items_of}
use Rattle.serde_json.specs.Written.{compact_text}
use Rattle.auction_model.specs.Book.{Book, BookBid, bid_of, bidder_of, market_of}
use Rattle.auction_model.specs.Market.{value_of}
use Rattle.auction_model.specs.Prices.{Point}
use Rattle.auction_model.specs.PricingRun.{BidderTurn}
use Rattle.print_grammar.specs.Fractions.{IsFractionText}
use Rattle.print_grammar.specs.Prices.{reserve_of, gross_of, revenue_of}
use Rattle.print_grammar.specs.Turns.{IsTurnLine}

abbrev pub count_json : ℕ → Data
count_json n = number (unsigned n)

abbrev pub amount_json : ℤ → Data
amount_json z = number (of_integer z)

-- a winner: its bid, its name, its package, what it pays and its Vickrey price
abbrev pub winner_json : List ℕ → BookBid → ℤ → List ℕ → Data
winner_json name bid vickrey pays =
    object (member (codes "bid") (count_json bid.amount) (member (codes "name") (string name) (member (codes "package") (array (items_of (map count_json bid.lots)))
    (member (codes "pays") (string pays) (member (codes "vickrey") (amount_json vickrey) no_members)))))

-- the winners after bidder k; v are the Vickrey prices, net
abbrev pub AreWinners : Book → List ℕ → (ℕ → ℤ) → Point → ℕ → List ℕ → List Data → Type 0
AreWinners book z v p k [] winners = winners ≡ []
AreWinners book z v p k (zero ∷ c) winners = AreWinners book z v p (suc k) c winners
AreWinners book z v p k (suc i ∷ c) winners =
    (pays : List ℕ) × (rest : List Data) × IsFractionText (gross_of book z p (suc k)) p.den pays
    × AreWinners book z v p (suc k) c rest
    × (winners ≡ winner_json (bidder_of book (suc k)).name (bid_of book (suc k) (suc i)) (v (suc k) +ℤ reserve_of book (suc k) (suc i)) pays ∷ rest)

-- the line of turn n, without its line feed
abbrev pub IsRound : List ℕ → ℕ → BidderTurn → Data → Type 0
IsRound z n turn round = (line : List ℕ) × IsTurnLine z n turn (line ++ codes "\n") × (round ≡ string line)

-- the lines of these turns of pricing the winners of z, after that many others
abbrev pub AreRounds : List ℕ → ℕ → List BidderTurn → List Data → Type 0
AreRounds z before [] rounds = rounds ≡ []
AreRounds z before (t ∷ turns) rounds = (round : Data) × (rest : List Data) × IsRound z (suc before) t round
    × AreRounds z (suc before) turns rest × (rounds ≡ round ∷ rest)

abbrev pub with_winners : List Data → Members
with_winners winners = member (codes "winners") (array (items_of winners)) no_members

-- the members after the revenue: the rounds, if there are turns, and the winners
abbrev pub AreLastMembers : List ℕ → Option (List BidderTurn) → List Data → Members → Type 0
AreLastMembers z None winners members = members ≡ with_winners winners
AreLastMembers z (Some turns) winners members = (rounds : List Data) × AreRounds z 0 turns rounds
    × (members ≡ member (codes "rounds") (array (items_of rounds)) (with_winners winners))

-- the prices p of the winners of z, with the turns that led to them if there are any
pub record IsOutcome (book : Book) (z : List ℕ) (v : ℕ → ℤ) (p : Point) (turns : Option (List BidderTurn)) (outcome : Data) : Type 0 where
  pub winners : List Data
  pub are_winners : AreWinners book z v p 0 z winners
  pub revenue : List ℕ
  pub is_revenue : IsFractionText (revenue_of book z p (market_of book).bidders) p.den revenue
  pub last : Members
  pub are_last : AreLastMembers z turns winners last
  pub whole : outcome ≡ object (member (codes "net") (amount_json (value_of (market_of book) z)) (member (codes "revenue") (string revenue) last))

abbrev pub IsOutcomeJson : Book → List ℕ → (ℕ → ℤ) → Point → Option (List BidderTurn) → List ℕ → Type 0
IsOutcomeJson book z v p turns text = (outcome : Data) × IsOutcome book z v p turns outcome × (text ≡ compact_text outcome ++ codes "\n")
