-- The tests C1 to C9 of a certificate of a book and the weights of its bidders. A test asks something at each of its places, in the order of the places, and nothing at any other number.
use Rattle.std.specs.Prelude.{◌≡◌, ℕ, zero, suc, ◌+◌, ◌-◌, ◌*◌, ◌^◌, ◌<◌, ◌≤◌, IsTrue, List, length, ℤ, pos, ◌+ℤ◌, ◌-ℤ◌, ◌*ℤ◌, ◌≤ℤ◌, ◌<ℤ◌, ◌⊎◌, if◌then◌else◌}
use Rattle.auction_model.specs.Package.{is_within, less}
use Rattle.auction_model.specs.Market.{is_number_before, number_of, uses, value_of}
use Rattle.auction_model.specs.Menu.{Menu, packages_after, without}
use Rattle.auction_model.specs.Place.{left_at, place_of, states_of}
use Rattle.auction_model.specs.Table.{entry_at}
use Rattle.auction_model.specs.Lowered.{of_bidder}
use Rattle.auction_model.specs.Book.{Book, bids_of, market_of, menu_of, net_of}
use Rattle.auction_model.specs.Prices.{everyone, sum_over}
pub use Rattle.cert_soundness.specs.MarketTests.{sum_holding}
use Rattle.cert_soundness.specs.MarketTests.{won_in, vickrey_in, PaysWithinBids, IsTight, HasTightRow, ShowsLeastSum, ShowsNearest}
use Rattle.cert_grammar.specs.Certificate.{CertValue, WithoutValue, RowValue, part_of}

-- The Bellman rules for line k at place s: the last line is not below 0, each other line is at least the line below it, and at least the worth of each bid that fits with what the line below has for the rest.
pub record ObeysAt (m : Menu) (worth : ℕ → ℕ → ℤ) (supply : List ℕ) (table : List (List ℤ)) (k s : ℕ) : Type 0 where
  pub last : k ≡ m.bidders → pos 0 ≤ℤ entry_at table k s
  pub none : k < m.bidders → entry_at table (suc k) s ≤ℤ entry_at table k s
  pub bid : k < m.bidders → (i : ℕ) → 0 < i → i ≤ m.bids (suc k)
      → IsTrue (is_within (m.lots (suc k) i) (left_at supply s))
      → (worth (suc k) i +ℤ entry_at table (suc k) (place_of supply (less (left_at supply s) (m.lots (suc k) i)))) ≤ℤ entry_at table k s

-- the rules for all lines and places
abbrev pub Obeys : Menu → (ℕ → ℕ → ℤ) → List ℕ → List (List ℤ) → Type 0
Obeys m worth supply table = (k s : ℕ) → k ≤ m.bidders → s < states_of supply → ObeysAt m worth supply table k s

-- what the bids of the first k bidders leave of the supply
abbrev pub left_after : Menu → List ℕ → List ℕ → ℕ → List ℕ
left_after m supply choice zero = supply
left_after m supply choice (suc k) = less (left_after m supply choice k) (m.lots (suc k) (number_of choice (suc k)))

-- the worth of the bids of the first k bidders
abbrev pub worth_before : (ℕ → ℕ → ℤ) → List ℕ → ℕ → ℤ
worth_before worth choice zero = pos 0
worth_before worth choice (suc k) = worth_before worth choice k +ℤ worth (suc k) (number_of choice (suc k))

-- no bid of bidder k + 1 that comes before its number in the choice reaches the value, together with the table's entry for what it leaves
abbrev pub NoEarlier : Menu → (ℕ → ℕ → ℤ) → List ℕ → List (List ℤ) → List ℕ → ℤ → ℕ → Type 0
NoEarlier m worth supply table choice value k =
    (i : ℕ) → IsTrue (is_number_before i (number_of choice (suc k))) → i ≤ m.bids (suc k)
    → IsTrue (is_within (m.lots (suc k) i) (left_after m supply choice k))
    → (worth (suc k) i +ℤ entry_at table (suc k) (place_of supply (less (left_after m supply choice k) (m.lots (suc k) i)))) <ℤ (value -ℤ worth_before worth choice k)

abbrev pub bidders_of : Book → ℕ
bidders_of book = length book.bidders

-- the number of states, and the place of the whole supply
abbrev pub states : Book → ℕ
states book = states_of book.supply

abbrev pub full : Book → ℕ
full book = states_of book.supply - 1

pub record C1 (c : CertValue) (place : ℕ) : Type 0 where
  pub den : place ≡ 1 → pos 1 ≤ℤ c.den
  pub value : place ≡ 2 → pos 0 ≤ℤ c.value
  pub size : place ≡ 3 → (c.den *ℤ (c.value +ℤ pos 1)) <ℤ pos (2 ^ 120)

pub record C2 (book : Book) (c : CertValue) (place : ℕ) : Type 0 where
  pub known : 0 < place → place ≤ bidders_of book → number_of c.choice place ≤ length (bids_of book place)
  pub fits : place ≡ bidders_of book + 1 → IsTrue (is_within (packages_after (menu_of book) 0 c.choice) book.supply)
  pub value : place ≡ bidders_of book + 2 → value_of (market_of book) c.choice ≡ c.value

pub record C3 (book : Book) (c : CertValue) (place : ℕ) : Type 0 where
  pub rules : (k s : ℕ) → k ≤ bidders_of book → s < states book → place ≡ k * states book + s
      → ObeysAt (menu_of book) (net_of book) book.supply c.table k s
  pub top : place ≡ (bidders_of book + 1) * states book → entry_at c.table 0 (full book) ≤ℤ c.value
  pub first : (k : ℕ) → k < bidders_of book
      → place ≡ (bidders_of book + 1) * states book + suc k → NoEarlier (menu_of book) (net_of book) book.supply c.table c.choice c.value k

-- a part without winner j: its choice is known, fits and does not use j, and its table shows that no such choice is worth more
pub record IsPart (book : Book) (j : ℕ) (part : WithoutValue) : Type 0 where
  pub allowed : IsTrue ((market_of book).allowed part.choice)
  pub unused : number_of part.choice j ≡ 0
  pub rules : Obeys (without (menu_of book) j) (net_of book) book.supply part.table
  pub top : entry_at part.table 0 (full book) ≤ℤ value_of (market_of book) part.choice

pub record C4 (book : Book) (c : CertValue) (place : ℕ) : Type 0 where
  pub part : 0 < place → place ≤ bidders_of book → IsTrue (uses c.choice place)
      → IsPart book place (part_of c.withouts place)

-- the net amount of a winner's bid, and 0 for a loser
abbrev pub won : Book → CertValue → ℕ → ℤ
won book = won_in (market_of book)

-- the tests of payments, rows and multipliers, in the market of the book
abbrev pub C5 : Book → CertValue → ℕ → Type 0
C5 book = PaysWithinBids (market_of book)

abbrev pub IsTightRow : Book → CertValue → RowValue → Type 0
IsTightRow book = IsTight (market_of book)

abbrev pub C6 : Book → CertValue → ℕ → Type 0
C6 book = HasTightRow (market_of book)

abbrev pub C7 : Book → CertValue → ℕ → Type 0
C7 book = ShowsLeastSum (market_of book)

-- the Vickrey price of winner j by its part
abbrev pub vickrey_of : Book → CertValue → ℕ → ℤ
vickrey_of book = vickrey_in (market_of book)

abbrev pub C8 : Book → (ℕ → ℕ) → CertValue → ℕ → Type 0
C8 book = ShowsNearest (market_of book)

-- den times the net amount of a bid, less den times the winner's net amount plus what it pays
abbrev pub lowered_net : Book → CertValue → ℕ → ℕ → ℤ
lowered_net book c j i = (c.den *ℤ net_of book j i) -ℤ (if uses c.choice j then (c.den *ℤ won book c j) -ℤ of_bidder c.pay j else pos 0)

pub record C9 (book : Book) (c : CertValue) (place : ℕ) : Type 0 where
  pub rules : (k s : ℕ) → k ≤ bidders_of book → s < states book → place ≡ k * states book + s
      → ObeysAt (menu_of book) (lowered_net book c) book.supply c.lowered k s
  pub top : place ≡ (bidders_of book + 1) * states book
      → entry_at c.lowered 0 (full book) ≤ℤ sum_over everyone (of_bidder c.pay) (bidders_of book)

-- what test t asks at a place
abbrev pub Asks : Book → (ℕ → ℕ) → CertValue → ℕ → ℕ → Type 0
Asks book w c t place =
    (t ≡ 1 → C1 c place) × (t ≡ 2 → C2 book c place) × (t ≡ 3 → C3 book c place) × (t ≡ 4 → C4 book c place)
    × (t ≡ 5 → C5 book c place)
    × (t ≡ 6 → C6 book c place) × (t ≡ 7 → C7 book c place) × (t ≡ 8 → C8 book w c place) × (t ≡ 9 → C9 book c place)

-- all tests pass at all places
pub record Holds (book : Book) (w : ℕ → ℕ) (c : CertValue) : Type 0 where
  pub c1 : (place : ℕ) → C1 c place
  pub c2 : (place : ℕ) → C2 book c place
  pub c3 : (place : ℕ) → C3 book c place
  pub c4 : (place : ℕ) → C4 book c place
  pub c5 : (place : ℕ) → C5 book c place
  pub c6 : (place : ℕ) → C6 book c place
  pub c7 : (place : ℕ) → C7 book c place
  pub c8 : (place : ℕ) → C8 book w c place
  pub c9 : (place : ℕ) → C9 book c place

-- test t at this place is the first that fails: all before it passes
pub record FailsFirst (book : Book) (w : ℕ → ℕ) (c : CertValue) (t place : ℕ) : Type 0 where
  pub fails : Asks book w c t place → ⊥
  pub before : (u q : ℕ) → (u < t) ⊎ ((u ≡ t) × (q < place)) → Asks book w c u q
