-- A book: what is sold, the reserves, and the bids of each bidder in the order of their packages.
use Rattle.std.specs.Prelude.{ℕ, zero, suc, ◌-◌, List, [], length, slice_index_or, ℤ, pos, ◌-ℤ◌}
use Rattle.auction_model.specs.Package.{cost_of}
use Rattle.auction_model.specs.Menu.{Menu, fits_after}
use Rattle.auction_model.specs.Market.{Market}

-- a package with an amount
pub record BookBid : Type 0 where
  pub lots : List ℕ
  pub amount : ℕ

pub record Bidder : Type 0 where
  pub name : List ℕ
  pub bids : List BookBid

pub record Book : Type 0 where
  pub supply : List ℕ
  pub reserves : List ℕ
  pub bidders : List Bidder

abbrev pub no_bid : BookBid
no_bid = record { lots = []; amount = 0 }

abbrev pub no_bidder : Bidder
no_bidder = record { name = []; bids = [] }

abbrev pub bidder_with : List ℕ → List BookBid → Bidder
bidder_with name bids = record { name = name; bids = bids }

-- the book with other bidders
abbrev pub with_bidders : Book → List Bidder → Book
with_bidders book bidders = record { supply = book.supply; reserves = book.reserves; bidders = bidders }

-- bidder j; bidders are numbered from 1
abbrev pub bidder_of : Book → ℕ → Bidder
bidder_of book j = slice_index_or book.bidders (j - 1) no_bidder

abbrev pub bids_of : Book → ℕ → List BookBid
bids_of book j = (bidder_of book j).bids

-- bid i of bidder j; bids are numbered from 1, and number 0 is none
abbrev pub bid_of : Book → ℕ → ℕ → BookBid
bid_of book j zero = no_bid
bid_of book j (suc i) = slice_index_or (bids_of book j) i no_bid

-- its package, and the empty package at 0
abbrev pub lots_of : Book → ℕ → ℕ → List ℕ
lots_of book j i = (bid_of book j i).lots

-- its net amount: its amount less the reserve of its package, and 0 at 0
abbrev pub net_of : Book → ℕ → ℕ → ℤ
net_of book j zero = pos 0
net_of book j (suc i) = pos (bid_of book j (suc i)).amount -ℤ pos (cost_of book.reserves (lots_of book j (suc i)))

abbrev pub menu_of : Book → Menu
menu_of book = record { bidders = length book.bidders; bids = λ j. length (bids_of book j); lots = lots_of book }

-- The market of a book: a choice is allowed when it is known and fits the supply, and a bid is worth its net amount. The
-- seller keeps unsold lots at reserve.
abbrev pub market_of : Book → Market
market_of book = record {
  bidders = length book.bidders;
  bids = λ j. length (bids_of book j);
  allowed = fits_after (menu_of book) 0 book.supply;
  worth = net_of book;
}
