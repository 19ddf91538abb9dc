-- What the JSON of an outcome is made of.
use Rattle.std.specs.Prelude.{◌≡◌, ℕ, List, ◌++◌, codes}
use Rattle.std.specs.Str.{IsAscii}
use Rattle.serde_json.specs.Data.{Data}
use Rattle.auction_model.specs.Book.{Book, bid_of, bidder_of}
use Rattle.print_grammar.specs.Json.{winner_json}
use Rattle.outcome.specs.declared.prices.WinnerPrice.{WinnerPrice}
use Rattle.outcome.specs.Fractions.{fraction_text}

-- the object of a winner
abbrev pub winner_data : Book → WinnerPrice → Data
winner_data book price = winner_json (bidder_of book price.bidder).name (bid_of book price.bidder price.bid) price.vickrey (fraction_text price.pays)

-- a line feed ends it, and what comes before is plain
abbrev pub EndsLine : List ℕ → Type 0
EndsLine line = (front : List ℕ) × (line ≡ front ++ codes "\n") × IsAscii front
