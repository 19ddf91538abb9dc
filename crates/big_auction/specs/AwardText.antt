-- The text of an award without holdings of bidders and without spectrum
-- caps.
use Rattle.std.specs.Prelude.{ℕ, List, [], ◌∷◌, ◌++◌, codes, flat_map}
use Rattle.std.specs.Fmt.{decimal}
use Rattle.auction_rules.specs.Terms.{Entrant, Terms}
use Rattle.award_file.specs.Walk.{Category}
use Rattle.big_auction.specs.MadeAward.{made_categories, made_terms}

-- a key with its value, on a line
abbrev pub key_line : List ℕ → List ℕ → List ℕ
key_line key value = key ++ (codes " = " ++ (value ++ 10 ∷ []))

abbrev pub number_line : List ℕ → ℕ → List ℕ
number_line key n = key_line key (decimal n)

-- a name is between quotation marks
abbrev pub name_line : List ℕ → List ℕ
name_line name = key_line (codes "name") (34 ∷ (name ++ 34 ∷ []))

-- the head of a table, after a blank line
abbrev pub table_line : List ℕ → List ℕ
table_line head = 10 ∷ (head ++ 10 ∷ [])

abbrev pub category_text : Category → List ℕ
category_text c = table_line (codes "[[category]]") ++ (name_line c.name ++ (number_line (codes "supply") c.supply ++ (number_line (codes "points") c.points ++ number_line (codes "reserve") c.reserve)))

abbrev pub entrant_text : Entrant → List ℕ
entrant_text e = table_line (codes "[[bidder]]") ++ (name_line e.name ++ number_line (codes "eligibility") e.eligibility)

abbrev pub step_text : ℕ × ℕ → List ℕ
step_text threshold = table_line (codes "[[step]]") ++ (number_line (codes "excess") threshold.0 ++ number_line (codes "permille") threshold.1)

abbrev pub award_text : List Category → Terms → List ℕ
award_text categories terms =
    number_line (codes "version") terms.version
    ++ (number_line (codes "tick") terms.tick
    ++ (flat_map category_text categories
    ++ (flat_map entrant_text terms.bidders
    ++ flat_map step_text terms.thresholds)))

-- the text of the made award
unfoldable pub made_award_text : List ℕ
made_award_text = award_text made_categories made_terms
