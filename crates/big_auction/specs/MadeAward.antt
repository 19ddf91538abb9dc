-- The award that is made: one for all numbers.
use Rattle.std.specs.Prelude.{ℕ, List, [], ◌∷◌, codes, replicate, length}
use Rattle.std.specs.Fmt.{decimal}
use Rattle.auction_rules.specs.Terms.{Entrant, Terms}
use Rattle.auction_rules.specs.Rounds.{listing}
use Rattle.award_file.specs.Award.{entrant_with}
use Rattle.award_file.specs.Walk.{Category, terms_from}

abbrev pub category_with : List ℕ → ℕ → ℕ → ℕ → Category
category_with name supply points reserve = record { name = name; supply = supply; points = points; reserve = reserve }

abbrev pub made_categories : List Category
made_categories =
    category_with (codes "a") 4 10 1000
    ∷ category_with (codes "b") 1 10 1500
    ∷ category_with (codes "c") 14 1 100
    ∷ category_with (codes "e") 9 1 10
    ∷ []

-- the name of bidder k: a b and its number
abbrev pub made_name : ℕ → List ℕ
made_name k = 98 ∷ decimal k

abbrev pub made_bidders : ℕ
made_bidders = 12

-- bidder k, with the eligibility for more than any made package and no holding
abbrev pub made_entrant : ℕ → Entrant
made_entrant k = entrant_with (made_name k) 73 (replicate (length made_categories) 0)

-- version 1, a tick of 1, the thousandths by excess, no spectrum cap
abbrev pub made_terms : Terms
made_terms = terms_from 1 1 made_categories ((1, 100) ∷ (5, 200) ∷ []) [] (listing made_entrant made_bidders)
