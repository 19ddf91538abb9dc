-- The members of a set, and the last point of a run, worked by hand.
use Rattle.std.specs.Prelude.{◌≡◌, ◌==◌, ◌||◌, Option, [], ◌∷◌, refl}
use Rattle.std.specs.declared.option.Option.TheVariants.{None}
use Rattle.auction_model.specs.Prices.{Point}
use Rattle.auction_model.specs.PricingRun.{BidderBlock}
use Rattle.core_laws.specs.Turns.{IsLastPoint}
use Rattle.core_laws.specs.Winners.{members_of, has_member}

-- the members rise
rising : members_of (λ j. (j == 1) || (j == 3)) 3 ≡ 1 ∷ 3 ∷ []
rising = refl

-- bit 1 stands for the second winner, who is bidder 4
second-winner : members_of (has_member (0 ∷ 1 ∷ 0 ∷ 2 ∷ []) 2) 4 ≡ 4 ∷ []
second-winner = refl

-- of two turns the second is the last
second-last : (p q : Point) (b : Option BidderBlock) → IsLastPoint (record { point = p; block = b } ∷ record { point = q; block = None } ∷ []) q
second-last p q b = refl
