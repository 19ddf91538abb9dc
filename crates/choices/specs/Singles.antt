-- The single winners of a choice.
use Rattle.std.specs.Prelude.{◌≡◌, ℕ, zero, suc, IsTrue, List, [], ◌∷◌, map}
use Rattle.std.specs.List.{AllByRecursion}
use Rattle.auction_model.specs.Market.{Market, uses, value_of}
use Rattle.auction_model.specs.Greatest.{IsFirstGreatest}
use Rattle.auction_model.specs.Prices.{IsVickreyPrice, allowed_without}
use Rattle.choices.specs.declared.chooser.Single.{Single}

-- the bidders that the choice uses, in order, k bidders being passed
abbrev pub winners_after : ℕ → List ℕ → List ℕ
winners_after k [] = []
winners_after k (zero ∷ c) = winners_after (suc k) c
winners_after k (suc i ∷ c) = suc k ∷ winners_after (suc k) c

-- a winner of the choice z with its Vickrey price and the first of the greatest choices without it
pub record IsSingle (m : Market) (z : List ℕ) (s : Single) : Type 0 where
  pub used : IsTrue (uses z s.winner)
  pub price : IsVickreyPrice m z s.winner s.price
  pub choice : IsFirstGreatest (allowed_without m s.winner) (value_of m) s.choice

-- all winners of z, in order
pub record AreSingles (m : Market) (z : List ℕ) (singles : List Single) : Type 0 where
  pub winners : map (λ s. s.winner) singles ≡ winners_after 0 z
  pub each : AllByRecursion (IsSingle m z) singles
