-- A raised price, by its properties.
use Rattle.std.specs.Prelude.{◌≡◌, ℕ, ◌+◌}
use Rattle.award_file.specs.Award.{Steps}
use Rattle.auction_rules.specs.Step.{IsRaise, IsReachedShare}

-- the price after a round with this excess: the permille belongs to the greatest threshold that the excess reaches, and the
-- raise is the least multiple of the tick that is at least the tick and at least that many thousandths of the price
pub record IsRaisedPrice (table : Steps) (price excess raised : ℕ) : Type 0 where
  pub permille : ℕ
  pub reached : IsReachedShare table.thresholds excess permille
  pub raise : ℕ
  pub least : IsRaise table.tick price permille raise
  pub sum : raised ≡ price + raise
