-- A made auction on two files.
use Rattle.std.specs.Prelude.{◌≡◌, ℕ, Option, Some, List}
use Rattle.big_auction.specs.AwardText.{made_award_text}
use Rattle.big_auction.specs.LogText.{log_text}
use Rattle.big_auction.specs.MadeLog.{made_log}

-- one file contains the made award, and the other the text of the log of this
-- number
pub record HoldMade (number : ℕ) (file : List ℕ → Option (List ℕ)) (award log : List ℕ) : Type 0 where
  pub terms : file award ≡ Some made_award_text
  pub lines : file log ≡ Some (log_text (made_log number))
