-- What a made auction is: a lawful award that its text states, and a log on it that is read as its lines and runs to its end.
use Rattle.std.specs.Prelude.{◌≡◌, ◌≤◌, ℕ, IsTrue, List, reverse, true}
use Rattle.core_laws.specs.Winners.{winners_in}
use Rattle.auction_model.specs.Book.{market_of}
use Rattle.auction_rules.specs.BookOfLog.{book_of_log, is_complete}
use Rattle.award_file.specs.Award.{IsAward}
use Rattle.award_file.specs.Reading.{reading, stated_terms}
use Rattle.log_file.specs.LogReading.{AreLog, log_records}
use Rattle.big_auction.specs.Answered.{AreAnsweredOk}
use Rattle.big_auction.specs.AwardText.{made_award_text}
use Rattle.big_auction.specs.LogText.{log_text}
use Rattle.big_auction.specs.MadeAward.{made_terms}
use Rattle.big_auction.specs.MadeLog.{made_log}

-- the award keeps all rules and limits, its text is read as its terms, the text of the log of the number is read as its lines,
-- the reply to each is Ok, the log is complete, and no choice that fits has more than four winners
pub record IsMadeAuction (number : ℕ) : Type 0 where
  pub lawful : IsAward made_terms
  pub stated : reading made_award_text ≡ stated_terms made_terms
  pub read : AreLog made_terms (log_records (log_text (made_log number))) (made_log number)
  pub answered : AreAnsweredOk made_terms (reverse (made_log number))
  pub complete : is_complete made_terms (reverse (made_log number)) ≡ true
  pub few : (choice : List ℕ) → IsTrue ((market_of (book_of_log made_terms (reverse (made_log number)))).allowed choice) → winners_in choice ≤ 4
