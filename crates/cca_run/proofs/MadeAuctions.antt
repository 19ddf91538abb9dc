-- A made auction is one that can be awarded.
use Rattle.std.proofs.Common.{◌≡◌, ◌∙◌, ℕ, IsTrue, Option, Some, None, List, [], ◌∷◌, length, refl, ap, true, arith}
use Rattle.std.specs.Prelude.{◌≤◌, reverse}
use Rattle.std.specs.Option.{option_or}
use Rattle.auction_model.specs.Book.{market_of}
use Rattle.auction_model.specs.Greatest.{IsWinning}
use Rattle.auction_rules.specs.BookOfLog.{book_of_log, is_complete}
use Rattle.auction_rules.specs.Replies.{reply_to}
use Rattle.auction_rules.specs.Terms.{Terms}
use Rattle.auction_rules.specs.declared.Event.{Event}
use Rattle.auction_rules.specs.declared.Event.TheVariants.{Bid, Close, Draft, Drop, Submit}
use Rattle.auction_rules.specs.declared.Reply.{Reply}
use Rattle.auction_rules.specs.declared.Reply.TheVariants as reply
use Rattle.award_file.specs.Reading.{reading, stated_terms}
use Rattle.big_auction.specs.Answered.{AreAnsweredOk}
use Rattle.big_auction.specs.AwardText.{made_award_text}
use Rattle.big_auction.specs.LogText.{log_text}
use Rattle.big_auction.specs.MadeAward.{made_terms}
use Rattle.big_auction.specs.MadeLog.{made_log}
use Rattle.core_laws.specs.Winners.{winners_in}
use Rattle.limits.specs.declared.TheConstants.{AWARD_BYTES, LOG_BYTES, MOST_WINNERS}
use Rattle.log_file.specs.LogReading.{AreLog, log_records}
use Rattle.log_replay.specs.ReplyLines.{first_refusal, refusal_of}
use Rattle.log_replay.specs.declared.results.ReplayStop.{ReplayStop}
use Rattle.cca_run.specs.Headline.{CanBeAwarded, IsAuction, book_of}
use Rattle.cca_run.specs.Made.{HoldMade}

-- a line that has the reply Ok is refused for no
-- limit
none-of : (line : Event) → refusal_of line reply.Ok ≡ None
none-of (Bid bidder lots) = refl
none-of (Draft bidder lots amount) = refl
none-of (Drop bidder lots) = refl
none-of (Submit bidder) = refl
none-of Close = refl

no-refusal : (terms : Terms) (log : List Event) → AreAnsweredOk terms log → first_refusal terms log ≡ None
no-refusal terms [] all = refl
no-refusal terms (line ∷ log) (ok, rest) =
    ap (λ (r : Option ReplayStop). option_or r (refusal_of line (reply_to terms log line))) (no-refusal terms log rest)
    ∙ ap (λ (a : Reply). option_or None (refusal_of line a)) ok ∙ none-of line

module _ (states : reading made_award_text ≡ stated_terms made_terms)
    (reads : (number : ℕ) → AreLog made_terms (log_records (log_text (made_log number))) (made_log number))
    (answered : (number : ℕ) → AreAnsweredOk made_terms (reverse (made_log number)))
    (complete : (number : ℕ) → is_complete made_terms (reverse (made_log number)) ≡ true)
    (few : (number : ℕ) (choice : List ℕ) → IsTrue ((market_of (book_of_log made_terms (reverse (made_log number)))).allowed choice)
    → winners_in choice ≤ 4) where
  pub is-auction : (number : ℕ) (file : List ℕ → Option (List ℕ)) (award log : List ℕ) → HoldMade number file award log
      → IsAuction file award log made_terms (made_log number)
  is-auction number file award log holds = record {
    award_states = record { bytes = made_award_text; here = holds.terms; said = states };
    log_states = record { bytes = log_text (made_log number); here = holds.lines; said = reads number };
    complete = complete number;
  }

  pub can-be-awarded : (number : ℕ) (file : List ℕ → Option (List ℕ)) (award log : List ℕ) → HoldMade number file award log
      → length made_award_text ≤ AWARD_BYTES → length (log_text (made_log number)) ≤ LOG_BYTES → CanBeAwarded file award log
  can-be-awarded number file award log holds short_award short_log = record {
    terms = made_terms;
    lines = made_log number;
    auction = is-auction number file award log holds;
    short_award = record { bytes = made_award_text; here = holds.terms; said = short_award };
    short_log = record { bytes = log_text (made_log number); here = holds.lines; said = short_log };
    never_limited = no-refusal made_terms (reverse (made_log number)) (answered number);
    few = λ winners wins. at-most winners (few number winners wins.passed);
  }
    where
      at-most : (winners : List ℕ) → winners_in winners ≤ 4 → winners_in winners ≤ MOST_WINNERS
      at-most winners four = omega (arith, four)
