-- The replies to a log, line for line, and its result. A log has its newest line first.
use Rattle.std.specs.Prelude.{ℕ, suc, Option, Some, None, Result, Ok, Err, List, [], ◌∷◌, ◌++◌, length, if◌then◌else◌}
use Rattle.std.specs.Option.{option_or}
use Rattle.limits.specs.declared.TheConstants.{MOST_ROUNDS}
use Rattle.auction_model.specs.Book.{Book}
use Rattle.auction_rules.specs.BookOfLog.{book_of_log, is_complete}
use Rattle.auction_rules.specs.Replies.{log_prices, log_round, log_stage, reply_to}
use Rattle.auction_rules.specs.Terms.{Terms}
use Rattle.auction_rules.specs.declared.Event.{Event}
use Rattle.auction_rules.specs.declared.Event.TheVariants.{Close}
use Rattle.auction_rules.specs.declared.Reply.{Reply}
use Rattle.auction_rules.specs.declared.Reply.TheVariants as reply
use Rattle.auction_rules.specs.declared.Stage.{Stage}
use Rattle.auction_rules.specs.declared.Stage.TheVariants as stage
use Rattle.log_file.specs.ReplyText.{reply_line}
use Rattle.log_file.specs.declared.CloseDone.{CloseDone}
use Rattle.log_file.specs.declared.CloseDone.TheVariants as done
use Rattle.log_replay.specs.declared.results.ReplayStop.{ReplayStop}
use Rattle.log_replay.specs.declared.results.ReplayStop.TheVariants.{Rounds, Price, Open}

-- what an admitted close did, by the stage after it and the number of the round that is posted there
abbrev pub done_at : Stage → ℕ → CloseDone
done_at stage.Clock round = done.Round round
done_at stage.Sealed round = done.Sealed
done_at stage.Closed round = done.Closed

-- what a line did that got this reply, by the stage and the posted round after it: only an admitted close has an effect to
-- report
abbrev pub done_by : Event → Reply → Stage → ℕ → Option CloseDone
done_by Close reply.Ok stage round = Some (done_at stage round)
done_by line answer stage round = None

-- what the newest line of a log did
abbrev pub done_of : Terms → Event → List Event → Option CloseDone
done_of terms line log = done_by line (reply_to terms log line) (log_stage terms (line ∷ log)) (log_round terms (line ∷ log))

-- the line that is printed of it
abbrev pub line_of : Terms → Event → List Event → List ℕ
line_of terms line log = reply_line (suc (length log)) (reply_to terms log line) (done_of terms line log) (log_prices terms (line ∷ log))

-- the reply lines of a log, in the order of its lines, which are numbered from 1
abbrev pub reply_lines : Terms → List Event → List ℕ
reply_lines terms [] = []
reply_lines terms (line ∷ log) = reply_lines terms log ++ line_of terms line log

-- The limit that refuses a close: rounds, with one more than there may be, or a price, with what it would be raised to. A draft
-- that is refused for a full list exceeds no limit of the auction.
abbrev pub refusal_of : Event → Reply → Option ReplayStop
refusal_of Close (reply.Full count) = Some (Rounds (suc MOST_ROUNDS))
refusal_of Close (reply.PriceTop category price) = Some (Price price)
refusal_of line answer = None

-- the limit of the first close of a log that is refused for one
abbrev pub first_refusal : Terms → List Event → Option ReplayStop
first_refusal terms [] = None
first_refusal terms (line ∷ log) = option_or (first_refusal terms log) (refusal_of line (reply_to terms log line))

-- the book of a complete log
abbrev pub book_or_open : Terms → List Event → Result Book ReplayStop
book_or_open terms log = if is_complete terms log then Ok (book_of_log terms log) else Err Open

-- the limit that was met, or what else there is
abbrev pub stopped_or : Option ReplayStop → Result Book ReplayStop → Result Book ReplayStop
stopped_or (Some stop) result = Err stop
stopped_or None result = result

-- what a log leads to: its book, or why there is none
abbrev pub end_of : Terms → List Event → Result Book ReplayStop
end_of terms log = stopped_or (first_refusal terms log) (book_or_open terms log)
