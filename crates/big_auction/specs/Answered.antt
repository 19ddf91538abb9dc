-- What the auction makes of a log. A list of lines has its newest line first.
use Rattle.std.specs.Prelude.{◌≡◌, List, [], ◌∷◌}
use Rattle.auction_rules.specs.declared.Event.{Event}
use Rattle.auction_rules.specs.declared.Reply.TheVariants.{Ok}
use Rattle.auction_rules.specs.Terms.{Terms}
use Rattle.auction_rules.specs.Replies.{reply_to}

-- the reply to each line is Ok, after the lines before it
abbrev pub AreAnsweredOk : Terms → List Event → Type 0
AreAnsweredOk terms [] = Unit {0}
AreAnsweredOk terms (line ∷ log) = (reply_to terms log line ≡ Ok) × AreAnsweredOk terms log
