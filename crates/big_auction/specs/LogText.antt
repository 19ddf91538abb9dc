-- The text of a made log, where bidders have the names of the made award.
use Rattle.std.specs.Prelude.{ℕ, List}
use Rattle.auction_rules.specs.declared.Event.{Event}
use Rattle.log_file.specs.LogText as text
use Rattle.big_auction.specs.MadeAward.{made_name}

abbrev pub event_text : Event → List ℕ
event_text e = text.event_text made_name e

abbrev pub log_text : List Event → List ℕ
log_text events = text.log_text made_name events
