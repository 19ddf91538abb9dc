-- What the answer of a clock to a close says as a reply.
use Rattle.auction_rules.specs.declared.Reply.{Reply}
use Rattle.auction_rules.specs.declared.Reply.TheVariants as reply
use Rattle.clock_stage.specs.declared.closes.Closed.{Closed}
use Rattle.clock_stage.specs.declared.closes.Closed.TheVariants.{Full, Memory, NextRound, PriceTop, StageEnds}

abbrev pub reply_value : Closed → Reply
reply_value (NextRound r) = reply.Ok
reply_value StageEnds = reply.Ok
reply_value (Full n) = reply.Full n
reply_value (PriceTop category price) = reply.PriceTop category price
reply_value Memory = reply.Memory
