use Rattle.std.proofs.Common.{arith}
use Rattle.big_auction.specs.MadeAward.{made_name, made_terms}
use Rattle.big_auction.specs.MadeLog.{made_log}
use Rattle.big_auction.proofs.MadeLines.{log-length}
use Rattle.big_auction.proofs.StatedLog.{log-stated}
use Rattle.big_auction.proofs.laws.stated_log.Goals as goal

pub returns : goal.returns
returns c = λ number. c.written_log.ensures made_terms made_name (made_log number) (log-stated number) (omega (arith, log-length number))
