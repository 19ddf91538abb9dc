use Rattle.cca_run.proofs.OneAuction.{one-auction}
use Rattle.cca_run.proofs.OneLog.{one_log-answer}
use Rattle.cca_run.proofs.auction_laws.one_auction.Goals as goal

pub returns : goal.returns
returns c =
    let reading = c.one_reading.ensures in
    one-auction (one_log-answer reading.log reading.fault reading.no_fault reading.not_many reading.few_before) c.one_text.ensures.text
