use Rattle.cca_run.proofs.MadeAuctions.{can-be-awarded, is-auction}
use Rattle.cca_run.proofs.auction_laws.made_auction.Goals as goal

pub returns-clause-auction : goal.returns-clause-auction
returns-clause-auction c =
    is-auction c.stated_award.ensures c.stated_log.ensures c.answered_log.ensures.answered c.answered_log.ensures.complete c.few_winners.ensures

pub returns-clause-awarded : goal.returns-clause-awarded
returns-clause-awarded c =
    can-be-awarded c.stated_award.ensures c.stated_log.ensures c.answered_log.ensures.answered c.answered_log.ensures.complete c.few_winners.ensures
