use Rattle.outcome.proofs.ReviewTexts.{one-text}
use Rattle.outcome.proofs.reviewing.laws.one_review_text.Goals as goal

pub returns : goal.returns
returns c = one-text c.winning_choice.ensures.one c.book_market.ensures
