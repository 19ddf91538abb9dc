use Rattle.std.proofs.Common.{sym, arith}
use Rattle.auction_model.specs.Book.{menu_of}
use Rattle.auction_model.proofs.ChoiceLaws.{other-length}
use Rattle.choices.proofs.judging.are_known.Goals as goal

pub returns-then-numbers-bidders : goal.returns-then-numbers-bidders
returns-then-numbers-bidders c = sym (other-length (menu_of c.args.book.now) c.args.numbers.now (omega (arith, c.bidders.ensures.bidders)))
