use Rattle.std.proofs.Common.{◌≡◌, drop}
use Rattle.auction_model.specs.Menu.{is_known_after}
use Rattle.auction_model.specs.Book.{menu_of}
use Rattle.choices.proofs.judging.are_known.Given as goal

abbrev pub invariant-loop-k : goal.invariant-loop-k
invariant-loop-k l = is_known_after (menu_of l.book) l.k (drop l.k l.numbers) ≡ is_known_after (menu_of l.book) 0 l.numbers
