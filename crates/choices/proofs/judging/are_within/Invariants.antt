use Rattle.std.proofs.Common.{◌≡◌, ◌<◌, drop}
use Rattle.auction_model.specs.Menu.{fits_after}
use Rattle.auction_model.specs.Place.{left_at, states_of}
use Rattle.auction_model.specs.Book.{menu_of}
use Rattle.choices.proofs.judging.are_within.Given as goal

abbrev pub invariant-loop-k : goal.invariant-loop-k
invariant-loop-k l = record {
  place : l.place < states_of l.book.supply;
  rest : fits_after (menu_of l.book) l.k (left_at l.book.supply l.place) (drop l.k l.numbers) ≡ fits_after (menu_of l.book) 0 l.book.supply l.numbers;
}
