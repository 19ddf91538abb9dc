use Rattle.std.proofs.Common.{◌-◌, List, ℤ, pos, false, refl, sym, subst, rules}
use Rattle.std.proofs.lemmas.Int.{to_z-of_z}
use Rattle.std.proofs.lemmas.List.{map-id}
use Rattle.auction_model.specs.Lowered.{lowered}
use Rattle.auction_model.specs.Menu.{without}
use Rattle.auction_model.specs.Steps.{IsFirstNumber}
use Rattle.auction_model.specs.Table.{IsLine}
use Rattle.auction_model.specs.Book.{menu_of, net_of}
use Rattle.auction_model.specs.Place.{left_at}
use Rattle.value_table.proofs.LineLaws.{entry-lowered, line-lowered, number-plain, zeros-range}
use mir.Val.{SFits}
use mir.Syntax.{w128}
use Rattle.value_table.proofs.side_lines.plain_number.Goals as goal

pub invariant_of-lowered : goal.invariant_of-lowered
invariant_of-lowered c = record {
  bidders = c.requires.count;
  range = zeros-range c.args.book.now false c.args.surplus.now c.kept.ensures c.requires.zeros;
}

pub first_number-requires-clause-here : goal.first_number-requires-clause-here
first_number-requires-clause-here c =
    let book = c.args.book.now in
    let fits : SFits w128 c.args.entry = search rules in
    rw (to_z-of_z w128 c.args.entry fits) (entry-lowered (menu_of book) (net_of book) c.args.surplus.now (λ j. refl) c.requires.zeros (c.args.k - 1)
    (left_at book.supply c.args.place) c.args.entry c.requires.entry)

pub first_number-requires-clause-below : goal.first_number-requires-clause-below
first_number-requires-clause-below c =
    let book = c.args.book.now in
    subst (IsLine (without (menu_of book) 0) (lowered (pos 1) (net_of book) c.args.surplus.now) book.supply c.args.k) (sym (map-id c.args.after.now))
    (line-lowered (menu_of book) (net_of book) c.args.surplus.now (λ j. refl) c.requires.zeros book.supply c.args.k c.args.after.now c.requires.after)

pub returns-clause-first : goal.returns-clause-first
returns-clause-first c =
    let book = c.args.book.now in
    let fits : SFits w128 c.args.entry = search rules in
    number-plain (menu_of book) (net_of book) c.args.surplus.now (λ j. refl) c.requires.zeros book.supply c.args.k c.args.place c.args.entry c.args.after.now
    c.first_number.result c.requires.bidder.0
    (subst (λ (b : List ℤ). IsFirstNumber (without (menu_of book) 0) (lowered (pos 1) (net_of book) c.args.surplus.now) book.supply c.args.k
    c.args.place c.args.entry b
    c.first_number.result) (map-id c.args.after.now) (rw (to_z-of_z w128 c.args.entry fits) at c.first_number.ensures.first))
