use Rattle.std.proofs.Common.{◌∙◌, ap, arith, rules, pos, ◌-ℤ◌}
use Rattle.std.proofs.lemmas.Int.{to_z-of_z, fits_signed_from_abs}
use Rattle.auction_model.specs.Book.{market_of, net_of}
use Rattle.auction_model.specs.Lowered.{lowered}
use Rattle.auction_model.specs.Market.{sum_after}
use Rattle.auction_model.specs.Menu.{fits_after}
use Rattle.auction_model.specs.Greatest.{IsFirstGreatest}
use Rattle.auction_model.specs.Prices.{IsVickreyPrice}
use Rattle.auction_model.specs.Table.{IsEntry}
use Rattle.auction_model.proofs.BookMarket.{winning-count}
use Rattle.value_table.specs.BookTable.{menu_without}
use Rattle.vickrey.proofs.VickreyLaws.{greatest-all, first-without, some-used, price-is, winner-known, own-small, left-size, price-size, table-without}
use mir.Val.{SFits}
use mir.Syntax.{w128}
use Rattle.vickrey.proofs.pricing.without_winner.Goals as goal

pub without-requires-clause-whole : goal.without-requires-clause-whole
without-requires-clause-whole c = (c.whole-whole.ensures c.args.book.now c.requires.source).0

pub without-requires-clause-plain : goal.without-requires-clause-plain
without-requires-clause-plain c = (c.whole-whole.ensures c.args.book.now c.requires.source).1

pub most-all-requires : goal.most-all-requires
most-all-requires c = (c.whole-whole.ensures c.args.book.now c.requires.source).0

pub net-own-requires-clause-bid : goal.net-own-requires-clause-bid
net-own-requires-clause-bid c =
    let z = c.args.winners.now in
    let known = winner-known c.args.book.now z c.args.j c.requires.winners c.requires.bidder.0 c.requires.bidder.1 in
    rw c.number.ensures (some-used z c.args.j c.requires.used, known)

pub overflow_sub-single : goal.overflow_sub-single
overflow_sub-single c =
    let all = c.most-all.result in
    let own = c.net-own.result in
    let own_small = own-small c.args.book.now c.args.winners.now c.args.j own c.kept.ensures c.requires.winners c.requires.bidder.0 c.requires.bidder.1
    (c.net-own.ensures ∙ ap (net_of c.args.book.now c.args.j) c.number.ensures) in
    let all_fits : SFits w128 all = search rules in
    let own_fits : SFits w128 own = search rules in
    let left_fits : SFits w128 (all -ℤ own) = fits_signed_from_abs w128 (all -ℤ own) (left-size all own c.most-all.ensures.size own_small) in
    simp to_z-of_z left_fits

pub overflow_sub-single-2 : goal.overflow_sub-single-2
overflow_sub-single-2 c =
    let others = c.most_without-others.result in
    let all = c.most-all.result in
    let own = c.net-own.result in
    let own_small = own-small c.args.book.now c.args.winners.now c.args.j own c.kept.ensures c.requires.winners c.requires.bidder.0 c.requires.bidder.1
    (c.net-own.ensures ∙ ap (net_of c.args.book.now c.args.j) c.number.ensures) in
    let others_fits : SFits w128 others = search rules in
    let all_fits : SFits w128 all = search rules in
    let own_fits : SFits w128 own = search rules in
    let left_fits : SFits w128 (all -ℤ own) = fits_signed_from_abs w128 (all -ℤ own) (left-size all own c.most-all.ensures.size own_small) in
    let price_fits : SFits w128 (others -ℤ (all -ℤ own)) = fits_signed_from_abs w128 (others -ℤ (all -ℤ own))
    (price-size others all own c.most_without-others.ensures.size c.most-all.ensures.size own_small) in
    simp to_z-of_z price_fits

pub returns-clause-single : goal.returns-clause-single
returns-clause-single c =
    let book = c.args.book.now in
    let z = c.args.winners.now in
    let j = c.args.j in
    let whole = c.whole-whole.result.now in
    let of_whole = c.whole-whole.ensures book c.requires.source in
    let table = c.in_ok-table.table in
    let plain = c.in_ok-table.ensures.plain in
    let others = c.most_without-others.result in
    let all = c.most-all.result in
    let own = c.net-own.result in
    let is = c.net-own.ensures ∙ ap (net_of book j) c.number.ensures in
    let own_small = own-small book z j own c.kept.ensures c.requires.winners c.requires.bidder.0 c.requires.bidder.1 is in
    let others_fits : SFits w128 others = search rules in
    let all_fits : SFits w128 all = search rules in
    let own_fits : SFits w128 own = search rules in
    let left_fits : SFits w128 (all -ℤ own) = fits_signed_from_abs w128 (all -ℤ own) (left-size all own c.most-all.ensures.size own_small) in
    let price_fits : SFits w128 (others -ℤ (all -ℤ own)) = fits_signed_from_abs w128 (others -ℤ (all -ℤ own))
    (price-size others all own c.most_without-others.ensures.size c.most-all.ensures.size own_small) in
    let w : IsEntry (menu_without book 0) (lowered (pos 1) (net_of book) whole.surplus) 0 book.supply all =
    rw (of_whole.1.skip, of_whole.1.den) at c.most-all.ensures.most in
    let g : IsFirstGreatest (fits_after (menu_without book j) 0 book.supply) (sum_after (lowered (pos 1) (net_of book) table.surplus) 0)
    c.in_ok-choice.choice = rw (plain.skip, plain.den) at c.in_ok-choice.ensures in
    let price : IsVickreyPrice (market_of book) z j (others -ℤ (all -ℤ own)) =
    price-is book z j others all own c.requires.winners c.requires.used is
    (greatest-all book whole.surplus of_whole.1.zeros all w) c.most_without-others.ensures.most in
    record {
      used = c.requires.used;
      price = simp to_z-of_z price;
      choice = first-without book table.surplus plain.zeros j c.in_ok-choice.choice c.requires.bidder.0 g;
    }

pub returns-clause-table : goal.returns-clause-table
returns-clause-table c = table-without c.args.book.now c.args.j c.in_ok-table.table c.in_ok-table.ensures.exact c.in_ok-table.ensures.plain

pub number-requires : goal.number-requires
number-requires c = (c.requires.bidder.0, omega (arith, c.requires.bidder.1, winning-count c.args.book.now c.args.winners.now c.requires.winners))
