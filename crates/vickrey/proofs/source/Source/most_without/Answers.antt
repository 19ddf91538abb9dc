use Rattle.std.proofs.Common.{rules, pos}
use Rattle.std.proofs.lemmas.Int.{to_z-of_z}
use Rattle.auction_model.specs.Book.{net_of}
use Rattle.auction_model.specs.Lowered.{lowered}
use Rattle.auction_model.specs.Table.{IsEntry}
use Rattle.value_table.specs.BookTable.{menu_without}
use Rattle.vickrey.proofs.VickreyLaws.{greatest-without}
use mir.Val.{SFits}
use mir.Syntax.{w128}
use Rattle.vickrey.proofs.source.Source.most_without.Goals as goal

pub returns-in-WholeTable-clause-most : goal.returns-in-WholeTable-clause-most
returns-in-WholeTable-clause-most c =
    let book = c.args.book.now in
    let table = c.args.table.now in
    let j = c.args.j in
    let z = c.most.result in
    let z_fits : SFits w128 z = search rules in
    let e : IsEntry (menu_without book j) (lowered (pos 1) (net_of book) table.surplus) 0 book.supply z =
    rw (c.requires.plain.skip, c.requires.plain.den) at c.most.ensures.most in
    rw (to_z-of_z w128 z z_fits) (greatest-without book table.surplus c.requires.plain.zeros j z c.requires.bidder.0 e)
