use Rattle.std.specs.Prelude.{codes}
use Rattle.big_auction.specs.AwardText.{name_line, number_line, table_line}
use Rattle.big_auction.proofs.Pieces.{category}
use Rattle.big_auction.proofs.award.add_category.Goals as goal

pub returns : goal.returns
returns c =
    category c.args.text.now c.add_table.new.text c.add_number_line.new.text c.add_number_line-2.new.text c.add_number_line-3.new.text
    (table_line (codes "[[category]]")) (name_line c.args.name.now) (number_line (codes "supply") c.args.supply) (number_line (codes "points") c.args.points)
    (number_line (codes "reserve") c.args.reserve)
    c.in_ok-add_table.ensures c.in_ok-add_number_line.ensures c.in_ok-add_number_line-2.ensures c.in_ok-add_number_line-3.ensures
