use Rattle.std.proofs.Common.{◌≡◌, ◌-◌, ◌+◌, ℕ, true, length, subst, arith}
use Rattle.auction_model.specs.Book.{menu_of, net_of}
use Rattle.auction_model.specs.Table.{IsLine}
use Rattle.value_table.specs.Turned.{in_order, worths_in_order}
use Rattle.value_table.proofs.LineLaws.{line-left, line-turned}
use Rattle.value_table.proofs.side_lines.narrow_left_line.Goals as goal

pub side_line-requires-clause-below : goal.side_line-requires-clause-below
side_line-requires-clause-below c =
    let book = c.args.book.now in
    let place : length book.bidders - (c.args.k - 1) ≡ c.bidders-bidders.result - c.args.k + 1 = omega (arith, c.bidders-bidders.ensures.bidders) in
    subst (λ (n : ℕ). IsLine (in_order true (menu_of book)) (worths_in_order true (length book.bidders) (net_of book)) book.supply n c.args.before.now) place
    (line-turned book (c.args.k - 1) c.args.before.now (omega arith) c.requires.before)

pub returns-clause-line : goal.returns-clause-line
returns-clause-line c =
    let book = c.args.book.now in
    let place : c.bidders-bidders.result - c.args.k + 1 - 1 ≡ length book.bidders - c.args.k = omega (arith, c.bidders-bidders.ensures.bidders) in
    line-left book c.args.k c.side_line.new.line (omega arith)
    (subst (λ (n : ℕ). IsLine (in_order true (menu_of book)) (worths_in_order true (length book.bidders) (net_of book)) book.supply n
    c.side_line.new.line) place c.side_line.ensures.line)
