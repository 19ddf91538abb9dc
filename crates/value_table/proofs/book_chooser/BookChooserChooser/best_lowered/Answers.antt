use Rattle.std.proofs.Common.{◌∙◌, refl, rules}
use Rattle.std.proofs.lemmas.Int.{to_z-of_z}
use Rattle.auction_model.specs.Book.{menu_of, net_of}
use Rattle.auction_model.specs.Lowered.{lowered}
use Rattle.auction_model.specs.Market.{sum_after}
use Rattle.auction_model.specs.Menu.{fits_after}
use Rattle.auction_model.specs.Greatest.{IsFirstGreatest}
use Rattle.auction_model.specs.Table.{IsEntry}
use Rattle.auction_model.proofs.PlainLaws.{IsFirstGreatest-same, fits-without_none}
use Rattle.value_table.specs.BookTable.{menu_without}
use Rattle.value_table.proofs.SingleLaws.{range-of, greatest-is}
use mir.Val.{SFits}
use mir.Syntax.{w128}
use Rattle.value_table.proofs.book_chooser.BookChooserChooser.best_lowered.Goals as goal

pub build-requires-clause-range : goal.build-requires-clause-range
build-requires-clause-range c =
    let s = c.args.self.now in
    let den_fits : SFits w128 c.args.den = search rules in
    rw (to_z-of_z w128 c.args.den den_fits) (range-of s.book.now s.winners c.args.den c.args.surplus.now c.kept.ensures s.winning c.requires)

pub returns-clause-choice : goal.returns-clause-choice
returns-clause-choice c =
    let book = c.args.self.now.book.now in
    let den_fits : SFits w128 c.args.den = search rules in
    let made = c.in_ok-table.ensures.made in
    let counts = lowered c.args.den (net_of book) c.args.surplus.now in
    let found : IsFirstGreatest (fits_after (menu_without book 0) 0 book.supply) (sum_after counts 0) c.in_ok-choice.choice =
    rw (made.0, made.1, made.2, to_z-of_z w128 c.args.den den_fits) at c.in_ok-choice.ensures in
    IsFirstGreatest-same (fits_after (menu_without book 0) 0 book.supply) (fits_after (menu_of book) 0 book.supply) (sum_after counts 0)
    (sum_after counts 0) c.in_ok-choice.choice (λ d. fits-without_none (menu_of book) 0 book.supply d) (λ d. refl) found

pub returns-clause-sum : goal.returns-clause-sum
returns-clause-sum c =
    let book = c.args.self.now.book.now in
    let den_fits : SFits w128 c.args.den = search rules in
    let sum_fits : SFits w128 c.most-sum.result = search rules in
    let made = c.in_ok-table.ensures.made in
    let m = menu_without book 0 in
    let counts = lowered c.args.den (net_of book) c.args.surplus.now in
    let found : IsFirstGreatest (fits_after m 0 book.supply) (sum_after counts 0) c.in_ok-choice.choice =
    rw (made.0, made.1, made.2, to_z-of_z w128 c.args.den den_fits) at c.in_ok-choice.ensures in
    let most : IsEntry m counts 0 book.supply c.most-sum.result =
    rw (made.0, made.1, made.2, to_z-of_z w128 c.args.den den_fits) at c.most-sum.ensures.most in
    to_z-of_z w128 c.most-sum.result sum_fits ∙ greatest-is (fits_after m 0 book.supply) (sum_after counts 0) c.most-sum.result c.in_ok-choice.choice most found
