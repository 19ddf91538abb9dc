use Rattle.std.proofs.Common.{rules, codes, ◌≡◌, ◌∙◌, ap, subst, sym, ◌++◌, List, ℕ, ℤ, FitsSigned}
use Rattle.std.specs.Int.{w128}
use Rattle.std.proofs.lemmas.Int.{to_z-of_z}
use Rattle.std.specs.List.{AllByRecursion}
use Rattle.auction_model.specs.Book.{market_of}
use Rattle.auction_model.specs.Market.{value_of}
use Rattle.print_grammar.specs.WinText.{net_line}
use Rattle.outcome.specs.declared.prices.WinnerPrice.{WinnerPrice}
use Rattle.outcome.specs.Fractions.{fraction_text}
use Rattle.outcome.specs.Prices.{AreWinnerPrices, CanPrintPrice, lines_of}
use Rattle.outcome.specs.Printable.{point_of}
use Rattle.outcome.proofs.PriceLists.{have-bids}
use Rattle.outcome.proofs.Revenue.{price-text}
use Rattle.outcome.proofs.WinnerLaws.{singles-win}
use Rattle.outcome.proofs.certified.printed.Goals as goal

pub add_prices-requires : goal.add_prices-requires
add_prices-requires c =
    let book = c.args.book.now in
    let z = c.args.facts.now.choice in
    let singles = c.args.facts.now.singles in
    subst (λ (l : List WinnerPrice). AllByRecursion (CanPrintPrice book) l) (sym c.deref.ensures.value)
    (have-bids book z (point_of c.args.facts.now) c.requires.known singles c.in_ok-prices.prices.items
    (singles-win z singles c.requires.winners) c.in_ok-prices.ensures)

pub paid_in_all-requires-clause-prices : goal.paid_in_all-requires-clause-prices
paid_in_all-requires-clause-prices c =
    let facts = c.args.facts.now in
    subst (λ (l : List WinnerPrice). AreWinnerPrices c.args.book.now facts.choice (point_of facts) facts.singles l)
    (sym c.deref-2.ensures.value) c.in_ok-prices.ensures

pub returns : goal.returns
returns c =
    let book = c.args.book.now in
    let facts = c.args.facts.now in
    let prices = c.in_ok-prices.prices.items in
    let value-fits : FitsSigned w128 c.args.facts.now.value = search rules in
    let lines : c.add_prices.new.text ≡ lines_of book prices =
    c.in_ok-add_prices.ensures ∙ ap (λ (l : List ℕ). l ++ lines_of book c.deref.result.now) c.new-text.ensures ∙ ap (lines_of book) c.deref.ensures.value in
    let net : c.add_net.new.text ≡ lines_of book prices ++ net_line (value_of (market_of book) facts.choice) =
    c.in_ok-add_net.ensures ∙ ap (λ (x : ℤ). c.add_prices.new.text ++ net_line x) (to_z-of_z w128 facts.value value-fits ∙ sym c.requires.value)
    ∙ ap (λ (l : List ℕ). l ++ net_line (value_of (market_of book) facts.choice)) lines in
    let whole : c.add_revenue.new.text ≡ (lines_of book prices ++ net_line (value_of (market_of book) facts.choice)) ++ codes "revenue "
    ++ fraction_text c.paid_in_all.result ++ codes "\n" =
    c.in_ok-add_revenue.ensures ∙ ap (λ (l : List ℕ). l ++ codes "revenue " ++ fraction_text c.paid_in_all.result ++ codes "\n") net in
    price-text book facts.choice (point_of facts) facts.singles prices c.requires.known c.requires.payments c.requires.winners c.in_ok-prices.ensures
    c.paid_in_all.result c.add_revenue.new.text c.paid_in_all.ensures whole
