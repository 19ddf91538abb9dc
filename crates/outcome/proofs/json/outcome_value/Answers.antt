use Rattle.std.proofs.Common.{rules, ◌≡◌, ◌∙◌, List, map, ap, sym, subst, arith, FitsSigned, to_z, of_z}
use Rattle.std.specs.Int.{w128}
use Rattle.std.specs.List.{AllByRecursion}
use Rattle.std.proofs.lemmas.Int.{to_z-of_z}
use Rattle.std.proofs.lemmas.Result.{IfOk-weaker}
use Rattle.serde_json.specs.Data.{array}
use Rattle.serde_json.specs.View.{items_of, view}
use Rattle.auction_model.specs.Book.{market_of, menu_of}
use Rattle.auction_model.specs.Market.{value_of}
use Rattle.auction_model.proofs.ChoiceLaws.{known-length}
use Rattle.cert_summary.proofs.Ranges.{value-between}
use Rattle.print_grammar.specs.Json.{amount_json}
use Rattle.outcome.specs.declared.prices.WinnerPrice.{WinnerPrice}
use Rattle.outcome.specs.Json.{winner_data}
use Rattle.outcome.specs.Prices.{CanPrintPrice}
use Rattle.outcome.specs.Printable.{point_of}
use Rattle.outcome.proofs.JsonLists.{net-small, whole-outcome}
use Rattle.outcome.proofs.PriceLists.{have-bids}
use Rattle.outcome.proofs.WinnerLaws.{singles-win}
use Rattle.outcome.proofs.json.outcome_value.Goals as goal

pub winner_values-requires : goal.winner_values-requires
winner_values-requires c =
    let book = c.args.book.now in
    let z = c.args.facts.now.choice in
    let singles = c.args.facts.now.singles in
    subst (λ (l : List WinnerPrice). AllByRecursion (CanPrintPrice book) l) (sym c.deref-2.ensures.value)
    (have-bids book z (point_of c.args.facts.now) c.requires.facts.known singles c.in_ok-prices.prices.items
    (singles-win z singles c.requires.facts.winners) c.in_ok-prices.ensures)

pub amount_value-net-requires : goal.amount_value-net-requires
amount_value-net-requires c =
    let facts = c.args.facts.now in
    let fits : FitsSigned w128 c.args.facts.now.value = search rules in
    let between = value-between c.args.book.now c.kept.ensures facts.choice c.requires.facts.known in
    net-small (to_z w128 (of_z w128 facts.value)) (value_of (market_of c.args.book.now) facts.choice)
    (to_z-of_z w128 facts.value fits ∙ sym c.requires.facts.value) between.0 between.1

pub outcome_object-requires-clause-few : goal.outcome_object-requires-clause-few
outcome_object-requires-clause-few c =
    omega (arith, known-length (menu_of c.args.book.now) 0 c.args.facts.now.choice c.requires.facts.known, c.kept.ensures.bidders)

pub returns : goal.returns
returns c =
    let book = c.args.book.now in
    let facts = c.args.facts.now in
    let prices = c.in_ok-prices.prices.items in
    let fits : FitsSigned w128 c.args.facts.now.value = search rules in
    let winners : view c.in_ok-winners.winners ≡ array (items_of (map (winner_data book) prices)) = c.in_ok-winners.ensures
    ∙ ap (λ (l : List WinnerPrice). array (items_of (map (winner_data book) l))) c.deref-2.ensures.value in
    let net : view c.amount_value-net.result ≡ amount_json (value_of (market_of book) facts.choice) =
    c.amount_value-net.ensures ∙ ap amount_json (to_z-of_z w128 facts.value fits ∙ sym c.requires.facts.value) in
    IfOk-weaker c.outcome_object.result _ _
    (λ x h. whole-outcome book facts.choice (point_of facts) facts.singles prices c.requires.facts.winners c.in_ok-prices.ensures c.paid_in_all.result
    c.paid_in_all.ensures _ h.0 h.1 (view c.amount_value-net.result) (view c.in_ok-revenue.revenue) net c.in_ok-revenue.ensures (view x) h.2)
    (c.outcome_object.ensures (map (winner_data book) prices) winners)
