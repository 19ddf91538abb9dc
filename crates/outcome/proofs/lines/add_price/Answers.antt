use Rattle.std.proofs.Common.{◌≡◌, ◌∙◌, ap, ◌++◌, ◌∷◌, [], List, ℕ, codes}
use Rattle.std.specs.Fmt.{decimal, signed_decimal}
use Rattle.auction_model.specs.Book.{bid_of, bidder_of}
use Rattle.line_format.specs.Decimals.{decimals_text}
use Rattle.outcome.specs.Fractions.{fraction_text}
use Rattle.outcome.proofs.LineLaws.{regroup}
use Rattle.outcome.proofs.lines.add_price.Goals as goal

pub returns : goal.returns
returns c =
    let price = c.args.price.now in
    let t = c.args.text.now in
    let name = (bidder_of c.args.book.now price.bidder).name in
    let bid = bid_of c.args.book.now price.bidder price.bid in
    let won : c.add_package.new.text ≡ ((t ++ codes "winner ") ++ name) ++ decimals_text bid.lots =
    c.in_ok-add_package.ensures ∙ ap (λ (l : List ℕ). ((t ++ codes "winner ") ++ l) ++ decimals_text c.counts.result.now) c.name.ensures
    ∙ ap (λ (l : List ℕ). ((t ++ codes "winner ") ++ name) ++ decimals_text l) (c.counts.ensures ∙ c.bid-bid.ensures.lots) in
    let behind : List ℕ → ℕ → List ℕ = λ l a. (((((l ++ codes " bid ") ++ decimal a) ++ codes " vickrey ") ++ signed_decimal price.vickrey)
    ++ codes " pays ") ++ fraction_text price.pays in
    let paid : c.add_amounts.new.text ≡ behind (((t ++ codes "winner ") ++ name) ++ decimals_text bid.lots) bid.amount =
    c.in_ok-add_amounts.ensures ∙ ap (λ (a : ℕ). behind c.add_package.new.text a) c.bid-bid.ensures.amount
    ∙ ap (λ (l : List ℕ). behind l bid.amount) won in
    c.in_ok-push.ensures ∙ ap (λ (l : List ℕ). l ++ 10 ∷ []) paid
    ∙ regroup t (codes "winner ") name (decimals_text bid.lots) (codes " bid ") (decimal bid.amount) (codes " vickrey ") (signed_decimal price.vickrey)
    (codes " pays ") (fraction_text price.pays) (10 ∷ [])
