use Rattle.std.proofs.Common.{◌≡◌, ◌∙◌, ap, ◌++◌, ◌∷◌, [], List, ℕ, codes}
use Rattle.std.specs.Fmt.{decimal, signed_decimal}
use Rattle.cert_soundness.specs.Sound.{cert_point}
use Rattle.auction_model.specs.Market.{number_of}
use Rattle.outcome.proofs.LineLaws.{regroup}
use Rattle.placement_cert.specs.CertValues.{place_cert_value}
use Rattle.cert_soundness.specs.MarketPrices.{prices_in}
use Rattle.slot_places.specs.Board.{market_of_slots}
use Rattle.slot_places.specs.Slots.{bid_of, bidder_of}
use Rattle.place_price.proofs.PlacePrinting.{winner-line}
use Rattle.place_price.proofs.printing.lines.add_winner.Goals as goal

pub returns : goal.returns
returns c =
    let slots = c.args.slots.now in
    let p = (place_cert_value c.args.cert.now).cert in
    let v = prices_in (market_of_slots slots) p in
    let t = c.args.text.now in
    let j = c.args.j in
    let n = number_of p.choice j in
    let name = (bidder_of slots j).name in
    let bid = bid_of slots j n in
    let prices = c.in_ok-add_prices.ensures in
    let whole = prices.2 ∙ ap (λ (l : List ℕ). (((l ++ codes " vickrey ") ++ signed_decimal (v j)) ++ codes " pays ") ++ prices.0 ++ codes "\n")
    c.in_ok-add_bid.ensures
    ∙ regroup t (codes "winner ") name (32 ∷ decimal bid.start) (codes " bid ") (decimal bid.amount) (codes " vickrey ") (signed_decimal (v j))
    (codes " pays ") prices.0 (10 ∷ []) in
    winner-line slots v (cert_point p) j n prices.0 t c.add_prices.new.text c.requires.wins prices.1 whole
