use Rattle.std.proofs.Common.{◌≡◌, ◌∙◌, ap, ◌++◌, ◌∷◌, List, ℕ, codes}
use Rattle.std.specs.Fmt.{decimal}
use Rattle.auction_model.specs.Market.{number_of}
use Rattle.slot_places.specs.Slots.{bid_of, bidder_of}
use Rattle.place_price.proofs.printing.lines.add_bid.Goals as goal

pub returns : goal.returns
returns c =
    let slots = c.args.slots.now in
    let t = c.args.text.now in
    let j = c.args.j in
    let name = (bidder_of slots j).name in
    let bid = bid_of slots j (number_of c.args.cert.now.choice j) in
    let on : (a b c : List ℕ) → a ≡ b → a ++ c ≡ b ++ c = λ a b c e. ap (λ (l : List ℕ). l ++ c) e in
    let word : c.add.new.self ≡ t ++ codes "winner " = c.in_ok-add.ensures in
    let named : c.add-2.new.self ≡ (t ++ codes "winner ") ++ name = c.in_ok-add-2.ensures ∙ ap (λ (l : List ℕ). c.add.new.self ++ l)
    (c.as_bytes.ensures.value ∙ c.name.ensures) ∙ on _ _ _ word in
    let started : c.add_number.new.text ≡ ((t ++ codes "winner ") ++ name) ++ (32 ∷ decimal bid.start) =
    c.in_ok-add_number.ensures ∙ ap (λ (k : ℕ). c.add-2.new.self ++ (32 ∷ decimal k))
    (c.place-place.ensures.start ∙ ap (λ (k : ℕ). (bid_of slots j k).start) c.number.ensures) ∙ on _ _ _ named in
    let bid-word : c.add-3.new.self ≡ (((t ++ codes "winner ") ++ name) ++ (32 ∷ decimal bid.start)) ++ codes " bid " =
    c.in_ok-add-3.ensures ∙ on _ _ _ started in
    c.in_ok-add_decimal.ensures ∙ ap (λ (k : ℕ). c.add-3.new.self ++ decimal k) (c.place-place.ensures.amount
    ∙ ap (λ (k : ℕ). (bid_of slots j k).amount) c.number.ensures) ∙ on _ _ _ bid-word
