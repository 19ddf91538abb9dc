use Rattle.std.proofs.Common.{◌≡◌, ◌∙◌, ap, sym, ◌++◌, List, ℕ, codes, ℤ, FitsSigned, refl, rules}
use Rattle.std.specs.Int.{w128}
use Rattle.std.proofs.lemmas.Int.{to_z-of_z}
use Rattle.std.specs.Fmt.{signed_decimal}
use Rattle.outcome.specs.Fractions.{fraction_text}
use Rattle.placement_cert.specs.CertValues.{place_cert_value}
use Rattle.cert_soundness.specs.MarketPrices.{prices_in}
use Rattle.slot_places.specs.Board.{market_of_slots}
use Rattle.place_price.proofs.PlacePrinting.{price-of}
use Rattle.place_price.proofs.printing.lines.add_prices.Goals as goal

pub returns : goal.returns
returns c =
    let slots = c.args.slots.now in
    let p = (place_cert_value c.args.cert.now).cert in
    let v = prices_in (market_of_slots slots) p in
    let t = c.args.text.now in
    let j = c.args.j in
    let on : (a b c : List ℕ) → a ≡ b → a ++ c ≡ b ++ c = λ a b c e. ap (λ (l : List ℕ). l ++ c) e in
    let fits : FitsSigned w128 c.vickrey.result = search rules in
    let vickrey-word : c.add.new.self ≡ t ++ codes " vickrey " = c.in_ok-add.ensures in
    let vickrey : c.add_signed.new.text ≡ (t ++ codes " vickrey ") ++ signed_decimal (v j) =
    c.in_ok-add_signed.ensures ∙ ap (λ (x : ℤ). c.add.new.self ++ signed_decimal x)
    (to_z-of_z w128 c.vickrey.result fits ∙ c.vickrey.ensures ∙ sym (price-of (market_of_slots slots) p j c.requires.wins)) ∙ on _ _ _ vickrey-word in
    let pays-word : c.add-2.new.self ≡ ((t ++ codes " vickrey ") ++ signed_decimal (v j)) ++ codes " pays " = c.in_ok-add-2.ensures ∙ on _ _ _ vickrey in
    let pays : c.add_fraction.new.text ≡ (((t ++ codes " vickrey ") ++ signed_decimal (v j)) ++ codes " pays ") ++ fraction_text c.payment.result =
    c.in_ok-add_fraction.ensures ∙ on _ _ _ pays-word in (
      fraction_text c.payment.result,
      (c.payment.result.whole, c.payment.result.rest, c.payment.result.parts, c.payment.ensures, refl),
      c.in_ok-push.ensures ∙ on _ _ _ pays,
    )
