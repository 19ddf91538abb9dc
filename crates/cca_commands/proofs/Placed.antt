-- What pricing slots gives, over plain values.
use Rattle.std.proofs.Common.{◌≡◌, ℕ, Bool, List, [], length, ap, subst}
use Rattle.std.specs.Prelude.{◌∷◌}
use Rattle.auction_model.specs.PricingRun.{IsPricingRun}
use Rattle.auction_model.specs.Prices.{alike}
use Rattle.core_price.specs.Turns.{turns_of}
use Rattle.core_price.specs.declared.priced.Turn.{Turn}
use Rattle.placement_check.specs.PlacePriced.{IsPricedPlaceCert}
use Rattle.core_laws.specs.Turns.{IsLastPoint}
use Rattle.cert_soundness.specs.Sound.{cert_point}
use Rattle.placement_cert.specs.CertValues.{place_cert_value}
use Rattle.placement_cert.specs.PlaceSays.{place_text}
use Rattle.placement_cert.specs.PlaceText.{IsPlaceCertificate}
use Rattle.placement_cert.specs.declared.certificate.PlaceCertificate.{PlaceCertificate}
use Rattle.slot_places.specs.Board.{market_of_slots}
use Rattle.slot_places.specs.Slots.{SlotList}
use Rattle.cca_cli.specs.Outcome.{done}
use Rattle.cca_commands.specs.Gives.{ArePlacedLines, PlaceGives, cert_file}

-- priced slots give their prices and their certificate
pub placed : (slots : SlotList) (rounds : Bool) (cert : PlaceCertificate) (turns : List Turn) (text appended : List ℕ)
    → length cert.choice ≡ length slots.bidders → IsPricedPlaceCert slots (place_cert_value cert)
    → IsPricingRun (market_of_slots slots) alike cert.choice (turns_of cert.choice turns)
    → IsLastPoint (turns_of cert.choice turns) (let p = place_cert_value cert in cert_point p.cert)
    → ArePlacedLines slots rounds (place_cert_value cert) (turns_of cert.choice turns) text
    → appended ≡ place_text (place_cert_value cert) → PlaceGives slots rounds (done text (cert_file appended ∷ []))
placed slots rounds cert turns text appended shape is run last printed written = (
  place_cert_value cert,
  text,
  record {
    certificate = subst (λ (n : ℕ). IsPlaceCertificate n (place_cert_value cert)) shape cert.rules;
    priced = is;
    turns = turns_of cert.choice turns;
    run = run;
    last = last;
    printed = printed;
  },
  ap (λ (t : List ℕ). done text (cert_file t ∷ [])) written,
)
