use Rattle.std.proofs.Common.{rules}
use Rattle.std.proofs.lemmas.Result.{on_ok_weaker}
use Rattle.cert_soundness.specs.Sound.{cert_point}
use Rattle.placement_cert.specs.CertValues.{place_cert_value}
use Rattle.cert_soundness.specs.MarketPrices.{prices_in}
use Rattle.slot_places.specs.Board.{market_of_slots}
use Rattle.place_price.proofs.PlacePrinting.{slice-lines, slice-rest}
use Rattle.place_price.proofs.printing.lines.+add_winners.Goals as goal

pub add_winners-requires : goal.add_winners-requires
add_winners-requires t c = (
  search rules,
  (
    c.requires.can,
    (
      c.requires.few,
      slice-rest c.args.cert.now.choice c.args.numbers.now c.args.before
          c.in-len1-up.len_at_least c.requires.rest,
    ),
  ),
)

pub returns-in_ok-add_line_of-in-len1-up : goal.returns-in_ok-add_line_of-in-len1-up
returns-in_ok-add_line_of-in-len1-up t c =
    let slots = c.args.slots.now in
    let p = (place_cert_value c.args.cert.now).cert in
    let own = c.in_ok-add_line_of-in-len1-up.ensures in
    on_ok_weaker c.add_winners.result
    (λ h. slice-lines slots (prices_in (market_of_slots slots) p) (cert_point p) p.choice c.args.numbers.now c.args.before c.args.text.now c.add_line_of.new.text
    c.add_winners.new.text own.0 h.0
    c.in-len1-up.len_at_least c.requires.rest own.1 own.2 h.1 h.2)
    c.add_winners.ensures
