use Rattle.place_price.proofs.PlacePrinting.{can-print}
use Rattle.place_price.proofs.printing.text.place_text.Goals as goal

pub printed-requires : goal.printed-requires
printed-requires c = can-print c.args.slots.now c.args.cert.now c.requires.shape c.requires.holds
