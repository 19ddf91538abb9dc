use Rattle.place_price.proofs.OnePlaceText.{one-place}
use Rattle.place_price.proofs.printing.laws.one_place_text.Goals as goal

pub returns : goal.returns
returns c = λ slots order z v w p q t u long dp dq same agree x y. one-place c.one_fraction.ensures slots v w p q dp dq same agree order z t u long x y
