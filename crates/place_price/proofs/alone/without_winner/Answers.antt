use Rattle.std.proofs.Common.{◌≤◌, ◌*◌, ◌^◌, refl, sym, subst, rules, not, ℤ, ◌-ℤ◌, unsigned_abs}
use Rattle.std.proofs.lemmas.Bool.{and_parts}
use Rattle.std.proofs.lemmas.Int.{to_z-of_z, fits_signed_from_abs}
use Rattle.auction_model.specs.Market.{uses}
use Rattle.auction_model.specs.Prices.{IsVickreyPrice}
use Rattle.place_price.proofs.Allowed.{left-small, own-small, price-is, price-small}
use Rattle.slot_places.specs.Board.{market_of_slots}
use Rattle.slot_places.proofs.PlainSearch.{value-small}
use mir.Val.{SFits}
use mir.Syntax.{w128}
use Rattle.place_price.proofs.alone.without_winner.Goals as goal

pub placement-requires : goal.placement-requires
placement-requires c =
    let m = market_of_slots c.args.chooser.now.slots.now in
    let found = c.in_ok-found.found in
    (and_parts (m.allowed found.choice) (not (uses found.choice c.args.j)) c.in_ok-found.ensures.choice.passed).0

pub overflow_sub-single : goal.overflow_sub-single
overflow_sub-single c =
    let slots = c.args.chooser.now.slots.now in
    let z = c.args.chooser.now.winners in
    let kept = c.kept.ensures in
    let all = c.args.value in
    let own = c.winner_value-own.result in
    let passed = c.args.chooser.now.winning.passed in
    let own_small : unsigned_abs own ≤ 2 ^ 42 = subst (λ (x : ℤ). unsigned_abs x ≤ 2 ^ 42) (sym c.winner_value-own.ensures)
    (own-small slots kept z passed c.args.j c.requires.bidder.0 c.requires.bidder.1) in
    let all_small : unsigned_abs all ≤ 6 * 2 ^ 42 = subst (λ (x : ℤ). unsigned_abs x ≤ 6 * 2 ^ 42) (sym c.requires.value) (value-small slots z kept passed) in
    let all_fits : SFits w128 all = search rules in
    let own_fits : SFits w128 own = search rules in
    let left_fits : SFits w128 (all -ℤ own) = fits_signed_from_abs w128 (all -ℤ own) (left-small all own all_small own_small) in
    simp to_z-of_z left_fits

pub overflow_sub-single-2 : goal.overflow_sub-single-2
overflow_sub-single-2 c =
    let slots = c.args.chooser.now.slots.now in
    let m = market_of_slots slots in
    let z = c.args.chooser.now.winners in
    let kept = c.kept.ensures in
    let found = c.in_ok-found.found in
    let others = found.sum in
    let all = c.args.value in
    let own = c.winner_value-own.result in
    let passed = c.args.chooser.now.winning.passed in
    let allowed = (and_parts (m.allowed found.choice) (not (uses found.choice c.args.j)) c.in_ok-found.ensures.choice.passed).0 in
    let own_small : unsigned_abs own ≤ 2 ^ 42 = subst (λ (x : ℤ). unsigned_abs x ≤ 2 ^ 42) (sym c.winner_value-own.ensures)
    (own-small slots kept z passed c.args.j c.requires.bidder.0 c.requires.bidder.1) in
    let all_small : unsigned_abs all ≤ 6 * 2 ^ 42 = subst (λ (x : ℤ). unsigned_abs x ≤ 6 * 2 ^ 42) (sym c.requires.value) (value-small slots z kept passed) in
    let others_small : unsigned_abs others ≤ 6 * 2 ^ 42 = subst (λ (x : ℤ). unsigned_abs x ≤ 6 * 2 ^ 42) (sym c.in_ok-found.ensures.sum)
    (value-small slots found.choice kept allowed) in
    let others_fits : SFits w128 others = search rules in
    let all_fits : SFits w128 all = search rules in
    let own_fits : SFits w128 own = search rules in
    let left_fits : SFits w128 (all -ℤ own) = fits_signed_from_abs w128 (all -ℤ own) (left-small all own all_small own_small) in
    let price_fits : SFits w128 (others -ℤ (all -ℤ own)) = fits_signed_from_abs w128 (others -ℤ (all -ℤ own))
    (price-small others all own others_small all_small own_small) in
    simp to_z-of_z price_fits

pub returns-clause-single : goal.returns-clause-single
returns-clause-single c =
    let slots = c.args.chooser.now.slots.now in
    let m = market_of_slots slots in
    let z = c.args.chooser.now.winners in
    let kept = c.kept.ensures in
    let found = c.in_ok-found.found in
    let others = found.sum in
    let all = c.args.value in
    let own = c.winner_value-own.result in
    let passed = c.args.chooser.now.winning.passed in
    let allowed = (and_parts (m.allowed found.choice) (not (uses found.choice c.args.j)) c.in_ok-found.ensures.choice.passed).0 in
    let own_small : unsigned_abs own ≤ 2 ^ 42 = subst (λ (x : ℤ). unsigned_abs x ≤ 2 ^ 42) (sym c.winner_value-own.ensures)
    (own-small slots kept z passed c.args.j c.requires.bidder.0 c.requires.bidder.1) in
    let all_small : unsigned_abs all ≤ 6 * 2 ^ 42 = subst (λ (x : ℤ). unsigned_abs x ≤ 6 * 2 ^ 42) (sym c.requires.value) (value-small slots z kept passed) in
    let others_small : unsigned_abs others ≤ 6 * 2 ^ 42 = subst (λ (x : ℤ). unsigned_abs x ≤ 6 * 2 ^ 42) (sym c.in_ok-found.ensures.sum)
    (value-small slots found.choice kept allowed) in
    let others_fits : SFits w128 others = search rules in
    let all_fits : SFits w128 all = search rules in
    let own_fits : SFits w128 own = search rules in
    let left_fits : SFits w128 (all -ℤ own) = fits_signed_from_abs w128 (all -ℤ own) (left-small all own all_small own_small) in
    let price_fits : SFits w128 (others -ℤ (all -ℤ own)) = fits_signed_from_abs w128 (others -ℤ (all -ℤ own))
    (price-small others all own others_small all_small own_small) in
    let price : IsVickreyPrice m z c.args.j (others -ℤ (all -ℤ own)) =
    price-is m z c.args.j others all own found.choice c.requires.used c.in_ok-found.ensures.choice c.in_ok-found.ensures.sum c.requires.value
    c.winner_value-own.ensures in
    record {
      used = c.requires.used;
      price = simp to_z-of_z price;
      choice = rw c.in_ok-choice.ensures c.in_ok-found.ensures.choice;
    }

pub returns-clause-part : goal.returns-clause-part
returns-clause-part c = record {
  winner = refl;
  choice = sym c.in_ok-choice.ensures;
  best = record { choice = c.in_ok-found.ensures.choice; placement = c.in_ok-order.ensures; table = c.in_ok-found.ensures.table };
}
