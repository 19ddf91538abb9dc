use Rattle.std.proofs.Common.{◌≡◌, ◌≤◌, ◌^◌, ℕ, length, ap, arith}
use Rattle.slot_places.specs.Board.{board_without}
use Rattle.slot_places.proofs.SetBits.{power-most}
use Rattle.placement_check.specs.OfferRules.{worth_with}
use Rattle.placement_check.proofs.SetTests.{table-set}
use Rattle.placement_check.proofs.tables.table_holds.Goals as goal

pub returns-then-place-sets : goal.returns-then-place-sets
returns-then-place-sets c =
    let o = c.args.offers.now in
    let n = length c.args.offers.now.slots.now.bidders in
    let few : 2 ^ length c.args.offers.now.slots.now.bidders ≤ 64 = power-most n (omega (arith, c.bidders-sets.ensures.bidders, c.bidders-sets.ensures.most)) in
    let same : 2 ^ c.bidders-sets.result ≡ 2 ^ length c.args.offers.now.slots.now.bidders = ap (λ (k : ℕ). 2 ^ k) c.bidders-sets.ensures.bidders in
    table-set (board_without o.slots.now o.skip) (worth_with o.slots.now o.den o.gains.now) c.args.table.now _ c.args.place c.obeys_set.result
    (omega (arith, few, same)) c.obeys_set.ensures
