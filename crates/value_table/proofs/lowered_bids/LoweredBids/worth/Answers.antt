use Rattle.std.proofs.Common.{◌≡◌, ◌∙◌, ◌-◌, sym, ap, rules, get_or, pos, ◌-ℤ◌, ◌*ℤ◌}
use Rattle.std.proofs.lemmas.Int.{to_z-of_z}
use Rattle.auction_model.specs.Book.{net_of}
use Rattle.value_table.proofs.Sizes.{parts-small, worth-small, lowered-at}
use Rattle.value_table.specs.Counted.{net_at, counted}
use mir.Val.{SFits, to_z, of_z}
use mir.Syntax.{w128}
use Rattle.value_table.proofs.lowered_bids.LoweredBids.worth.Goals as goal
use Rattle.value_table.proofs.lowered_bids.LoweredBids.worth.Goals.{After-lowered_worth}

pub lowered_worth-requires : goal.lowered_worth-requires
lowered_worth-requires c =
    let l = c.args.self.now in
    let own = get_or l.surplus.now (c.args.j - 1) (pos 0) in
    let den_fits : SFits w128 l.den = search rules in
    let net_fits : SFits w128 c.net-net.result = search rules in
    let own_fits : SFits w128 own = search rules in
    let small = parts-small l c.args.j c.args.i c.requires.bidder.0 c.requires.bidder.1 c.requires.bid.0 c.requires.bid.1 in
    rw (to_z-of_z w128 l.den den_fits, to_z-of_z w128 c.net-net.result net_fits, to_z-of_z w128 own own_fits, c.net-net.ensures, c.bidder.ensures.bidder) small

is_worth : (c : After-lowered_worth) → to_z w128 (of_z w128 c.lowered_worth.result) ≡ counted c.args.self.now c.args.j c.args.i
is_worth c =
    let l = c.args.self.now in
    let own = get_or l.surplus.now (c.args.j - 1) (pos 0) in
    let result_fits : SFits w128 c.lowered_worth.result = search rules in
    let den_fits : SFits w128 l.den = search rules in
    let net_fits : SFits w128 c.net-net.result = search rules in
    let own_fits : SFits w128 own = search rules in
    let is : c.lowered_worth.result ≡ (l.den *ℤ c.net-net.result) -ℤ own = simp to_z-of_z at c.lowered_worth.ensures in
    to_z-of_z w128 c.lowered_worth.result result_fits ∙ is
    ∙ ap (λ n. (l.den *ℤ n) -ℤ own) (c.net-net.ensures ∙ ap (λ j. net_of l.book.now j c.args.i) c.bidder.ensures.bidder)
    ∙ sym (lowered-at l.den (net_at l) l.surplus.now c.args.j c.args.i c.requires.bid.0)

pub returns-clause-worth : goal.returns-clause-worth
returns-clause-worth c = is_worth c

pub returns-clause-size : goal.returns-clause-size
returns-clause-size c =
    rw (is_worth c) (worth-small c.args.self.now c.args.j c.args.i c.requires.bidder.0 c.requires.bidder.1 c.requires.bid.1)
