use Rattle.std.proofs.Common.{◌≤◌, ◌<◌, sym, subst, rules, get_or, pos, []}
use Rattle.std.proofs.lemmas.Int.{to_z-of_z}
use Rattle.auction_model.specs.Place.{left_at}
use Rattle.value_table.specs.SideValues.{SidesValue, AreSidesOf, IsRightEntry}
use Rattle.value_table.proofs.SideLaws.{right-is}
use mir.Val.{SFits}
use mir.Syntax.{w128}
use Rattle.value_table.proofs.sides.Sides.right.Goals as goal

pub returns : goal.returns
returns c = λ book own.
    let v = c.self.inside in
    let k = c.args.k in
    let place = c.args.place in
    let inside : SidesValue = record { bidders = v.bidders; states = v.states; right = v.right; left = v.left } in
    let z_fits : SFits w128 c.entry.result = search rules in
    let known : k ≤ v.bidders = subst (λ (s : SidesValue). k ≤ s.bidders) (sym c.self.view_is) c.requires.bidder in
    let below : place < v.states = subst (λ (s : SidesValue). place < s.states) (sym c.self.view_is) c.requires.place in
    let e : IsRightEntry book k (left_at book.supply place) (get_or (get_or v.right.lines k []) place (pos 0)) =
    right-is book inside (subst (AreSidesOf book) (sym c.self.view_is) own) k place known below in
    rw (to_z-of_z w128 c.entry.result z_fits) (subst (IsRightEntry book k (left_at book.supply place)) (sym c.entry.ensures) e)
