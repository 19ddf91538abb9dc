use Rattle.std.proofs.Common.{◌≤◌, ◌<◌, ◌-◌, sym, subst, arith, rules, get_or, pos, []}
use Rattle.std.proofs.lemmas.Int.{to_z-of_z}
use Rattle.auction_model.specs.Place.{left_at}
use Rattle.value_table.specs.SideValues.{SidesValue, AreSidesOf, IsLeftEntry}
use Rattle.value_table.proofs.SideLaws.{left-is}
use mir.Val.{SFits}
use mir.Syntax.{w128}
use Rattle.value_table.proofs.sides.Sides.left.Goals as goal

pub entry-requires-clause-place : goal.entry-requires-clause-place
entry-requires-clause-place c =
    let below : c.args.place < c.self.inside.states = subst (λ (s : SidesValue). c.args.place < s.states) (sym c.self.view_is) c.requires.place in
    omega (arith, below, c.self.invariant.left.places 0 (omega arith))

pub returns : goal.returns
returns c = λ book own.
    let v = c.self.inside in
    let k = c.args.k in
    let place = c.args.place in
    let inside : SidesValue = record { bidders = v.bidders; states = v.states; right = v.right; left = v.left } in
    let z_fits : SFits w128 c.entry.result = search rules in
    let known : k ≤ v.bidders = subst (λ (s : SidesValue). k ≤ s.bidders) (sym c.self.view_is) c.requires.bidder in
    let below : place < v.states = subst (λ (s : SidesValue). place < s.states) (sym c.self.view_is) c.requires.place in
    let e : IsLeftEntry book k (left_at book.supply place) (get_or (get_or v.left (v.bidders - k) []) place (pos 0)) =
    left-is book inside (subst (AreSidesOf book) (sym c.self.view_is) own) k place known below in
    rw (to_z-of_z w128 c.entry.result z_fits) (subst (IsLeftEntry book k (left_at book.supply place)) (sym c.entry.ensures) e)
