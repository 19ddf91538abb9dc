use Rattle.std.proofs.Common.{◌≡◌, ◌∙◌, ◌≤◌, ◌<◌, ◌-◌, ◌^◌, ℕ, sym, ap, subst, arith, rules, get_or, length, List, [], ℤ, pos, unsigned_abs}
use Rattle.std.proofs.lemmas.Int.{to_z-of_z}
use Rattle.choices.specs.Lines.{width_of}
use Rattle.auction_model.specs.Place.{states_of}
use Rattle.value_table.specs.SideValues.{SidesValue, AreSidesOf, IsGreatestPair}
use Rattle.value_table.proofs.SideLaws.{without-is}
use mir.Val.{SFits}
use mir.Syntax.{w128}
use Rattle.value_table.proofs.sides.Sides.without.Goals as goal

pub greatest_pair-requires-clause-after_line : goal.greatest_pair-requires-clause-after_line
greatest_pair-requires-clause-after_line c =
    let v = c.self.inside in
    let known : c.args.j ≤ v.bidders = subst (λ (s : SidesValue). c.args.j ≤ s.bidders) (sym c.self.view_is) c.requires.1 in
    subst (λ (ls : List (List ℤ)). c.args.j < length ls) (sym c.grid.ensures) (omega (arith, known, c.self.invariant.right.count))

pub greatest_pair-requires-clause-before_line : goal.greatest_pair-requires-clause-before_line
greatest_pair-requires-clause-before_line c = omega (arith, c.self.invariant.left.count)

pub greatest_pair-requires-clause-some : goal.greatest_pair-requires-clause-some
greatest_pair-requires-clause-some c = omega (arith, c.self.invariant.states, c.self.invariant.left.places 0 (omega arith))

pub greatest_pair-requires-clause-places : goal.greatest_pair-requires-clause-places
greatest_pair-requires-clause-places c =
    c.self.invariant.left.places 0 (omega arith)
    ∙ sym (ap (λ (ls : List (List ℤ)). width_of ls) c.grid.ensures ∙ c.self.invariant.right.places 0 (omega arith))

pub greatest_pair-requires-clause-before : goal.greatest_pair-requires-clause-before
greatest_pair-requires-clause-before c = λ s. c.self.invariant.left.sizes (c.self.inside.bidders - (c.args.j - 1)) s (omega arith)

pub greatest_pair-requires-clause-after : goal.greatest_pair-requires-clause-after
greatest_pair-requires-clause-after c = λ s.
    let v = c.self.inside in
    let known : c.args.j ≤ v.bidders = subst (λ (t : SidesValue). c.args.j ≤ t.bidders) (sym c.self.view_is) c.requires.1 in
    subst (λ (ls : List (List ℤ)). unsigned_abs (get_or (get_or ls c.args.j []) s (pos 0)) ≤ 2 ^ 120) (sym c.grid.ensures)
    (c.self.invariant.right.sizes c.args.j s known)

pub returns-clause-most : goal.returns-clause-most
returns-clause-most c = λ book all.
    let v = c.self.inside in
    let j = c.args.j in
    let inside : SidesValue = record { bidders = v.bidders; states = v.states; right = v.right; left = v.left } in
    let own : AreSidesOf book inside = subst (AreSidesOf book) (sym c.self.view_is) all in
    let known : j ≤ v.bidders = subst (λ (s : SidesValue). j ≤ s.bidders) (sym c.self.view_is) c.requires.1 in
    let z = c.greatest_pair.result in
    let z_fits : SFits w128 z = search rules in
    let before = get_or v.left (v.bidders - (j - 1)) [] in
    let after : get_or c.grid.result.now j [] ≡ get_or v.right.lines j [] = ap (λ (ls : List (List ℤ)). get_or ls j []) c.grid.ensures in
    let count : width_of v.left ≡ states_of book.supply = c.self.invariant.left.places 0 (omega arith) ∙ own.states in
    let pair : IsGreatestPair (states_of book.supply) before (get_or v.right.lines j []) z =
    subst (λ (n : ℕ). IsGreatestPair n before (get_or v.right.lines j []) z) count
    (subst (λ (l : List ℤ). IsGreatestPair (width_of v.left) before l z) after c.greatest_pair.ensures.most) in
    rw (to_z-of_z w128 z z_fits) (without-is book inside own j z c.requires.0 known pair)
