-- The entries are those of the list, and the highest amounts are those over the list.
use Rattle.std.proofs.Common.{◌≡◌, List, Option, ℕ, map, sym, ap, subst, ◌∙◌}
use Rattle.std.specs.List.{All}
use Rattle.auction_rules.specs.Caps.{cap_of, first_excess}
use Rattle.relative_cap.specs.declared.entries.TestedEntry.{TestedEntry}
use Rattle.relative_cap.specs.OwnRounds.{bid_value, rounds_of}
use Rattle.relative_cap.specs.Tested.{FitsTerms, IsTester, terms_cap, tested_bid}
use Rattle.relative_cap.proofs.TestedLaws.{caps-each, fits-each, highs-list}
use Rattle.relative_cap.proofs.tester.ListTester.list_fault.Goals as goal

pub first_fault-requires-clause-fits : goal.first_fault-requires-clause-fits
first_fault-requires-clause-fits c =
    let tester = subst (IsTester c.args.history.now c.args.points.now c.args.j) (sym c.self.view_is) c.requires.tester in
    let are = highs-list c.args.history.now c.args.points.now c.args.j c.self.inside.clock.items c.deref-2.result.now c.in_ok-highs.highs.items
    c.deref-4.result.now
    c.follow.new.entries.items c.deref-3.result.now (map bid_value c.args.list.now) tester.room tester.clock c.deref-2.ensures.value c.deref-3.ensures.value
    c.deref-4.ensures.value
    c.follow.ensures.entries c.in_ok-follow.ensures.list c.in_ok-highs.ensures in
    subst (All (λ e. FitsTerms c.deref-4.result.now e.terms)) (sym c.deref-5.ensures.value)
    (fits-each c.args.history.now c.args.points.now c.args.j (map bid_value c.args.list.now) c.deref-4.result.now c.follow.new.entries.items are
    c.requires.bidder.some c.follow.ensures.entries)

pub returns-clause-fault : goal.returns-clause-fault
returns-clause-fault c =
    let tester = subst (IsTester c.args.history.now c.args.points.now c.args.j) (sym c.self.view_is) c.requires.tester in
    let are = highs-list c.args.history.now c.args.points.now c.args.j c.self.inside.clock.items c.deref-2.result.now c.in_ok-highs.highs.items
    c.deref-4.result.now
    c.follow.new.entries.items c.deref-3.result.now (map bid_value c.args.list.now) tester.room tester.clock c.deref-2.ensures.value c.deref-3.ensures.value
    c.deref-4.ensures.value
    c.follow.ensures.entries c.in_ok-follow.ensures.list c.in_ok-highs.ensures in
    let cap : List ℕ → Option ℕ = cap_of c.args.final_cap c.args.points.now (rounds_of c.args.j c.args.history.now) (map bid_value c.args.list.now) in
    c.first_fault.ensures cap
    (subst (All (λ e. terms_cap c.args.final_cap c.deref-4.result.now e.terms ≡ cap e.bid.«package»)) (sym c.deref-5.ensures.value)
    (caps-each c.args.final_cap c.args.history.now c.args.points.now c.args.j (map bid_value c.args.list.now) c.deref-4.result.now c.follow.new.entries.items
    are c.requires.bidder.some
    c.follow.ensures.entries))
    ∙ ap (λ (es : List TestedEntry). first_excess cap 1 (map tested_bid es)) c.deref-5.ensures.value
    ∙ ap (first_excess cap 1) c.in_ok-follow.ensures.list
