use Rattle.bid_book.proofs.HeadLaws.{supply_limit, supply_no_form}
use Rattle.std.proofs.Common.{◌≡◌, ◌∙◌, refl, sym}
use Rattle.line_format.specs.declared.stop.LineStop.TheVariants.{Form, Limit}
use Rattle.bid_book.specs.Stops.{line_stop}
use Rattle.bid_book.proofs.read.head.take_supply.Goals as goal

pub returns-clause-form : goal.returns-clause-form
returns-clause-form c = λ err t step.
    let counts = c.in_ok-counts.ensures.ok in
    let stopped = rw c.deref.ensures.value at (c.in-Err.ensures.stopped c.in-Err.stop refl) in
    let is : line_stop c.in-Err.stop ≡ Form = sym c.lots_stop.ensures ∙ cc (err) in
    supply_no_form c.args.line.now c.in_ok-counts.counts.items counts.0 counts.1 c.in-Err.stop stopped is

pub returns-clause-limit : goal.returns-clause-limit
returns-clause-limit c = λ kind count err.
    let counts = c.in_ok-counts.ensures.ok in
    let stopped = rw c.deref.ensures.value at (c.in-Err.ensures.stopped c.in-Err.stop refl) in
    let is : line_stop c.in-Err.stop ≡ Limit (kind, count) = sym c.lots_stop.ensures ∙ cc (err) in
    supply_limit c.args.line.now c.in_ok-counts.counts.items counts.0 counts.1 c.in-Err.stop stopped kind count is
