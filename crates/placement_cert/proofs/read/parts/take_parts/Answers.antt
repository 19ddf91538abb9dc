use Rattle.std.proofs.Common.{◌+◌, ◌<◌, ◌≤◌, ℕ, List, get_or, length, refl, ap, rules}
use Rattle.placement_cert.proofs.PartSteps.{parts_more, parts_halts, parts_done}
use Rattle.placement_cert.proofs.read.parts.take_parts.Goals as goal

pub returns-in_err-next-clause-halts : goal.returns-in_err-next-clause-halts
returns-in_err-next-clause-halts c =
    let inside : c.loop-k.k < length c.args.choice.now = rw c.numbers-numbers.ensures at c.loop-k-test.true in
    let halts = parts_halts c.args.bytes.now c.args.place c.args.bidders c.args.choice.now c.loop-k.k c.loop-k.next c.loop-k.parts (c.loop-k.k + 1)
    (get_or c.numbers-numbers.result.now c.loop-k.k 0) c.in_err-next.field-0.0
    inside c.loop-k.invariant refl (ap (λ (l : List ℕ). get_or l c.loop-k.k 0) c.numbers-numbers.ensures) c.in_err-next.ensures.halts in
    search rules

pub loop-k-preserved : goal.loop-k-preserved
loop-k-preserved c =
    let inside : c.loop-k.k < length c.args.choice.now = rw c.numbers-numbers.ensures at c.loop-k-test.true in
    parts_more c.args.bytes.now c.args.place c.args.bidders c.args.choice.now c.loop-k.k c.loop-k.next c.loop-k.parts (c.loop-k.k + 1)
    (get_or c.numbers-numbers.result.now c.loop-k.k 0) c.add_part.new.parts c.in_ok-next.next
    inside c.loop-k.invariant refl (ap (λ (l : List ℕ). get_or l c.loop-k.k 0) c.numbers-numbers.ensures) c.in_ok-next.ensures.adds c.in_ok-next.ensures.within

pub returns-clause-parts : goal.returns-clause-parts
returns-clause-parts c =
    let done : length c.args.choice.now ≤ c.loop-k.k = rw c.numbers-numbers.ensures at c.loop-k-test.false in
    (parts_done c.args.bytes.now c.args.place c.args.bidders c.args.choice.now c.loop-k.k c.loop-k.next c.loop-k.parts done c.loop-k.invariant).1

pub returns-clause-leads : goal.returns-clause-leads
returns-clause-leads c =
    let done : length c.args.choice.now ≤ c.loop-k.k = rw c.numbers-numbers.ensures at c.loop-k-test.false in
    (parts_done c.args.bytes.now c.args.place c.args.bidders c.args.choice.now c.loop-k.k c.loop-k.next c.loop-k.parts done c.loop-k.invariant).0
