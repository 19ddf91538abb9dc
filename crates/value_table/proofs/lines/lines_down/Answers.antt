use Rattle.std.proofs.lemmas.Grind.{common_steps}
use Rattle.std.proofs.Common.{◌≡◌, ◌-◌, ◌+◌, sym, subst, arith, rules, map, List, ◌∷◌, suc}
use Rattle.value_table.proofs.Sizes.{line-room}
use Rattle.value_table.proofs.TableLines.{entries, counted-first}
use Rattle.value_table.specs.Counted.{IsCountedLine, AreCountedLines}
use Rattle.value_table.proofs.lines.lines_down.Goals as goal

pub next_line-requires-clause-range : goal.next_line-requires-clause-range
next_line-requires-clause-range g c =
    let l = c.args.lowered.now in
    let up : c.loop-k.k - 1 + 1 ≡ c.loop-k.k = omega arith in
    let first = counted-first l g.C.Cell.number c.loop-k.lines.items (suc c.args.top) c.loop-k.k c.index.result.now c.deref.result.now (omega arith)
    c.loop-k.invariant c.index.ensures c.deref.ensures.value in
    rw up (line-room l g.C.Cell.most c.requires.range c.loop-k.k (map g.C.Cell.number c.deref.result.now) (omega (arith, c.loop-k-test.true))
    (omega (arith, c.requires.top)) first)

pub next_line-requires-clause-below : goal.next_line-requires-clause-below
next_line-requires-clause-below g c =
    let up : c.loop-k.k - 1 + 1 ≡ c.loop-k.k = omega arith in
    rw up (counted-first c.args.lowered.now g.C.Cell.number c.loop-k.lines.items (suc c.args.top) c.loop-k.k c.index.result.now c.deref.result.now
    (omega arith) c.loop-k.invariant c.index.ensures c.deref.ensures.value)

pub loop-k-preserved : goal.loop-k-preserved
loop-k-preserved g c =
    let entries_of = entries g.C.Cell.number in
    let l = c.args.lowered.now in
    let line = c.in_ok-line.line in
    let lines = c.loop-k.lines.items in
    let made : c.insert.new.self.items ≡ line ∷ lines = search rules in
    let down : c.loop-k.k - 1 + 1 - 1 ≡ c.loop-k.k - 1 = omega arith in
    let up : c.loop-k.k ≡ suc (c.loop-k.k - 1) = omega (arith, c.loop-k-test.true) in
    let own : IsCountedLine l (c.loop-k.k - 1) (entries_of line) = rw down at c.in_ok-line.ensures in
    let rest : AreCountedLines l (suc c.args.top) (suc (c.loop-k.k - 1)) (map entries_of lines) =
    subst (λ k. AreCountedLines l (suc c.args.top) k (map entries_of lines)) up c.loop-k.invariant in
    subst (λ (items : List _). AreCountedLines l (suc c.args.top) (c.loop-k.k - 1) (map entries_of items)) (sym made) (own, rest)

pub index-requires : goal.index-requires
index-requires g c = grind (arith, common_steps)
