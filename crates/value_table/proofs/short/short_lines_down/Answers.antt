use Rattle.std.proofs.lemmas.Grind.{common_steps}
use Rattle.std.proofs.Common.{◌≡◌, ◌∙◌, ◌-◌, ◌+◌, ◌^◌, ℕ, sym, ap, subst, arith, rules, map, List, ◌∷◌, suc, pos, Vec, Global}
use Rattle.value_table.proofs.TableLines.{entries, counted-first, counted-same}
use Rattle.value_table.specs.Counted.{IsCountedLine, IsLineWithin, AreCountedLines}
use Rattle.value_table.proofs.short.short_lines_down.Goals as goal

pub is_short-requires-clause-below : goal.is_short-requires-clause-below
is_short-requires-clause-below c =
    let up : c.loop-k.k - 1 + 1 ≡ c.loop-k.k = omega arith in
    rw up (counted-first c.args.lowered.now (λ n. pos n) c.loop-k.lines.items (suc c.args.top) c.loop-k.k c.index.result.now c.deref.result.now
    (omega arith) c.loop-k.invariant c.index.ensures c.deref.ensures.value)

pub next_line-requires-clause-below : goal.next_line-requires-clause-below
next_line-requires-clause-below c =
    let up : c.loop-k.k - 1 + 1 ≡ c.loop-k.k = omega arith in
    rw up (counted-first c.args.lowered.now (λ n. pos n) c.loop-k.lines.items (suc c.args.top) c.loop-k.k c.index-in-loop-k.result.now
    c.deref-in-loop-k.result.now (omega arith) c.loop-k.invariant c.index-in-loop-k.ensures c.deref-in-loop-k.ensures.value)

pub next_line-requires-clause-range : goal.next_line-requires-clause-range
next_line-requires-clause-range c =
    let same : c.deref.result.now ≡ c.deref-in-loop-k.result.now = c.deref.ensures.value ∙ ap (λ (v : Vec ℕ Global). v.items)
    (counted-same c.args.lowered.now (λ n. pos n) c.loop-k.lines.items (suc c.args.top) c.loop-k.k c.index.result.now c.index-in-loop-k.result.now
    (omega arith) c.loop-k.invariant c.index.ensures c.index-in-loop-k.ensures) ∙ sym c.deref-in-loop-k.ensures.value in
    subst (λ (xs : List ℕ). IsLineWithin c.args.lowered.now (2 ^ 31 - 1) (c.loop-k.k - 1 + 1) (map (λ n. pos n) xs)) same
    (c.is_short.ensures c.if-not-is_short.false)

pub loop-k-preserved : goal.loop-k-preserved
loop-k-preserved c =
    let entries_of = entries (λ n. pos n) in
    let l = c.args.lowered.now in
    let line = c.in_ok-line.line in
    let lines = c.loop-k.lines.items in
    let made : c.insert.new.self.items ≡ line ∷ lines = search rules in
    let down : c.loop-k.k - 1 + 1 - 1 ≡ c.loop-k.k - 1 = omega arith in
    let up : c.loop-k.k ≡ suc (c.loop-k.k - 1) = omega (arith, c.loop-k-test.true) in
    let own : IsCountedLine l (c.loop-k.k - 1) (entries_of line) = rw down at c.in_ok-line.ensures in
    let rest : AreCountedLines l (suc c.args.top) (suc (c.loop-k.k - 1)) (map entries_of lines) =
    subst (λ k. AreCountedLines l (suc c.args.top) k (map entries_of lines)) up c.loop-k.invariant in
    subst (λ (items : List _). AreCountedLines l (suc c.args.top) (c.loop-k.k - 1) (map entries_of items)) (sym made) (own, rest)

pub index-requires : goal.index-requires
index-requires c = grind (arith, common_steps)

pub index-requires-in-loop-k : goal.index-requires-in-loop-k
index-requires-in-loop-k c = grind (arith, common_steps)
