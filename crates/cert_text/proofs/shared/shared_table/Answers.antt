use Rattle.std.proofs.Common.{◌<◌, ap, sym, ◌∙◌, arith, length, length-take, List, ℤ, [], ◌∷◌, ◌++◌, get_or}
use Rattle.std.proofs.lemmas.List.{get_or-take, take_all, take_more}
use Rattle.cert_text.proofs.shared.shared_table.Goals as goal

pub push_shared-requires-clause-width : goal.push_shared-requires-clause-width
push_shared-requires-clause-width c = rw c.loop-k.invariant (λ some.
    let first : 0 < c.loop-k.k = omega (arith, some, length-take c.loop-k.k c.args.table.now) in
    ap length (sym (get_or-take c.loop-k.k c.args.table.now 0 [] first)))

pub loop-k-preserved : goal.loop-k-preserved
loop-k-preserved c =
    let inside : c.loop-k.k < length c.args.table.now = omega (arith, c.loop-k-test.true, c.lines-k-end.ensures) in
    c.in_ok-push_shared.ensures.pushed
    ∙ ap (λ (l : List (List ℤ)). l ++ get_or c.args.table.now c.loop-k.k [] ∷ []) c.loop-k.invariant
    ∙ sym (take_more c.args.table.now c.loop-k.k [] inside)

pub returns : goal.returns
returns c = c.loop-k.invariant ∙ take_all c.loop-k.k c.args.table.now (omega (arith, c.loop-k-test.false, c.lines-k-end.ensures))
