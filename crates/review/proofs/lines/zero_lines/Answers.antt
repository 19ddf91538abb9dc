use Rattle.std.proofs.Common.{◌≡◌, ◌++◌, ◌∷◌, [], ℕ, ℤ, List, pos, replicate, ap, subst, ◌∙◌, arith, Vec, Global}
use Rattle.std.proofs.lemmas.List.{map-append, replicate_more}
use Rattle.review.specs.ReviewValue.{lines_of}
use Rattle.review.proofs.lines.zero_lines.Goals as goal

pub loop-line-init : goal.loop-line-init
loop-line-init c = ap lines_of c.new-lines.ensures.items

pub loop-line-preserved : goal.loop-line-preserved
loop-line-preserved c =
    let lines = c.loop-line.lines.items in
    let zero : List ℤ = replicate c.args.states (pos 0) in
    ap lines_of c.in_ok-push.ensures.items
    ∙ map-append (λ (v : Vec ℤ Global). v.items) lines (c.in_ok-line.line ∷ [])
    ∙ ap (λ (l : List ℤ). lines_of lines ++ l ∷ []) c.in_ok-line.ensures
    ∙ ap (λ (l : List (List ℤ)). l ++ zero ∷ []) c.loop-line.invariant
    ∙ replicate_more c.loop-line._line zero

pub returns : goal.returns
returns c =
    let all : c.loop-line._line ≡ c.args.count = omega arith in
    subst (λ (n : ℕ). lines_of c.loop-line.lines.items ≡ replicate n (replicate c.args.states (pos 0))) all c.loop-line.invariant
