use Rattle.std.proofs.Common.{refl, arith}
use Rattle.review.proofs.EditLaws.{sides-with}
use Rattle.review.proofs.lines.SideLines.mark.Goals as goal

pub returns : goal.returns
returns c = λ book bids are known.
    let max = c.max-self.ensures in
    let min = c.min-self.ensures in
    sides-with book c.args.j bids c.requires c.args.self.now _ are known refl refl
    (omega (arith, max)) (omega (arith, max)) (omega (arith, max, known, are.from)) (omega (arith, min)) (omega (arith, min, c.requires)) refl
