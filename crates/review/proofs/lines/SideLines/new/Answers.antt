use Rattle.std.proofs.Common.{◌≡◌, ◌+◌, ℕ, length, replicate, sym, ap, subst, ◌∙◌, arith}
use Rattle.value_table.specs.LineBuffers.{HasRoom}
use Rattle.auction_model.specs.Place.{states_of}
use Rattle.review.specs.ReviewValue.{AreRightLines, lines_of}
use Rattle.review.proofs.LineSets.{zero_line, zero-left, zero-right}
use Rattle.review.proofs.lines.SideLines.new.Goals as goal

pub returns : goal.returns
returns c =
    let book = c.args.book.now in
    let n = c.bidders-bidders.ensures.bidders in
    let states = c.states-states.result in
    let all : states ≡ states_of book.supply = c.states-states.ensures.states ∙ ap states_of c.supply.ensures.supply in
    let right : lines_of c.in_ok-right.right.items ≡ replicate (length book.bidders + 1) (zero_line states) =
    c.in_ok-right.ensures ∙ ap (λ (k : ℕ). replicate (k + 1) (zero_line states)) n in
    let left : lines_of c.in_ok-left.left.items ≡ replicate (length book.bidders + 1) (zero_line states) =
    c.in_ok-left.ensures ∙ ap (λ (k : ℕ). replicate (k + 1) (zero_line states)) n in
    record {
      from = omega (arith, n);
      to = omega arith;
      after = subst (λ (k : ℕ). AreRightLines book k (lines_of c.in_ok-right.right.items)) (sym n)
          (zero-right book (lines_of c.in_ok-right.right.items) states right all);
      before = zero-left book (lines_of c.in_ok-left.left.items) states left all;
      buffers = subst (λ (n : ℕ). HasRoom n c.in_ok-buffers.buffers) all c.in_ok-buffers.ensures;
    }
