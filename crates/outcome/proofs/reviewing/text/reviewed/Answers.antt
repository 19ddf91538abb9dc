use Rattle.std.proofs.Common.{List, ℕ, ◌++◌, ◌∙◌, ap, refl}
use Rattle.auction_model.specs.Book.{Book}
use Rattle.print_grammar.specs.WinText.{win_text}
use Rattle.outcome.proofs.ReviewLines.{all_done, none_yet, one_more}
use Rattle.outcome.proofs.reviewing.text.reviewed.Goals as goal

pub loop-k-init : goal.loop-k-init
loop-k-init c =
    let added = c.in_ok-add_state.ensures in
    none_yet c.args.review.now.book c.args.review.now.book c.args.edits.now c.add_state.new.text added.0 refl added.1
    (added.2 ∙ ap (λ (t : List ℕ). t ++ added.0) c.new-text.ensures)

pub loop-k-preserved : goal.loop-k-preserved
loop-k-preserved c =
    let added = c.in_ok-add_edit.ensures.line in
    one_more c.args.review.now.book c.args.edits.now c.loop-k.k c.loop-k.review.book c.add_edit.new.review.book c.loop-k.text c.add_edit.new.text added.0
    c.index-edits-k.result c.loop-k-test.true c.index-edits-k.is c.loop-k.invariant added.1
    c.in_ok-add_edit.ensures.book added.2

pub returns : goal.returns
returns c =
    all_done c.args.review.now.book c.loop-k.review.book c.args.edits.now c.loop-k.k c.loop-k.text c.add.new.self c.items.result.now c.choice.result.now
    c.loop-k-test.false c.loop-k.invariant c.choice.ensures.winning
    (c.items.ensures ∙ c.in_ok-winners.ensures ∙ ap (λ (b : Book). win_text b c.choice.result.now) c.book.ensures) c.in_ok-add.ensures
