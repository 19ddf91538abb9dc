use Rattle.std.proofs.Common.{ℕ, List, sym, subst}
use Rattle.book_grammar.specs.BookLines.{IsBookWithinLimits}
use Rattle.bid_book.specs.Changes.{with_put}
use Rattle.review.proofs.changes.put.Goals as goal

pub put_bid-requires-clause-kept : goal.put_bid-requires-clause-kept
put_bid-requires-clause-kept c =
    subst (λ (p : List ℕ). IsBookWithinLimits (with_put c.args.book.now c.args.j (record { lots = p; amount = c.args.amount }))) (sym c.copied-package.ensures)
    (c.rules_with_bid.ensures c.args.book.now c.args.j (record { lots = c.args.wanted.now; amount = c.args.amount }) c.kept.ensures.rules c.requires)
