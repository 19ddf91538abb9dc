use Rattle.std.proofs.Common.{◌≡◌, ◌<◌, ◌≤◌, ◌+◌, ◌-◌, ◌++◌, ℕ, List, suc, length, get_or, sym, ◌∙◌, ap, arith}
use Rattle.auction_model.specs.Book.{BookBid, bid_of, bids_of, lots_of, menu_of}
use Rattle.print_grammar.specs.WinText.{winner_line}
use Rattle.auction_model.specs.Market.{number_of}
use Rattle.auction_model.proofs.ChoiceLaws.{known-at, known-length}
use Rattle.outcome.proofs.WinLines.{loses, wins, all-written}
use Rattle.outcome.proofs.win.add_winners.Goals as goal
use Rattle.outcome.proofs.win.add_winners.Goals.{then-number-ne0+in_ok-add_winner, else-number-ne0}

pub number-number-requires : goal.number-number-requires
number-number-requires c =
    let long = known-length (menu_of c.args.book.now) 0 c.args.choice.now c.requires in
    (omega arith, omega (arith, long, c.bidders-k-end.ensures.bidders, c.loop-k-test.true))

pub bid-requires-clause-bid : goal.bid-requires-clause-bid
bid-requires-clause-bid c =
    let long = known-length (menu_of c.args.book.now) 0 c.args.choice.now c.requires in
    let known : get_or c.args.choice.now c.loop-k.k 0 ≤ length (bids_of c.args.book.now (suc 0 + c.loop-k.k)) =
    known-at (menu_of c.args.book.now) 0 c.args.choice.now c.loop-k.k c.requires
    (omega (arith, long, c.bidders-k-end.ensures.bidders, c.loop-k-test.true)) in
    let up : suc 0 + c.loop-k.k ≡ c.loop-k.k + 1 = omega arith in
    let down : c.loop-k.k + 1 - 1 ≡ c.loop-k.k = omega arith in
    let is : c.number-number.result ≡ get_or c.args.choice.now c.loop-k.k 0 = c.number-number.ensures ∙ ap (λ (n : ℕ). get_or c.args.choice.now n 0) down in
    (omega (arith, c.if-number-ne0.true), rw is (rw up at known))

pub returns : goal.returns
returns c =
    let long = known-length (menu_of c.args.book.now) 0 c.args.choice.now c.requires in
    all-written c.args.book.now c.args.choice.now c.loop-k.k c.loop-k.text _ (omega (arith, long, c.bidders-k-end.ensures.bidders, c.loop-k-test.false))
    c.loop-k.invariant

pub loop-k-preserved : goal.loop-k-preserved
loop-k-preserved c =
    let long = known-length (menu_of c.args.book.now) 0 c.args.choice.now c.requires in
    let inside : c.loop-k.k < length c.args.choice.now = omega (arith, long, c.bidders-k-end.ensures.bidders, c.loop-k-test.true) in
    elim c.if-number-ne0.branch [
      | then-number-ne0+in_ok-add_winner w ↦
          let number = c.number-number.ensures in
          let own : BookBid = record { lots = w.bid.result.now.package; amount = w.bid.result.now.amount } in
          let lots : own.lots ≡ lots_of c.args.book.now (c.loop-k.k + 1) (number_of c.args.choice.now (c.loop-k.k + 1)) =
          w.bid.ensures.lots ∙ ap (λ (i : ℕ). lots_of c.args.book.now (c.loop-k.k + 1) i) number in
          let amount : own.amount ≡ (bid_of c.args.book.now (c.loop-k.k + 1) (number_of c.args.choice.now (c.loop-k.k + 1))).amount =
          w.bid.ensures.amount ∙ ap (λ (i : ℕ). (bid_of c.args.book.now (c.loop-k.k + 1) i).amount) number in
          let some : number_of c.args.choice.now (c.loop-k.k + 1) ≡ 0 → ⊥ = λ none. w.if-number-ne0.true (number ∙ none) in
          let line = w.in_ok-add_winner.ensures ∙ ap (λ (l : List ℕ). c.loop-k.text ++ winner_line l own) w.name.ensures in
          rw w.text-is (wins c.args.book.now c.args.choice.now c.loop-k.k c.loop-k.text w.add_winner.new.text _ own inside some lots amount line
          c.loop-k.invariant)
      | else-number-ne0 w ↦ rw w.text-is (loses c.args.book.now c.args.choice.now c.loop-k.k c.loop-k.text _ inside
          (sym c.number-number.ensures ∙ w.if-number-ne0.false) c.loop-k.invariant)
    ]
