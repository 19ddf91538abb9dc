use Rattle.std.proofs.Common.{◌≡◌, ◌+◌, arith, rules, ℕ, subst}
use Rattle.std.specs.Prelude.{if◌then◌else◌, nat_le}
use Rattle.big_auction.specs.Draws.{advanced}
use Rattle.big_auction.specs.Parts.{counts_of, figures_of}
use Rattle.big_auction.proofs.LinesAdded.{IsDrafted, drafted-none, drafted-more, state-behind}
use Rattle.big_auction.proofs.lines.add_bidder.Goals as goal

pub loop-draft-init : goal.loop-draft-init
loop-draft-init c = drafted-none c.args.draws.now.state c.args.bidder.now.number (figures_of c.args.prices.now) (counts_of c.args.bidder.now.own)
    (counts_of c.args.bidder.now.last) c.args.text.now

pub loop-draft-preserved : goal.loop-draft-preserved
loop-draft-preserved c =
    drafted-more c.args.draws.now.state c.args.bidder.now.number (figures_of c.args.prices.now) (counts_of c.args.bidder.now.own)
    (counts_of c.args.bidder.now.last) c.loop-draft._draft
    c.loop-draft.draws.state c.add_drawn.new.draws.state c.args.text.now c.loop-draft.text c.add_drawn.new.text c.loop-draft.invariant
    c.in_ok-add_drawn.ensures.text c.in_ok-add_drawn.ensures.state

pub returns-clause-state : goal.returns-clause-state
returns-clause-state c =
    let all : c.loop-draft._draft ≡ 100 = omega arith in
    let drafted : IsDrafted c.args.draws.now.state c.args.bidder.now.number (figures_of c.args.prices.now) (counts_of c.args.bidder.now.own)
    (counts_of c.args.bidder.now.last) 100 c.loop-draft.draws.state c.args.text.now c.loop-draft.text =
    subst (λ (n : ℕ). IsDrafted c.args.draws.now.state c.args.bidder.now.number (figures_of c.args.prices.now) (counts_of c.args.bidder.now.own)
    (counts_of c.args.bidder.now.last) n c.loop-draft.draws.state c.args.text.now c.loop-draft.text) all c.loop-draft.invariant in
    let state : c.add_last.new.draws.state ≡ advanced c.args.draws.now.state (500 + (if nat_le c.args.bidder.now.number 4 then 1 else 0)) =
    state-behind c.args.draws.now.state c.args.bidder.now.number c.loop-draft.draws.state c.add_last.new.draws.state
    (if nat_le c.args.bidder.now.number 4 then 1 else 0)
    (figures_of c.args.prices.now) (counts_of c.args.bidder.now.own) (counts_of c.args.bidder.now.last) c.args.text.now c.loop-draft.text drafted
    c.in_ok-add_last.ensures.state in
    search rules
