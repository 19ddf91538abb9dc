use Rattle.std.proofs.Common.{map, ◌≡◌, ◌++◌, ℕ, subst}
use Rattle.big_auction.specs.LogText.{log_text}
use Rattle.big_auction.specs.Parts.{bids_for, counts_of}
use Rattle.big_auction.proofs.MadeLines.{rounds-more}
use Rattle.big_auction.proofs.made.add_full_rounds.Goals as goal

pub loop-round-preserved : goal.loop-round-preserved
loop-round-preserved c =
    let bids : c.add_bids.new.text ≡ c.loop-round.text ++ log_text (bids_for (map counts_of c.args.packages.now) 12) =
    subst (λ (n : ℕ). c.add_bids.new.text ≡ c.loop-round.text ++ log_text (bids_for (map counts_of c.args.packages.now) n)) c.requires
    c.in_ok-add_bids.ensures in
    rounds-more (map counts_of c.args.packages.now) c.loop-round._round c.args.text.now c.loop-round.text c.add_bids.new.text c.add_close.new.text
    c.loop-round.invariant bids c.in_ok-add_close.ensures
