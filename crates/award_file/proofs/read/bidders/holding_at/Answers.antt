use Rattle.std.proofs.Common.{◌≡◌, ap, Some, replicate}
use Rattle.award_file.proofs.read.bidders.holding_at.Goals as goal

pub returns-in_ok-vec-in-None : goal.returns-in_ok-vec-in-None
returns-in_ok-vec-in-None c =
    let missing = c.in-None.ensures in
    let zeros : c.in_ok-vec-in-None.field-0.items ≡ replicate c.args.categories 0 = c.in_ok-vec-in-None.ensures.items_if_clones_equal (λ y same. same) in
    rw (← missing) (ap Some zeros)
